use Rattle.std.proofs.Common.{rules}
use Rattle.take.proofs.laws.Steps.{kept, answered}
use Rattle.take.specs.Session.{Session, grown, ended, ended_said}
use native.Mathlib.Omega.{arith}
use mathlib.Core.Path.{ap, sym, ◌∙◌}
use Rattle.std.proofs.lemmas.Bool.{eqb-true}
use lib.ListN.{length}
use mathlib.Core.List.{◌++◌}
use Rattle.take.proofs.intake.Intake.take_next.Goals as goal
use Rattle.take.proofs.intake.Intake.take_next.Goals.{then-is_empty, else-is_empty}

pub returns-then-end-rest : goal.returns-then-end-rest
returns-then-end-rest g c =
    let a = c.args in
    let l = c.line_end-end in
    kept a.self.now a.out.now a.rest.now l.result l.ensures.0 l.ensures.2 c.keep.ensures.1 c.requires.0 c.if-end-rest.true c.keep.ensures.0

pub end-requires : goal.end-requires
unfolding grown
end-requires g c =
    (search rules, (c.requires.1, rw c.keep-else-is_empty.ensures.0 c.requires.2))

pub returns : goal.returns
returns g c =
    let a = c.args in
    let l = c.line_end-end in
    elim c.if-is_empty.branch [
      | then-is_empty w ↦
          answered a.self.now a.out.now a.rest.now l.result l.ensures.0 l.ensures.2 (omega (arith, eqb-true (length a.self.now.line) 0 (sym c.is_empty.ensures ∙ w.if-is_empty.true))) c.if-end-rest.false (w.self-is ∙ w.take_whole.ensures.0) (w.out-is ∙ w.take_whole.ensures.1)
      | else-is_empty w ↦
          let k = w.keep-else-is_empty.ensures in
          answered a.self.now a.out.now a.rest.now l.result l.ensures.0 l.ensures.2 k.1 c.if-end-rest.false (w.self-is ∙ w.end.ensures.0 ∙ ap ended k.0)
          (w.out-is ∙ w.end.ensures.1 ∙ ap (λ (u : Session). a.out.now ++ ended_said u) k.0)
    ]
