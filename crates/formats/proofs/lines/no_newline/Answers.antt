use borrow.Author.Rules.{rules}
use native.Mathlib.Omega.{arith}
use mathlib.Core.Path.{◌≡◌, refl, sym, ◌∙◌}
use mathlib.Core.Bool.{false≢true}
use Rattle.formats.proofs.laws.Lines.{seen_next, end_last}
use Rattle.formats.proofs.lines.no_newline.Goals as goal

pub loop-i-init : goal.loop-i-init
loop-i-init c =
    (search rules, (λ e. refl, λ e. absurd (false≢true (sym e))))

pub loop-i-preserved : goal.loop-i-preserved
loop-i-preserved c =
    (search rules, seen_next c.args.c.now c.loop-i.i (search rules) c.loop-i.ok c.loop-i.invariant.1)

pub returns : goal.returns
returns c =
    let z : c.loop-i.i ≡ 16 = omega arith in
    (λ e. c.loop-i.invariant.1.0 e ∙ rw z (end_last 10 c.args.c.now 16 (search rules)), λ e. omega (arith, c.loop-i.invariant.1.1 e))
