use borrow.Author.Rules.{rules}
use native.Mathlib.Omega.{arith}
use mathlib.Core.Path.{refl, ◌∙◌}
use mathlib.Core.List.{◌∷◌}
use Prim.Native.Nat.{◌+◌, ◌*◌}
use lib.ListN.{get_or, take}
use lib.Seq.{length-take-le}
use Rattle.std.proofs.Common.{add-one}
use Rattle.formats.specs.Record.{words_by}
use Rattle.formats.specs.declared.lettered.LineKind.{LineKind}
use Rattle.formats.proofs.laws.Record.{words_length, words_turn}
use Rattle.formats.specs.RunSteps.{no_kind}
use Rattle.formats.proofs.run.put_counts.Goals as goal

pub loop-i-init : goal.loop-i-init
unfolding words_by
loop-i-init c =
    let a = c.args in
    (search rules, words_turn 2 (λ (k : LineKind). get_or a.tally.now k.letter 0) no_kind (a.kinds.opener ∷ a.kinds.others.now) a.out.now a.out.now _ 0 0 _ (omega arith) refl (omega (arith, c.requires)) refl refl c.write_word.ensures, search rules)

pub loop-i-preserved : goal.loop-i-preserved
loop-i-preserved c =
    let l = c.loop-i in
    let a = c.args in
    let h = c.loop-i-test.true in
    (search rules, words_turn 2 (λ (k : LineKind). get_or a.tally.now k.letter 0) no_kind (a.kinds.opener ∷ a.kinds.others.now) a.out.now l.out _ (l.i + 1) (2 * l.i + 2) _ (omega arith) (words_length 2 (λ (k : LineKind). get_or a.tally.now k.letter 0) (take (l.i + 1) (a.kinds.opener ∷ a.kinds.others.now)) ∙ omega (arith, length-take-le (l.i + 1) (a.kinds.opener ∷ a.kinds.others.now) (omega arith))) (omega (arith, c.requires)) l.invariant.1 (rw add-one refl) c.write_word-in-loop-i.ensures, search rules)
