use mir.Syntax.{w64}
use mir.ValLaws.{to_z-of_z}
use lib.IntN.{pos}
use Rattle.formats.specs.Record.{pattern_of, words_by}
use Prim.Native.Nat.{◌*◌}
use Rattle.formats.proofs.laws.Record.{values_turn}
use borrow.Author.Rules.{rules}
use mathlib.Core.Path.{refl, ap, ◌∙◌}
use lib.ListN.{get_or}
use Rattle.formats.proofs.record.put_values.Goals as goal

pub loop-i-init : goal.loop-i-init
unfolding words_by
loop-i-init c =
    (search rules, search rules, refl)

pub loop-i-preserved : goal.loop-i-preserved
loop-i-preserved c =
    let l = c.loop-i in
    let a = c.args in
    let z = to_z-of_z w64 (get_or a.values.now l.i (pos 0)) (search rules) in
    (search rules, search rules, values_turn a.values.now a.out.now l.out _ l.i (8 * l.i) _ c.loop-i-test.true c.requires refl l.invariant.2 (c.pattern_of.ensures ∙ ap pattern_of z) c.write_word.ensures)
