use mir.Syntax.{w64}
use mir.ValLaws.{to_z-of_z}
use lib.IntN.{ℤ}
use Rattle.columns.specs.Table.{value_of, slot_of, flags_of, values_of}
use Rattle.formats.specs.Record.{slots_in}
use Prim.Native.Nat.{◌*◌}
use lib.ListN.{length-set, length, get_or}
use Rattle.formats.proofs.laws.Record.{flags_turn, values_more, numbers_end, numbers_length}
use Rattle.columns.proofs.laws.Table.{flags_length, values_length, flags_none, values_none}
use borrow.Author.Rules.{rules}
use native.Mathlib.Omega.{arith}
use mathlib.Core.Path.{◌≡◌, refl, ap, ◌∙◌}
use Rattle.formats.proofs.record.get_numbers.Goals as goal

pub loop-i-init : goal.loop-i-init
unfolding slots_in
loop-i-init c =
    (search rules, search rules, search rules, flags_none _, values_none _)

pub loop-i-preserved : goal.loop-i-preserved
loop-i-preserved c =
    let l = c.loop-i in
    let a = c.args in
    let z = to_z-of_z w64 c.value_of.result (record { sfits = c.value_of.type_inv }) in
    let y = to_z-of_z w64 c.signed_of.result (record { sfits = c.signed_of.type_inv }) in
    (simp length-set (omega (arith, c.loop-i-test.true)), simp length-set l.invariant.1, simp length-set l.invariant.2, flags_turn l.i (8 * l.i) a.from.now a.bytes.now refl a.flags.now l.flags _ (omega (arith, l.invariant.1, l.invariant.2, c.requires.0, c.loop-i-test.true)) l.invariant.3 c.flag_of.ensures, values_more l.i (8 * l.i) a.from.now a.bytes.now refl a.values.now l.values _ _ (omega (arith, l.invariant.2, c.loop-i-test.true)) l.invariant.4 c.read_word.ensures (z ∙ c.value_of.ensures ∙ ap (λ (x : ℤ). value_of (slot_of (get_or a.from.now l.i 0) x)) (y ∙ c.signed_of.ensures)))

pub returns : goal.returns
returns c =
    let l = c.loop-i in
    let a = c.args in
    let n : l.i ≡ length a.values.now = omega (arith, l.invariant.2, c.loop-i-test.false, l.invariant.0) in
    let S = slots_in l.i a.from.now a.bytes.now in
    rw (← n)
    (numbers_end (flags_of S) a.flags.now l.flags (flags_length S ∙ numbers_length l.i a.from.now a.bytes.now ∙ omega (arith, c.requires.0)) l.invariant.3, numbers_end (values_of S) a.values.now l.values (values_length S ∙ numbers_length l.i a.from.now a.bytes.now ∙ n) l.invariant.4)
