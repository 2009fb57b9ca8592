use borrow.Author.Rules.{rules}
use native.Mathlib.Omega.{arith}
use mathlib.Core.Path.{◌≡◌, refl, sym, ap, ◌∙◌}
use Prim.Native.Nat.{◌+◌, ◌-◌}
use lib.ListN.{length, take, drop, get_or, length-take, length-drop}
use Prim.Native.Nat.{◌<◌}
use lib.ListN.{replicate, length-replicate}
use lib.IntN.{pos}
use mir.Syntax.{w64}
use mir.ValLaws.{to_z-of_z}
use lib.Dec.{eqb}
use Rattle.columns.specs.Column.{allowed, text}
use Rattle.columns.specs.Table.{range_at, slots_of, group_at}
use Rattle.columns.specs.Writing.{put_number, write_cell}
use Rattle.columns.proofs.laws.Answers.{wrote_as, wrote_done}
use Rattle.columns.proofs.laws.Table.{good_text, group_good, slots_length, slot_at}
use Rattle.columns.proofs.laws.Puts.{put_tested, group_slots}
use Rattle.columns.proofs.laws.Writer.{at_number, at_group}
use Rattle.columns.proofs.writer.write_cell.Goals as goal

pub put_number-requires : goal.put_number-requires
put_number-requires c =
    let p = rw c.in-Number.is at c.requires.1 in
    (omega (arith, p.low), (p.wide, p.fine))

pub put_text-requires : goal.put_text-requires
put_text-requires c =
    let a = c.args in
    let w = c.in-Text in
    let p = rw c.in-Text.is at c.requires.1 in
    let n : length (take (a.t + w.width - a.t) (drop a.t a.text.now)) ≡ w.width = omega (arith, length-take (a.t + w.width - a.t) (drop a.t a.text.now), length-drop a.t a.text.now, p.chars) in
    (omega (arith, n, p.low, p.wide), (omega (arith, n, good_text w.width w.rule (text w.width w.rule) refl p.fine), p.wide ∙ sym n))

pub put_letter-requires : goal.put_letter-requires
put_letter-requires c =
    let a = c.args in
    let p = rw c.in-Letter.is at c.requires.1 in
    let n : length (take (a.t + 1 - a.t) (drop a.t a.text.now)) ≡ 1 = omega (arith, length-take (a.t + 1 - a.t) (drop a.t a.text.now), length-drop a.t a.text.now, p.chars) in
    (omega (arith, n, p.low, p.wide), (n, p.wide ∙ sym n))

pub write_group-requires : goal.write_group-requires
write_group-requires c =
    let n = c.in-Group.number in
    let p = rw c.in-Group.is at c.requires.1 in
    rw c.group_at.ensures (p.wide, (group_good n, (omega (arith, p.low), (p.numbers, omega (arith, p.numbers, p.same)))))

pub returns-in-Number : goal.returns-in-Number
returns-in-Number c =
    let a = c.args in
    let p = rw c.in-Number.is at c.requires.1 in
    let fs = a.flags.now in
    let vs = a.values.now in
    let v = get_or vs a.k (pos 0) in
    let seen = take a.k (slots_of fs vs) in
    let m = c.in-Number.form in
    let q = c.in-Number.required in
    let g = range_at a.layout.now.ranges.now c.in-Number.range in
    let z = to_z-of_z w64 v (search rules) in
    let t : c.allows-fits.result ≡ allowed g seen v = rw z at c.allows-fits.ensures in
    let l : a.k < length (slots_of fs vs) = omega (arith, slots_length fs vs p.same, p.numbers) in
    rw c.in-Number.is
    (wrote_as _ a.out.now _ _ _ (put_tested m q (allowed g seen) a.at v _ t (eqb (get_or fs a.k 0) 0) ∙ ap (put_number m q (allowed g seen) a.at) (sym (slot_at fs vs a.k p.same (omega (arith, p.numbers)))) ∙ at_number a.at a.k a.t (slots_of fs vs) a.text.now m q g l) (rw z at c.put_number.ensures))

pub returns-in-Text : goal.returns-in-Text
unfolding write_cell
returns-in-Text c =
    let a = c.args in
    let w = c.in-Text in
    let z : a.t + w.width - a.t ≡ w.width = omega arith in
    rw c.in-Text.is (rw z at c.put_text.ensures)

pub returns-in-Letter : goal.returns-in-Letter
unfolding write_cell
returns-in-Letter c =
    let a = c.args in
    let z : a.t + 1 - a.t ≡ 1 = omega arith in
    rw c.in-Letter.is (rw (z, c.set-set.ensures) at c.put_letter.ensures)

pub returns-in-Group : goal.returns-in-Group
returns-in-Group c =
    let a = c.args in
    let p = rw c.in-Group.is at c.requires.1 in
    let fs = a.flags.now in
    let vs = a.values.now in
    let seen = take a.k (slots_of fs vs) in
    let g = group_at c.in-Group.number in
    rw c.in-Group.is
    (wrote_as _ a.out.now _ _ _
    (sym
    (group_slots g seen a.at _ _ _ _ _ _ (slot_at fs vs a.k p.same (omega (arith, p.numbers)))
    (slot_at fs vs (a.k + 1) p.same (omega (arith, p.numbers))) (slot_at fs vs (a.k + 2) p.same (omega (arith, p.numbers))))
    ∙ at_group a.at a.k a.t (slots_of fs vs) a.text.now g)
    (rw c.group_at.ensures at (c.write_group.ensures seen)))

pub returns-in-Printed : goal.returns-in-Printed
unfolding write_cell
returns-in-Printed c =
    let a = c.args in
    let p = rw c.in-Printed.is at c.requires.1 in
    rw c.in-Printed.is (wrote_done _ a.out.now (replicate c.in-Printed.width c.in-Printed.byte) _ refl (length-replicate c.in-Printed.width c.in-Printed.byte ∙ sym p.wide) (c.fill.ensures ∙ rw p.wide))
