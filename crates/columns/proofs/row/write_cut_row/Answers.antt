use native.Mathlib.Omega.{arith}
use mathlib.Core.Path.{◌≡◌, refl, sym, ap, ◌∙◌}
use Prim.Native.Nat.{ℕ, ◌-◌}
use lib.ListN.{length, take, drop, length-drop}
use borrow.Author.Tests.{not-true, not-false}
use Rattle.columns.specs.Answer.{refusal, bad_form, too_short}
use Rattle.columns.specs.Cut.{field_dropped, line_part, past_part, filled_past}
use lib.Seq.{take_all}
use Rattle.columns.specs.Bytes.{found}
use Rattle.columns.specs.Table.{columns_in, slots_of}
use Rattle.columns.proofs.laws.Bytes.{found_is, found_zero}
use Rattle.columns.proofs.laws.Answers.{wrote_as, wrote_refused}
use Rattle.columns.proofs.laws.Cut.{rows_cut, all_numbers, numbers_inside, texts_inside, line_table, past_table, filled_is, cut_part, cut_short, cut_filled, cut_line}
use Rattle.columns.proofs.row.write_cut_row.Goals as goal

pub is_whole-requires : goal.is_whole-requires
is_whole-requires c =
    let a = c.args in
    let r = a.layout.now.rows.now in
    rw (rows_cut r a.layout.now.ranges.now a.layout.now.letters.now (length r - a.past.rows)) (all_numbers c.requires)

pub returns-then-not-is_whole : goal.returns-then-not-is_whole
returns-then-not-is_whole c =
    let a = c.args in
    let r = a.layout.now.rows.now in
    let h = rw (rows_cut r a.layout.now.ranges.now a.layout.now.letters.now (length r - a.past.rows)) at c.is_whole.ensures in
    rw c.at.ensures (wrote_refused _ a.out.now bad_form 0 (cut_part (line_part a.layout.now a.past) (past_part a.layout.now a.past) a.flags.now (slots_of a.flags.now a.values.now) a.text.now (length a.out.now) (sym h ∙ not-true _ c.if-not-is_whole.true-raw)))

pub returns-then-out-width : goal.returns-then-out-width
returns-then-out-width c =
    let a = c.args in
    let w = c.requires in
    let r = a.layout.now.rows.now in
    let h = rw (rows_cut r a.layout.now.ranges.now a.layout.now.letters.now (length r - a.past.rows)) at c.is_whole.ensures in
    rw c.at-then-out-width.ensures (wrote_refused _ a.out.now too_short 0 (cut_short (line_part a.layout.now a.past) (past_part a.layout.now a.past) a.flags.now (slots_of a.flags.now a.values.now) a.text.now (length a.out.now) (sym h ∙ not-false _ c.if-not-is_whole.false-raw) (omega (arith, c.if-out-width.true, w.wide))))

pub slice_bounds-first_filled-count : goal.slice_bounds-first_filled-count
slice_bounds-first_filled-count c = numbers_inside c.requires

pub slice_bounds-first_filled-start : goal.slice_bounds-first_filled-start
slice_bounds-first_filled-start c = numbers_inside c.requires

pub slice_bounds-first_filled-count-2 : goal.slice_bounds-first_filled-count-2
slice_bounds-first_filled-count-2 c = texts_inside c.requires

pub slice_bounds-first_filled-start-2 : goal.slice_bounds-first_filled-start-2
slice_bounds-first_filled-start-2 c = texts_inside c.requires

pub first_filled-filled-requires : goal.first_filled-filled-requires
first_filled-filled-requires c =
    let a = c.args in
    let w = c.requires in
    let r = a.layout.now.rows.now in
    let n : ℕ = length r - a.past.rows in
    let d = c.part-dropped.ensures in
    let t : take (length r - n) (drop n r) ≡ drop n r = take_all (length r - n) (drop n r) (omega (arith, length-drop n r)) in
    let b : columns_in c.part-dropped.result ≡ past_part a.layout.now a.past = rw (d.0, d.1, d.2, t) in
    rw b (past_table w a.flags.now a.text.now refl refl)

pub returns-in-Some : goal.returns-in-Some
returns-in-Some c =
    let a = c.args in
    let w = c.requires in
    let r = a.layout.now.rows.now in
    let n : ℕ = length r - a.past.rows in
    let h = sym (rw (rows_cut r a.layout.now.ranges.now a.layout.now.letters.now n) at c.is_whole.ensures) ∙ not-false _ c.if-not-is_whole.false-raw in
    let d = c.part-dropped.ensures in
    let t : take (length r - n) (drop n r) ≡ drop n r = take_all (length r - n) (drop n r) (omega (arith, length-drop n r)) in
    let b : columns_in c.part-dropped.result ≡ past_part a.layout.now a.past = rw (d.0, d.1, d.2, t) in
    let e : c.first_filled-filled.result ≡ found (filled_past (line_part a.layout.now a.past) (past_part a.layout.now a.past) a.flags.now a.text.now) = rw b at c.first_filled-filled.ensures ∙ ap found (filled_is w a.flags.now a.text.now refl refl _ refl) in
    let q = found_is _ _ (sym e ∙ c.in-Some.is) in
    rw c.at-in-Some.ensures (wrote_refused _ a.out.now field_dropped _ (cut_filled (line_part a.layout.now a.past) (past_part a.layout.now a.past) a.flags.now (slots_of a.flags.now a.values.now) a.text.now (length a.out.now) h (rw (← w.wide) c.if-out-width.false) q.0 ∙ ap (refusal field_dropped) q.1))

pub write_columns-requires : goal.write_columns-requires
write_columns-requires c =
    let a = c.args in
    let w = c.requires in
    let n : ℕ = length a.layout.now.rows.now - a.past.rows in
    let p = c.part.ensures in
    let z : n - 0 ≡ n = omega arith in
    let q : columns_in c.part.result ≡ line_part a.layout.now a.past = rw (p.0, p.1, p.2, z) in
    rw q (w.wide, line_table w)

pub returns : goal.returns
returns c =
    let a = c.args in
    let w = c.requires in
    let r = a.layout.now.rows.now in
    let n : ℕ = length r - a.past.rows in
    let h = sym (rw (rows_cut r a.layout.now.ranges.now a.layout.now.letters.now n) at c.is_whole.ensures) ∙ not-false _ c.if-not-is_whole.false-raw in
    let d = c.part-dropped.ensures in
    let t : take (length r - n) (drop n r) ≡ drop n r = take_all (length r - n) (drop n r) (omega (arith, length-drop n r)) in
    let b : columns_in c.part-dropped.result ≡ past_part a.layout.now a.past = rw (d.0, d.1, d.2, t) in
    let e : c.first_filled-filled.result ≡ found (filled_past (line_part a.layout.now a.past) (past_part a.layout.now a.past) a.flags.now a.text.now) = rw b at c.first_filled-filled.ensures ∙ ap found (filled_is w a.flags.now a.text.now refl refl _ refl) in
    let p = c.part.ensures in
    let z : n - 0 ≡ n = omega arith in
    let q : columns_in c.part.result ≡ line_part a.layout.now a.past = rw (p.0, p.1, p.2, z) in
    let none = found_zero _ (sym e ∙ c.in_default.is) in
    wrote_as _ a.out.now _ _ _ (cut_line (line_part a.layout.now a.past) (past_part a.layout.now a.past) a.flags.now (slots_of a.flags.now a.values.now) a.text.now (length a.out.now) h (rw (← w.wide) c.if-out-width.false) none) (rw q at c.write_columns.ensures)
