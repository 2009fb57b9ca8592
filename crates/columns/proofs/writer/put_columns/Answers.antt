use native.Mathlib.Omega.{arith}
use mathlib.Core.Path.{sym, ap, ◌∙◌}
use Prim.Native.Nat.{ℕ, ◌+◌}
use lib.ListN.{length}
use Rattle.std.proofs.lemmas.Result.{err_from_is_err_and}
use Rattle.columns.specs.Table.{columns_in, slots_of}
use Rattle.columns.proofs.laws.Table.{wider, sizes, slots_length, table_low, table_k, table_t}
use Rattle.columns.proofs.laws.Writer.{going_start, going_row, going_last, going_end, turn_fits, turn_ready, turn_refused, turn_done, turn_printed}
use Rattle.columns.proofs.writer.put_columns.Goals as goal

pub loop-row-init : goal.loop-row-init
loop-row-init c =
    let a = c.args in
    let p = c.requires in
    going_start (columns_in a.layout.now) a.start (slots_of a.flags.now a.values.now) a.text.now a.out.now (length a.flags.now) (length a.values.now) (slots_length a.flags.now a.values.now p.same) p

pub overflow_add-end : goal.overflow_add-end
overflow_add-end c =
    let a = c.args in
    let l = c.loop-row in
    let x = c.column_in-c in
    let w = sizes x.result a.layout.now.ranges.now a.layout.now.letters.now in
    let g = going_row a.layout.now.rows.now a.layout.now.ranges.now a.layout.now.letters.now l.row-index x.result c.loop-row-test.true x.ensures.0 l.invariant in
    omega (arith, table_low g.ready c.width_in.result (c.width_in.ensures ∙ sym w.wide))

pub slice_bounds-fill-end : goal.slice_bounds-fill-end
slice_bounds-fill-end c =
    let a = c.args in
    let l = c.loop-row in
    let x = c.column_in-c in
    let w = sizes x.result a.layout.now.ranges.now a.layout.now.letters.now in
    let g = going_row a.layout.now.rows.now a.layout.now.ranges.now a.layout.now.letters.now l.row-index x.result c.loop-row-test.true x.ensures.0 l.invariant in
    turn_fits g c.width_in.result (c.width_in.ensures ∙ sym w.wide)

pub loop-row-preserved-in-Printed : goal.loop-row-preserved-in-Printed
loop-row-preserved-in-Printed c =
    let a = c.args in
    let l = c.loop-row in
    let x = c.column_in-c in
    let p = c.in-Printed in
    let g = going_row a.layout.now.rows.now a.layout.now.ranges.now a.layout.now.letters.now l.row-index x.result c.loop-row-test.true x.ensures.0 l.invariant in
    turn_printed p.width p.byte (rw p.is at g) c.width_in.result (rw p.is at c.width_in.ensures) c.fill.ensures

pub slice_bounds-part-end : goal.slice_bounds-part-end
slice_bounds-part-end c =
    let a = c.args in
    let l = c.loop-row in
    let x = c.column_in-c in
    let w = sizes x.result a.layout.now.ranges.now a.layout.now.letters.now in
    let g = going_row a.layout.now.rows.now a.layout.now.ranges.now a.layout.now.letters.now l.row-index x.result c.loop-row-test.true x.ensures.0 l.invariant in
    turn_fits g c.width_in.result (c.width_in.ensures ∙ sym w.wide)

pub write_cell-requires : goal.write_cell-requires
write_cell-requires c =
    let a = c.args in
    let l = c.loop-row in
    let x = c.column_in-c in
    let w = sizes x.result a.layout.now.ranges.now a.layout.now.letters.now in
    let g = going_row a.layout.now.rows.now a.layout.now.ranges.now a.layout.now.letters.now l.row-index x.result c.loop-row-test.true x.ensures.0 l.invariant in
    (wider x.result x.ensures.1, turn_ready g c.width_in.result (c.width_in.ensures ∙ sym w.wide) (length a.flags.now) (slots_length a.flags.now a.values.now c.requires.same))

pub overflow_add-k : goal.overflow_add-k
overflow_add-k c =
    let a = c.args in
    let l = c.loop-row in
    let x = c.column_in-c in
    let w = sizes x.result a.layout.now.ranges.now a.layout.now.letters.now in
    let g = going_row a.layout.now.rows.now a.layout.now.ranges.now a.layout.now.letters.now l.row-index x.result c.loop-row-test.true x.ensures.0 l.invariant in
    omega (arith, table_k g.ready c.slots_in-k.result (c.slots_in-k.ensures ∙ sym w.numbers), slots_length a.flags.now a.values.now c.requires.same, c.well_formed)

pub overflow_add-t : goal.overflow_add-t
overflow_add-t c =
    let a = c.args in
    let l = c.loop-row in
    let x = c.column_in-c in
    let w = sizes x.result a.layout.now.ranges.now a.layout.now.letters.now in
    let g = going_row a.layout.now.rows.now a.layout.now.ranges.now a.layout.now.letters.now l.row-index x.result c.loop-row-test.true x.ensures.0 l.invariant in
    omega (arith, table_t g.ready c.texts_in-t.result (c.texts_in-t.ensures ∙ sym w.chars), c.well_formed)

pub returns-in_err-write_cell : goal.returns-in_err-write_cell
returns-in_err-write_cell c =
    let a = c.args in
    let l = c.loop-row in
    let x = c.column_in-c in
    let w = sizes x.result a.layout.now.ranges.now a.layout.now.letters.now in
    let g = going_row a.layout.now.rows.now a.layout.now.ranges.now a.layout.now.letters.now l.row-index x.result c.loop-row-test.true x.ensures.0 l.invariant in
    let p = err_from_is_err_and c.from_residual.result c.from_residual.ensures.1 in
    rw (p.1, p.2) (turn_refused g c.width_in.result (c.width_in.ensures ∙ sym w.wide) _ (rw (c.in_err-write_cell.was, ← w.numbers, ← w.chars) at c.write_cell.ensures))

pub loop-row-preserved : goal.loop-row-preserved
loop-row-preserved c =
    let a = c.args in
    let l = c.loop-row in
    let x = c.column_in-c in
    let w = sizes x.result a.layout.now.ranges.now a.layout.now.letters.now in
    let g = going_row a.layout.now.rows.now a.layout.now.ranges.now a.layout.now.letters.now l.row-index x.result c.loop-row-test.true x.ensures.0 l.invariant in
    turn_done g c.width_in.result (c.width_in.ensures ∙ sym w.wide) _ _ _ (ap (λ (m : ℕ). l.at + m) (c.width_in.ensures ∙ sym w.wide)) (ap (λ (m : ℕ). l.k + m) (c.slots_in-k.ensures ∙ sym w.numbers)) (ap (λ (m : ℕ). l.t + m) (c.texts_in-t.ensures ∙ sym w.chars)) (rw (c.in_ok-write_cell.was, ← w.numbers, ← w.chars) at c.write_cell.ensures)

pub returns : goal.returns
returns c =
    let a = c.args in
    let l = c.loop-row in
    going_end (going_last a.layout.now.rows.now a.layout.now.ranges.now a.layout.now.letters.now l.row-index c.loop-row-test.false l.invariant)
