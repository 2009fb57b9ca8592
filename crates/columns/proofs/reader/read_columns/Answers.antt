use native.Mathlib.Omega.{arith}
use mathlib.Core.Path.{refl, sym, ap, ◌∙◌}
use Prim.Native.Nat.{ℕ, ◌+◌}
use lib.ListN.{take, drop}
use Rattle.std.proofs.lemmas.Result.{err_from_is_err_and}
use Rattle.columns.specs.Table.{columns_in, width_by}
use Rattle.columns.proofs.laws.Table.{wider, sizes, table_fits, table_k, table_t}
use Rattle.columns.proofs.laws.Reader.{going_start, going_row, going_last, going_end, turn_readable, turn_storable, turn_refused, turn_done, part_bytes}
use Rattle.columns.proofs.reader.read_columns.Goals as goal

pub loop-row-init : goal.loop-row-init
loop-row-init c =
    let a = c.args in
    going_start (columns_in a.layout.now) a.start a.line.now a.flags.now a.values.now a.text.now c.requires

pub overflow_add-k : goal.overflow_add-k
overflow_add-k c =
    let a = c.args in
    let l = c.loop-row in
    let x = c.column_in-c in
    let w = sizes x.result a.layout.now.ranges.now a.layout.now.letters.now in
    let g = going_row a.layout.now.rows.now a.layout.now.ranges.now a.layout.now.letters.now l.row-index x.result c.loop-row-test.true x.ensures.0 l.invariant in
    omega (arith, table_k g.ready c.slots_in.result (c.slots_in.ensures ∙ sym w.numbers), c.well_formed)

pub overflow_add-t : goal.overflow_add-t
overflow_add-t c =
    let a = c.args in
    let l = c.loop-row in
    let x = c.column_in-c in
    let w = sizes x.result a.layout.now.ranges.now a.layout.now.letters.now in
    let g = going_row a.layout.now.rows.now a.layout.now.ranges.now a.layout.now.letters.now l.row-index x.result c.loop-row-test.true x.ensures.0 l.invariant in
    omega (arith, table_t g.ready c.texts_in.result (c.texts_in.ensures ∙ sym w.chars), c.well_formed)

pub cell_within-read-requires : goal.cell_within-read-requires
cell_within-read-requires c =
    let a = c.args in
    let l = c.loop-row in
    let x = c.column_in-c in
    let w = sizes x.result a.layout.now.ranges.now a.layout.now.letters.now in
    let g = going_row a.layout.now.rows.now a.layout.now.ranges.now a.layout.now.letters.now l.row-index x.result c.loop-row-test.true x.ensures.0 l.invariant in
    (wider x.result x.ensures.1, turn_readable g)

pub slice_bounds-bytes-start : goal.slice_bounds-bytes-start
slice_bounds-bytes-start c = omega (arith, c.cell_within-read.ensures.next)

pub slice_bounds-bytes-end : goal.slice_bounds-bytes-end
slice_bounds-bytes-end c =
    let a = c.args in
    let l = c.loop-row in
    let x = c.column_in-c in
    let w = sizes x.result a.layout.now.ranges.now a.layout.now.letters.now in
    let g = going_row a.layout.now.rows.now a.layout.now.ranges.now a.layout.now.letters.now l.row-index x.result c.loop-row-test.true x.ensures.0 l.invariant in
    omega (arith, c.cell_within-read.ensures.next, w.wide, table_fits g.ready _ refl)

pub returns-in_err-read : goal.returns-in_err-read
returns-in_err-read c =
    let a = c.args in
    let l = c.loop-row in
    let x = c.column_in-c in
    let w = sizes x.result a.layout.now.ranges.now a.layout.now.letters.now in
    let g = going_row a.layout.now.rows.now a.layout.now.ranges.now a.layout.now.letters.now l.row-index x.result c.loop-row-test.true x.ensures.0 l.invariant in
    let p = err_from_is_err_and c.from_residual.result c.from_residual.ensures.1 in
    let b = part_bytes a.line.now l.cursor.at (width_by x.result) in
    rw (p.1, p.2) (turn_refused g _ (ap (λ (m : ℕ). take m (drop l.cursor.at a.line.now)) (b.0 ∙ sym w.wide)) _ (rw (c.in_err-read.was, b.1) at c.cell_within-read.ensures.answer))

pub store-requires : goal.store-requires
store-requires c =
    let a = c.args in
    let l = c.loop-row in
    let x = c.column_in-c in
    let w = sizes x.result a.layout.now.ranges.now a.layout.now.letters.now in
    let g = going_row a.layout.now.rows.now a.layout.now.ranges.now a.layout.now.letters.now l.row-index x.result c.loop-row-test.true x.ensures.0 l.invariant in
    let b = part_bytes a.line.now l.cursor.at (width_by x.result) in
    rw c.cell_within-read.ensures.next (turn_storable g _ (ap (λ (m : ℕ). take m (drop l.cursor.at a.line.now)) (b.0 ∙ sym w.wide)) c.in_ok-read.field-0 (rw (c.in_ok-read.was, b.1) at c.cell_within-read.ensures.answer))

pub loop-row-preserved : goal.loop-row-preserved
loop-row-preserved c =
    let a = c.args in
    let l = c.loop-row in
    let x = c.column_in-c in
    let w = sizes x.result a.layout.now.ranges.now a.layout.now.letters.now in
    let g = going_row a.layout.now.rows.now a.layout.now.ranges.now a.layout.now.letters.now l.row-index x.result c.loop-row-test.true x.ensures.0 l.invariant in
    let b = part_bytes a.line.now l.cursor.at (width_by x.result) in
    turn_done g _ (ap (λ (m : ℕ). take m (drop l.cursor.at a.line.now)) (b.0 ∙ sym w.wide)) c.in_ok-read.field-0 (rw (c.in_ok-read.was, b.1) at c.cell_within-read.ensures.answer) _ _ _ (c.cell_within-read.ensures.next ∙ ap (λ (m : ℕ). l.cursor.at + m) (sym w.wide)) (ap (λ (m : ℕ). l.k + m) (c.slots_in.ensures ∙ sym w.numbers)) (ap (λ (m : ℕ). l.t + m) (c.texts_in.ensures ∙ sym w.chars)) (rw c.cell_within-read.ensures.next at c.store.ensures)

pub returns : goal.returns
returns c =
    let a = c.args in
    let l = c.loop-row in
    going_end (going_last a.layout.now.rows.now a.layout.now.ranges.now a.layout.now.letters.now l.row-index c.loop-row-test.false l.invariant)
