use native.Mathlib.Omega.{arith}
use mathlib.Core.Path.{sym}
use Prim.Native.Nat.{◌+◌}
use borrow.Author.Tests.{not-true, not-false}
use Rattle.columns.specs.Table.{columns_in}
use Rattle.columns.proofs.laws.Bytes.{found_some}
use Rattle.columns.proofs.laws.Cut.{looking_start, looking_numbers, looking_texts, looking_low, looking_filled, looking_width, looking_more, looking_end}
use Rattle.columns.proofs.row.first_filled.Goals as goal

pub loop-row-init : goal.loop-row-init
loop-row-init c =
    let a = c.args in
    looking_start a.flags.now a.text.now a.layout.now.rows.now a.layout.now.ranges.now a.layout.now.letters.now (columns_in a.layout.now) a.start c.requires

pub overflow_add-end : goal.overflow_add-end
overflow_add-end c =
    let a = c.args in
    let l = c.loop-row in
    let h = looking_numbers a.flags.now a.text.now a.layout.now.rows.now a.layout.now.ranges.now a.layout.now.letters.now _ a.start l.row-index l.at l.k l.t l.invariant c.loop-row-test.true c.column_in-c.result c.column_in-c.ensures.0 _ c.slots_in.ensures in
    omega (arith, h, c.well_formed)

pub overflow_add-to : goal.overflow_add-to
overflow_add-to c =
    let a = c.args in
    let l = c.loop-row in
    let h = looking_texts a.flags.now a.text.now a.layout.now.rows.now a.layout.now.ranges.now a.layout.now.letters.now _ a.start l.row-index l.at l.k l.t l.invariant c.loop-row-test.true c.column_in-c.result c.column_in-c.ensures.0 _ c.texts_in.ensures in
    omega (arith, h, c.well_formed)

pub slice_bounds-not_filled-end : goal.slice_bounds-not_filled-end
slice_bounds-not_filled-end c =
    let a = c.args in
    let l = c.loop-row in
    looking_numbers a.flags.now a.text.now a.layout.now.rows.now a.layout.now.ranges.now a.layout.now.letters.now _ a.start l.row-index l.at l.k l.t l.invariant c.loop-row-test.true c.column_in-c.result c.column_in-c.ensures.0 _ c.slots_in.ensures

pub slice_bounds-not_filled-end-in-loop-row : goal.slice_bounds-not_filled-end-in-loop-row
slice_bounds-not_filled-end-in-loop-row c =
    let a = c.args in
    let l = c.loop-row in
    looking_texts a.flags.now a.text.now a.layout.now.rows.now a.layout.now.ranges.now a.layout.now.letters.now _ a.start l.row-index l.at l.k l.t l.invariant c.loop-row-test.true c.column_in-c.result c.column_in-c.ensures.0 _ c.texts_in.ensures

pub overflow_add-result : goal.overflow_add-result
overflow_add-result c =
    let a = c.args in
    let l = c.loop-row in
    let h = looking_low a.flags.now a.text.now a.layout.now.rows.now a.layout.now.ranges.now a.layout.now.letters.now _ a.start l.row-index l.at l.k l.t l.invariant c.loop-row-test.true c.column_in-c.result c.column_in-c.ensures.0 in
    omega (arith, h)

pub returns-then-not-not_filled : goal.returns-then-not-not_filled
returns-then-not-not_filled c =
    let a = c.args in
    let l = c.loop-row in
    rw (looking_filled a.flags.now a.text.now a.layout.now.rows.now a.layout.now.ranges.now a.layout.now.letters.now _ a.start l.row-index l.at l.k l.t l.invariant c.loop-row-test.true c.column_in-c.result c.column_in-c.ensures.0 _ _ c.slots_in.ensures c.texts_in.ensures c.not_filled.result c.not_filled.ensures (not-true _ c.if-not-not_filled.true-raw)) (sym (found_some (l.at + 1) (omega arith)))

pub overflow_add-at : goal.overflow_add-at
overflow_add-at c =
    let a = c.args in
    let l = c.loop-row in
    let h = looking_width a.flags.now a.text.now a.layout.now.rows.now a.layout.now.ranges.now a.layout.now.letters.now _ a.start l.row-index l.at l.k l.t l.invariant c.loop-row-test.true c.column_in-c.result c.column_in-c.ensures.0 _ _ c.slots_in.ensures c.texts_in.ensures c.not_filled.result c.not_filled.ensures _ c.width_in-at.ensures in
    omega (arith, h)

pub loop-row-preserved : goal.loop-row-preserved
loop-row-preserved c =
    let a = c.args in
    let l = c.loop-row in
    looking_more a.flags.now a.text.now a.layout.now.rows.now a.layout.now.ranges.now a.layout.now.letters.now _ a.start l.row-index l.at l.k l.t l.invariant c.loop-row-test.true c.column_in-c.result c.column_in-c.ensures.0 _ _ c.slots_in.ensures c.texts_in.ensures c.not_filled.result c.not_filled.ensures (not-false _ c.if-not-not_filled.false-raw) _ c.width_in-at.ensures

pub returns : goal.returns
returns c =
    let a = c.args in
    let l = c.loop-row in
    rw (looking_end a.flags.now a.text.now a.layout.now.rows.now a.layout.now.ranges.now a.layout.now.letters.now _ a.start l.row-index l.at l.k l.t l.invariant c.loop-row-test.false)
