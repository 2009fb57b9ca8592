use native.Mathlib.Omega.{arith}
use borrow.Author.Tests.{not-true, not-false}
use Rattle.columns.specs.Table.{columns_in}
use Rattle.columns.proofs.laws.Row.{testing_start, testing_fits, testing_other, testing_more, testing_end}
use Rattle.columns.proofs.row.is_whole.Goals as goal

pub loop-row-init : goal.loop-row-init
loop-row-init c = testing_start c.args.flags.now (columns_in c.args.layout.now) c.requires

pub overflow_add-end : goal.overflow_add-end
overflow_add-end c =
    let a = c.args in
    let l = c.loop-row in
    let h = testing_fits _ a.flags.now a.layout.now.rows.now a.layout.now.ranges.now a.layout.now.letters.now l.row-index l.k l.invariant c.loop-row-test.true c.column_in.result c.column_in.ensures.0 _ c.slots_in.ensures in
    omega (arith, h, c.well_formed)

pub slice_bounds-all_alike-end : goal.slice_bounds-all_alike-end
slice_bounds-all_alike-end c =
    let a = c.args in
    let l = c.loop-row in
    testing_fits _ a.flags.now a.layout.now.rows.now a.layout.now.ranges.now a.layout.now.letters.now l.row-index l.k l.invariant c.loop-row-test.true c.column_in.result c.column_in.ensures.0 _ c.slots_in.ensures

pub returns-then-not-all_alike : goal.returns-then-not-all_alike
returns-then-not-all_alike c =
    let a = c.args in
    let l = c.loop-row in
    testing_other _ a.flags.now a.layout.now.rows.now a.layout.now.ranges.now a.layout.now.letters.now l.row-index l.k l.invariant c.loop-row-test.true c.column_in.result c.column_in.ensures.0 _ c.slots_in.ensures c.all_alike.result c.all_alike.ensures (not-true _ c.if-not-all_alike.true-raw)

pub loop-row-preserved : goal.loop-row-preserved
loop-row-preserved c =
    let a = c.args in
    let l = c.loop-row in
    testing_more _ a.flags.now a.layout.now.rows.now a.layout.now.ranges.now a.layout.now.letters.now l.row-index l.k l.invariant c.loop-row-test.true c.column_in.result c.column_in.ensures.0 _ c.slots_in.ensures c.all_alike.result c.all_alike.ensures (not-false _ c.if-not-all_alike.false-raw)

pub returns : goal.returns
returns c =
    let a = c.args in
    let l = c.loop-row in
    testing_end _ a.flags.now a.layout.now.rows.now a.layout.now.ranges.now a.layout.now.letters.now l.row-index l.k l.invariant c.loop-row-test.false
