use borrow.Author.Rules.{rules}
use native.Mathlib.Omega.{arith}
use mathlib.Core.Path.{◌≡◌, refl, sym, ◌∙◌}
use mathlib.Core.List.{[]}
use Prim.Native.Nat.{◌+◌, ◌*◌}
use lib.ListN.{length}
use Rattle.columns.specs.Table.{columns_of}
use Rattle.columns.proofs.laws.Table.{wider, sizes}
use Rattle.columns.proofs.laws.Judge.{left_start, left_row, left_last, left_end, left_good, left_simple, left_room, left_fits, left_refused, left_next}
use Rattle.formats.proofs.judge.judge_sealed.Goals as goal

pub loop-i-init : goal.loop-i-init
loop-i-init c =
    let a = c.args in
    (search rules, refl, left_start (columns_of a.rows.now a.ranges.now []) a.start a.line.now c.requires.0)

pub cell_ok_within-requires : goal.cell_ok_within-requires
cell_ok_within-requires c =
    let a = c.args in
    let l = c.loop-i in
    let x = c.column_in-c in
    let g = left_row a.rows.now a.ranges.now [] l.i x.result c.loop-i-test.true x.ensures.0 l.invariant.2 in
    (wider x.result x.ensures.1, (left_good g).0, (left_simple g, (left_room g, omega (arith, left_fits g, (sizes x.result a.ranges.now []).wide))))

pub returns-then-not-cell_ok_within : goal.returns-then-not-cell_ok_within
returns-then-not-cell_ok_within c =
    let a = c.args in
    let l = c.loop-i in
    let x = c.column_in-c in
    let g = left_row a.rows.now a.ranges.now [] l.i x.result c.loop-i-test.true x.ensures.0 l.invariant.2 in
    left_refused g _ (sym (sizes x.result a.ranges.now []).wide) (rw c.if-not-cell_ok_within.true at c.cell_ok_within.ensures)

pub loop-i-preserved : goal.loop-i-preserved
loop-i-preserved c =
    let a = c.args in
    let l = c.loop-i in
    let x = c.column_in-c in
    let g = left_row a.rows.now a.ranges.now [] l.i x.result c.loop-i-test.true x.ensures.0 l.invariant.2 in
    let z : 3 * l.i + 3 ≡ 3 * (l.i + 1) = omega arith in (
      search rules,
      rw z at c.with_three-sum.ensures ∙ l.invariant.1,
      rw c.width_in-at.ensures (left_next g _ (sym (sizes x.result a.ranges.now []).wide) (rw c.if-not-cell_ok_within.false at c.cell_ok_within.ensures)),
    )

pub returns : goal.returns
returns c =
    let a = c.args in
    let l = c.loop-i in
    let z : l.i ≡ length a.rows.now = omega arith in
    (left_end (left_last a.rows.now a.ranges.now [] l.i c.loop-i-test.false l.invariant.2), rw z at l.invariant.1)
