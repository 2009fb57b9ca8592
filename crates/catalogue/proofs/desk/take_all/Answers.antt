use borrow.Author.Rules.{rules}
use native.Mathlib.Omega.{arith}
use Rattle.catalogue.proofs.laws.demand.Desk.{feeding_starts, feeding_within, feeding_turns, feeding_ends}
use Rattle.catalogue.proofs.desk.take_all.Goals as goal
use Rattle.catalogue.proofs.desk.take_all.Goals.{then-is_err, else-is_err}

pub loop-last-init : goal.loop-last-init
loop-last-init c =
    let a = c.args in
    feeding_starts a.room.now a.bytes.now a.ends.now

pub slice_bounds-take_line-count : goal.slice_bounds-take_line-count
slice_bounds-take_line-count c =
    omega (arith, feeding_within c.loop-last.invariant c.end_in-end.ensures)

pub slice_bounds-take_line-start : goal.slice_bounds-take_line-start
slice_bounds-take_line-start c =
    omega (arith, feeding_within c.loop-last.invariant c.end_in-end.ensures)

pub slice_bounds-take_line-end : goal.slice_bounds-take_line-end
slice_bounds-take_line-end c =
    omega (arith, feeding_within c.loop-last.invariant c.end_in-end.ensures)

pub loop-last-preserved : goal.loop-last-preserved
loop-last-preserved c =
    let l = c.loop-last in
    let t = c.take_line in
    elim c.if-is_err.branch [
      | then-is_err w ↦ rw (w.start-is, w.refused-is) (feeding_turns l.invariant (search rules) c.end_in-end.ensures t.ensures.0 t.ensures.1 t.auto.room (rw (← w.if-is_err.ensures.value) (omega arith)))
      | else-is_err w ↦ rw (w.start-is, w.refused-is) (feeding_turns l.invariant (search rules) c.end_in-end.ensures t.ensures.0 t.ensures.1 t.auto.room (rw (← w.if-is_err.ensures.value)))
    ]

pub shape_of-room : goal.shape_of-room
shape_of-room c =
    c.loop-last.invariant.as_long

pub returns : goal.returns
returns c =
    feeding_ends c.loop-last.invariant c.loop-last-test.false
