use native.Mathlib.Omega.{arith}
use mathlib.Core.Path.{sym, ◌∙◌}
use borrow.Author.Tests.{not-true, not-false}
use lib.ListN.{get_or, length}
use Rattle.columns.proofs.laws.Number.{digits_other, digits_step, digits_none, digit_bounds, room_le, room_at}
use Rattle.columns.proofs.number.read_digits.Goals as goal

pub returns-then-not-is_digit : goal.returns-then-not-is_digit
returns-then-not-is_digit c =
    let l = c.loop-b in
    sym (l.invariant.1 ∙ digits_other c.args.s.now l.b-index c.loop-b-test.true l.n (sym c.is_digit.ensures ∙ not-true _ c.if-not-is_digit.true-raw))

pub overflow_mul-n : goal.overflow_mul-n
overflow_mul-n c = omega (arith, room_le _ _ _ c.loop-b.invariant.0)

pub overflow_add-n : goal.overflow_add-n
overflow_add-n c =
    let d = digit_bounds (get_or c.args.s.now c.loop-b.b-index 0) (sym c.is_digit.ensures ∙ not-false _ c.if-not-is_digit.false-raw) in
    omega (arith, room_le _ _ _ c.loop-b.invariant.0, d.0, d.1, c.from.ensures)

pub loop-b-preserved : goal.loop-b-preserved
loop-b-preserved c =
    let l = c.loop-b in
    let e = sym c.is_digit.ensures ∙ not-false _ c.if-not-is_digit.false-raw in
    let d = digit_bounds (get_or c.args.s.now l.b-index 0) e in
    rw c.from.ensures
    (room_at l.b-index (length c.args.s.now) l.n _ _ c.loop-b-test.true (omega (arith, d.0, d.1)) l.invariant.0, l.invariant.1 ∙ digits_step c.args.s.now l.b-index c.loop-b-test.true l.n e)

pub returns : goal.returns
returns c =
    let l = c.loop-b in
    sym (l.invariant.1 ∙ digits_none c.args.s.now l.b-index l.n c.loop-b-test.false)
