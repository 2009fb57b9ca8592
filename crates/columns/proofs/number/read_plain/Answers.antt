use native.Mathlib.Omega.{arith}
use mathlib.Core.Path.{refl, sym, ◌∙◌}
use mathlib.Core.Path.{◌≡◌}
use Prim.Native.Nat.{◌+◌, ◌*◌, ◌-◌}
use lib.ListN.{length, get_or}
use Rattle.columns.proofs.laws.Form.{plain_end, walk_room, walk_digit_on, walk_stop, walk_blank_on, walk_other}
use Rattle.columns.proofs.laws.Number.{one_room, room_le, digit_bounds}
use Rattle.columns.proofs.number.read_plain.Goals as goal
use Rattle.columns.proofs.number.read_plain.Goals.{then-any-via-then-any, then-any-via-else-any+then-b-ne32, then-is_digit, else-is_digit+else-any+else-b-ne32}

pub loop-b-init : goal.loop-b-init
loop-b-init c =
    let z : length c.args.s.now - 0 ≡ length c.args.s.now = omega arith in
    (rw z (one_room (length c.args.s.now) c.requires), refl)

pub overflow_mul-n : goal.overflow_mul-n
overflow_mul-n c = omega (arith, room_le _ _ _ c.loop-b.invariant.0)

pub overflow_add-n : goal.overflow_add-n
overflow_add-n c =
    let d = digit_bounds (get_or c.args.s.now c.loop-b.b-index 0) (sym c.is_digit.ensures ∙ c.if-is_digit.true) in
    omega (arith, room_le _ _ _ c.loop-b.invariant.0, d.0, d.1, c.from.ensures)

pub returns-then-any : goal.returns-then-any
returns-then-any c =
    let l = c.loop-b in
    let n = sym c.is_digit.ensures ∙ c.if-is_digit.false in
    elim c.then-any.branch [
      | then-any-via-then-any w ↦
          sym (l.invariant.1 ∙ walk_stop c.args.s.now l.b-index l.any l.n c.loop-b-test.true n w.if-any.true)
      | then-any-via-else-any+then-b-ne32 w ↦
          sym (l.invariant.1 ∙ walk_other c.args.s.now l.b-index l.any l.n c.loop-b-test.true n w.if-any.false w.if-b-ne32.true)
    ]

pub loop-b-preserved : goal.loop-b-preserved
loop-b-preserved c =
    let l = c.loop-b in
    let s = c.args.s.now in
    let i = l.b-index in
    let r = c.is_digit.ensures in
    let h = c.loop-b-test.true in
    elim c.if-is_digit.branch [
      | then-is_digit w ↦
          let e = sym r ∙ w.if-is_digit.true in
          let d = digit_bounds (get_or s i 0) e in
          let n : c.if-is_digit.n ≡ l.n * 10 + (get_or s i 0 - 48) = rw (w.n-is, w.from.ensures) in
          (walk_room l.n c.if-is_digit.n i (length s) _ h (omega (arith, n, d.0, d.1)) l.invariant.0, l.invariant.1 ∙ walk_digit_on s i l.any l.n h e ∙ rw (n, w.any-is))
      | else-is_digit+else-any+else-b-ne32 w ↦
          (walk_room l.n c.if-is_digit.n i (length s) _ h (omega (arith, w.n-is)) l.invariant.0, l.invariant.1 ∙ walk_blank_on s i l.any l.n h (sym r ∙ w.if-is_digit.false) w.if-any.false w.if-b-ne32.false ∙ rw (w.n-is, w.any-is))
    ]

pub returns-then-any-2 : goal.returns-then-any-2
returns-then-any-2 c =
    let l = c.loop-b in
    sym (l.invariant.1 ∙ plain_end c.args.s.now l.b-index l.n l.any c.loop-b-test.false ∙ rw c.if-any-2.true)

pub returns-else-any-2 : goal.returns-else-any-2
returns-else-any-2 c =
    let l = c.loop-b in
    sym (l.invariant.1 ∙ plain_end c.args.s.now l.b-index l.n l.any c.loop-b-test.false ∙ rw c.if-any-2.false)
