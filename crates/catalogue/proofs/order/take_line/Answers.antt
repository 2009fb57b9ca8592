use native.Mathlib.Omega.{arith}
use Prim.Native.Nat.{ℕ, ◌≤◌, ◌<◌}
use mathlib.Core.Path.{◌≡◌, ap}
use Rattle.std.specs.Prelude.{Err}
use mathlib.Core.Bool.{false}
use mathlib.Core.List.{List}
use lib.ListN.{length, take}
use Rattle.catalogue.specs.Room.{room_size, is_in_order}
use Rattle.catalogue.proofs.laws.room.View.{checked_short, checked_disorder}
use Rattle.catalogue.proofs.laws.room.Encode.{room_size_lem}
use Rattle.catalogue.proofs.laws.room.Order.{front_length, front_ordered, front_disordered, front_named}
use Rattle.catalogue.proofs.order.take_line.Goals as goal

-- The room is short, out of order, or taken into with the pairs that the check counted.
pub returns-then-room-lt-ROOM : goal.returns-then-room-lt-ROOM
returns-then-room-lt-ROOM c =
    let h : length c.args.room.now < room_size = omega (arith, c.if-room-lt-ROOM.true, room_size_lem) in
    (rw checked_short (ap Err c.at.ensures), rw checked_short)

pub named_pairs-requires : goal.named_pairs-requires
named_pairs-requires c =
    front_length c.args.room.now c.if-room-lt-ROOM.false

pub returns-in_default : goal.returns-in_default
returns-in_default c =
    let r : List ℕ = c.args.room.now in
    let l = c.if-room-lt-ROOM.false in
    let h : room_size ≤ length r = omega (arith, room_size_lem) in
    let e : is_in_order (take room_size r) ≡ false = front_disordered r l c.named_pairs.ensures c.in_default.is in
    (rw checked_disorder (ap Err c.at-in_default.ensures), rw checked_disorder)

pub take_ordered-requires : goal.take_ordered-requires
take_ordered-requires c =
    let r = c.args.room.now in
    let h = c.if-room-lt-ROOM.false in
    let n = c.named_pairs.ensures in
    (front_ordered r h n (λ e. cc), front_named r h n c.in-Some.is)

pub returns : goal.returns
returns c =
    (c.take_ordered.ensures.call_is, c.take_ordered.ensures.room_is)
