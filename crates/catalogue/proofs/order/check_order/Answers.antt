use native.Mathlib.Omega.{arith}
use mathlib.Core.Path.{sym}
use Rattle.std.specs.Prelude.{Ok, Err}
use Rattle.catalogue.proofs.laws.room.Encode.{room_size_lem}
use Rattle.catalogue.proofs.laws.room.View.{checked_short, checked_disorder, checked_fine}
use Rattle.catalogue.proofs.laws.room.Order.{front_length, front_ordered, front_disordered}
use Rattle.catalogue.proofs.order.check_order.Goals as goal

-- Each answer is that of the room's first bytes.
pub returns-then-room-lt-ROOM : goal.returns-then-room-lt-ROOM
returns-then-room-lt-ROOM c =
    sym (checked_short c.args.room.now (λ n. Err n) (Ok tt) (omega (arith, c.if-room-lt-ROOM.true, room_size_lem)))

pub named_pairs-requires : goal.named_pairs-requires
named_pairs-requires c =
    front_length c.args.room.now c.if-room-lt-ROOM.false

pub returns-in-Some : goal.returns-in-Some
returns-in-Some c =
    let r = c.args.room.now in
    sym (checked_fine r (λ n. Err n) (Ok tt) (front_ordered r c.if-room-lt-ROOM.false c.named_pairs.ensures (λ e. cc)))

pub returns-in-None : goal.returns-in-None
returns-in-None c =
    let r = c.args.room.now in
    let h = c.if-room-lt-ROOM.false in
    sym (checked_disorder r (λ n. Err n) (Ok tt) (omega (arith, room_size_lem)) (front_disordered r h c.named_pairs.ensures c.in-None.is))
