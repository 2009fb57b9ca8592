use native.Mathlib.Omega.{arith}
use Rattle.std.proofs.Common.{Option, Some, None}
use Rattle.std.specs.Option.{is_some}
use mathlib.Core.Bool.{true, false}
use mathlib.Core.Path.{◌≡◌, refl, ap, ◌∙◌}
use mathlib.Core.Logic.{inl, inr}
use Prim.Native.Nat.{ℕ}
use Rattle.std.specs.Prelude.{Ok, Err}
use Rattle.catalogue.specs.LookUp.{look_up}
use Rattle.catalogue.proofs.laws.room.Encode.{room_size_lem}
use Rattle.catalogue.proofs.laws.room.Order.{front_length, front_ordered, front_disordered}
use Rattle.catalogue.proofs.laws.room.LookUp.{look_source, look_identifier, look_pair}
use Rattle.catalogue.proofs.laws.room.View.{checked_short, checked_disorder}
use Rattle.catalogue.proofs.look_up.look_up.Goals as goal

is_none_same : (o : Option ℕ) → is_some o ≡ false → o ≡ None
is_none_same (Some n) e = cc
is_none_same None e = refl

is_some_apart : (o : Option ℕ) → is_some o ≡ true → o ≡ None → ⊥
is_some_apart o t e = let h : is_some o ≡ false = rw e in cc

pub returns-then-room-lt-ROOM : goal.returns-then-room-lt-ROOM
unfolding look_up
returns-then-room-lt-ROOM c =
    let r = c.args.room.now in
    rw (checked_short r (λ n. Err n) _ (omega (arith, c.if-room-lt-ROOM.true, room_size_lem))) refl

pub named_pairs-requires : goal.named_pairs-requires
named_pairs-requires c =
    front_length c.args.room.now c.if-room-lt-ROOM.false

pub returns-then-is_none : goal.returns-then-is_none
unfolding look_up
returns-then-is_none c =
    let r = c.args.room.now in
    let h = c.if-room-lt-ROOM.false in
    rw (checked_disorder r (λ n. Err n) _ (omega (arith, room_size_lem)) (front_disordered r h c.named_pairs.ensures (is_none_same _ c.if-is_none.ensures))) refl

pub returns-then-source-ne2 : goal.returns-then-source-ne2
returns-then-source-ne2 c =
    let a = c.args in
    let o = front_ordered a.room.now c.if-room-lt-ROOM.false c.named_pairs.ensures (is_some_apart _ c.if-is_none.ensures) in
    elim c.then-source-ne2.either [
      | inl n ↦ look_source a.room.now a.source.now a.identifier.now o n
      | inr p ↦ look_identifier a.room.now a.source.now a.identifier.now o p.0 p.1
    ]

pub look_in-requires : goal.look_in-requires
look_in-requires c =
    (front_ordered c.args.room.now c.if-room-lt-ROOM.false c.named_pairs.ensures (is_some_apart _ c.if-is_none.ensures))

pub returns : goal.returns
returns c =
    let a = c.args in
    ap Ok c.look_in.ensures ∙ look_pair a.room.now a.source.now a.identifier.now ((front_ordered c.args.room.now c.if-room-lt-ROOM.false c.named_pairs.ensures (is_some_apart _ c.if-is_none.ensures))) c.if-source-ne2.false c.if-identifier-ne8.false c.key_by.ensures
