-- A room that is long enough and in order. Document 01, "The catalogue", in order.
use Rattle.std.specs.Prelude.{ℕ, ◌≤◌, ◌≡◌, true, List, length, take}
use Rattle.catalogue.specs.Room.{room_size, is_in_order}

pub record Ordered (r : List ℕ) : Type 0 where
  pub long : room_size ≤ length r
  pub fine : is_in_order (take room_size r) ≡ true
