-- What a call answers is small: a refused line's column, and a place among the held lines.
use Prim.Native.Nat.{ℕ, ◌≤◌}
use mathlib.Core.List.{List, [], ◌++◌}
use mathlib.Core.Option.{Option, none, some}
use native.Mathlib.Omega.{arith}
use borrow.Author.Tests.{leb-true}
use lib.Dec.{leb, eqb}
use lib.ListN.{length, take}
use Rattle.columns.specs.Answer.{pick, too_short, wrong_length}
use Rattle.std.specs.Prelude.{Ok, Err}
use Rattle.columns.specs.declared.Reason.{Reason}
use Rattle.catalogue.specs.Answers.{not_in_order, Call, declined_as, call_column}
use Rattle.catalogue.proofs.laws.step.Column.{step_low}
use Rattle.catalogue.specs.Assoc.{find, below}
use Rattle.catalogue.specs.Line.{key_of, key}
use Rattle.catalogue.specs.Room.{room_size, contents, is_in_order, checked, call_of}
use Rattle.catalogue.specs.Ordered.{Ordered}
use Rattle.catalogue.specs.LookUp.{Looked, look_place, looked_by, looked_in, look_up}
use Rattle.catalogue.proofs.laws.assoc.Below.{below_le}
use Rattle.catalogue.proofs.laws.assoc.Tests.{pick_by}
use Rattle.catalogue.proofs.laws.step.Good.{good_fits}
use Rattle.catalogue.proofs.laws.room.View.{same_contents, view_good}

-- what holds of each refusal, and of the answer on a room in order
checked_by : {A : Type 0} (P : A → Type 0) (r : List ℕ) (f : Reason → A) (a : A) → ((n : Reason) → P (f n)) → (Ordered r → P a) → P (checked r f a)
unfolding checked
checked_by P r f a g h =
    pick_by P (leb room_size (length r)) (pick (is_in_order (take room_size r)) a (f not_in_order)) (f too_short)
    (λ l. pick_by P (is_in_order (take room_size r)) a (f not_in_order) (λ o. h (record { long = leb-true room_size (length r) l; fine = o })) (λ o. g not_in_order))
    (λ l. g too_short)

pub column_low : (r l : List ℕ) → call_column (call_of r l) ≤ 255
column_low r l =
    checked_by (λ (x : Call). call_column x ≤ 255) r declined_as _ (λ n. omega arith) (λ o. step_low (contents (take room_size r)) l)

abbrev PlaceLow : Looked → Type 0
PlaceLow x = look_place x ≤ 512

looked_low : (o : Option (List ℕ)) (i : ℕ) → i ≤ 512 → PlaceLow (Ok (looked_by o i))
looked_low none i h = omega arith
looked_low (some x) i h = h

in_low : (r : List ℕ) → Ordered r → (k : ℕ) → PlaceLow (Ok (looked_in (contents (take room_size r)) k))
unfolding looked_in
in_low r o k =
    rw (← same_contents r o)
    (looked_low (find key k (contents r).held) (below key k (contents r).held) (omega (arith, below_le key k (contents r).held, (good_fits (contents r) (view_good r o)).0.1)))

pub place_low : (r so id : List ℕ) → look_place (look_up r so id) ≤ 512
unfolding look_up
place_low r so id =
    checked_by PlaceLow r (λ n. Err n) _ (λ n. omega arith)
    (λ o. pick_by PlaceLow (eqb (length so) 2) _ (Err wrong_length)
    (λ s. pick_by PlaceLow (eqb (length id) 8) _ (Err wrong_length) (λ t. in_low r o (key_of (so ++ id) [])) (λ t. omega arith))
    (λ s. omega arith))
