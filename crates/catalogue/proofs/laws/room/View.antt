-- A room in order is the layout of what it says, and what a call answers and leaves is what the catalogue's step says.
use Prim.Native.Nat.{ℕ, ◌≤◌, ◌<◌}
use mathlib.Core.Path.{◌≡◌, sym, ◌∙◌, ap, ap₂, subst}
use mathlib.Core.Bool.{false}
use mathlib.Core.List.{List, ◌++◌}
use lib.ListN.{length, take, drop, take-append-drop}
use borrow.Author.Tests.{le-leb, lt-leb}
use Rattle.columns.specs.Answer.{too_short}
use Rattle.columns.specs.Bytes.{same_bytes}
use Rattle.columns.proofs.laws.Bytes.{same_is}
use Rattle.catalogue.specs.Answers.{not_in_order}
use Rattle.columns.specs.declared.Reason.{Reason}
use Rattle.catalogue.specs.Catalogue.{Catalogue}
use Rattle.catalogue.specs.Taking.{step}
use Rattle.catalogue.specs.Good.{good}
use Rattle.catalogue.specs.Room.{room_size, encode, contents, is_in_order, checked, call_of, room_after}
use Rattle.catalogue.specs.Ordered.{Ordered}
use Rattle.catalogue.proofs.laws.assoc.Tests.{and_both}
use Rattle.catalogue.proofs.laws.step.Good.{Good, good_of}
use Rattle.catalogue.proofs.laws.step.Keep.{step_good}
use Rattle.catalogue.proofs.laws.room.Encode.{encoded_contents, encoded_rest, encoded_ordered}

-- ---- the order of a call's checks

module _ {A : Type 0} (r : List ℕ) (f : Reason → A) (a : A) where
  pub checked_short : length r < room_size → checked r f a ≡ f too_short
  unfolding checked
  checked_short h = rw (lt-leb room_size (length r) h)

  pub checked_disorder : room_size ≤ length r → is_in_order (take room_size r) ≡ false → checked r f a ≡ f not_in_order
  unfolding checked
  checked_disorder h e = rw (le-leb room_size (length r) h, e)

  pub checked_fine : Ordered r → checked r f a ≡ a
  unfolding checked
  checked_fine o = simp (le-leb room_size (length r) o.long, o.fine)

module _ (r : List ℕ) (o : Ordered r) where
  front_good : Good (contents (take room_size r))
  unfolding is_in_order
  front_good = good_of (contents (take room_size r)) (and_both (good (contents (take room_size r))) (same_bytes (encode (contents (take room_size r))) (take room_size r)) o.fine).0

  front_back : encode (contents (take room_size r)) ≡ take room_size r
  unfolding is_in_order
  front_back =
      same_is (encode (contents (take room_size r))) (take room_size r)
      (and_both (good (contents (take room_size r))) (same_bytes (encode (contents (take room_size r))) (take room_size r)) o.fine).1

  front_whole : r ≡ encode (contents (take room_size r)) ++ drop room_size r
  front_whole = sym (take-append-drop room_size r) ∙ ap (λ (u : List ℕ). u ++ drop room_size r) (sym front_back)

  pub same_contents : contents r ≡ contents (take room_size r)
  same_contents = ap contents front_whole ∙ encoded_contents (contents (take room_size r)) front_good (drop room_size r)

  pub view : r ≡ encode (contents r) ++ drop room_size r
  view = front_whole ∙ ap (λ (c : Catalogue). encode c ++ drop room_size r) (sym same_contents)

  pub view_good : Good (contents r)
  view_good = subst Good (sym same_contents) front_good

  -- a call
  pub call_is : (l : List ℕ) → call_of r l ≡ (step (contents r) l).answer
  call_is l = rw (checked_fine, ← same_contents)

  pub room_is : (l : List ℕ) → room_after r l ≡ encode (step (contents r) l).after ++ drop room_size r
  room_is l = rw (checked_fine, ← same_contents)

  -- it stays in order
  pub ordered_after : (l : List ℕ) → Ordered (room_after r l)
  ordered_after l = subst Ordered (sym (room_is l)) (encoded_ordered (step (contents r) l).after (step_good (contents r) view_good l) (drop room_size r))

  pub after_contents : (l : List ℕ) → contents (room_after r l) ≡ (step (contents r) l).after
  after_contents l = ap contents (room_is l) ∙ encoded_contents (step (contents r) l).after (step_good (contents r) view_good l) (drop room_size r)

-- the room of a good catalogue takes a line as the catalogue does
pub room_step : (c : Catalogue) (z l : List ℕ) → Good c → room_after (encode c ++ z) l ≡ encode (step c l).after ++ z
room_step c z l g =
    room_is (encode c ++ z) (encoded_ordered c g z) l
    ∙ ap₂ (λ (d : Catalogue) (q : List ℕ). encode (step d l).after ++ q) (encoded_contents c g z) (encoded_rest c g z)
