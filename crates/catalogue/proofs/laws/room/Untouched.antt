-- What a call leaves as it was: a room that is too short or not in order, and any room where the number answered says so.
use Prim.Native.Nat.{ℕ}
use mathlib.Core.Path.{◌≡◌, refl, sym, ◌∙◌, ap, subst}
use mathlib.Core.Logic.{◌⊎◌, inl, inr}
use mathlib.Core.Bool.{Bool, true, false}
use mathlib.Core.List.{List, ◌++◌}
use native.Mathlib.Omega.{arith}
use lib.ListN.{length, take, drop}
use Rattle.columns.specs.Answer.{too_short}
use Rattle.columns.specs.declared.Reason.{Reason}
use Rattle.catalogue.specs.Answers.{not_in_order, Call, declined_as}
use Rattle.catalogue.specs.Catalogue.{Catalogue}
use Rattle.catalogue.specs.Taking.{step}
use Rattle.catalogue.specs.Room.{room_size, encode, contents, is_in_order, checked, call_of, room_after}
use Rattle.catalogue.specs.Ordered.{Ordered}
use Rattle.catalogue.specs.Untouched.{ChangesNothing, Untouched}
use Rattle.catalogue.proofs.laws.assoc.Tri.{Le?, le, gt, le?}
use Rattle.catalogue.proofs.laws.step.Untouched.{step_untouched}
use Rattle.catalogue.proofs.laws.room.View.{checked_short, checked_disorder, view, call_is, room_is}

-- a room is in order or not
pub ordered? : (r : List ℕ) → Ordered r ⊎ (Ordered r → ⊥)
ordered? r = go (le? room_size (length r)) (is_in_order (take room_size r)) refl
  where
    go : Le? room_size (length r) → (t : Bool) → is_in_order (take room_size r) ≡ t → Ordered r ⊎ (Ordered r → ⊥)
    go (gt h) t e = inr (λ (o : Ordered r). omega (arith, o.long))
    go (le h) true e = inl (record { long = h; fine = e })
    go (le h) false e = inr (λ (o : Ordered r). let f = o.fine in let z : ◌≡◌ {A = ℕ} 0 1 = cc in omega arith)

-- ---- a room that is not: it is refused, 11 or 13, and stays

module _ (r : List ℕ) (out : Ordered r → ⊥) where
  checked_idle : {A : Type 0} (f : Reason → A) (a : A) → (checked r f a ≡ f too_short) ⊎ (checked r f a ≡ f not_in_order)
  checked_idle f a = go (le? room_size (length r)) (is_in_order (take room_size r)) refl
    where
      go : Le? room_size (length r) → (t : Bool) → is_in_order (take room_size r) ≡ t → (checked r f a ≡ f too_short) ⊎ (checked r f a ≡ f not_in_order)
      go (gt h) t e = inl (checked_short r f a h)
      go (le h) true e = absurd (out (record { long = h; fine = e }))
      go (le h) false e = inr (checked_disorder r f a h e)

  pub room_idle : (l : List ℕ) → room_after r l ≡ r
  room_idle l = elim (checked_idle (λ (n : Reason). r) (encode (step (contents (take room_size r)) l).after ++ drop room_size r)) [ inl e ↦ e | inr e ↦ e ]

  pub call_idle : (l : List ℕ) → (call_of r l ≡ declined_as too_short) ⊎ (call_of r l ≡ declined_as not_in_order)
  call_idle l = checked_idle {A = Call} declined_as (step (contents (take room_size r)) l).answer

-- ---- any room

pub untouched : Untouched
untouched r l u =
    elim (ordered? r) [
      | inl o ↦
          let n : ChangesNothing (step (contents r) l).answer = subst ChangesNothing (call_is r o l) u in
          room_is r o l ∙ ap (λ (c : Catalogue). encode c ++ drop room_size r) (step_untouched (contents r) l n) ∙ sym (view r o)
      | inr out ↦ room_idle r out l
    ]
