-- Tests, and what they say.
use Prim.Native.Nat.{ℕ, suc}
use mathlib.Core.Path.{◌≡◌, refl, sym, ◌∙◌, ap}
use mathlib.Core.Bool.{Bool, true, false, ◌&&◌}
use mathlib.Core.List.{List, [], ◌∷◌, Memᴰ}
use mathlib.Core.Option.{some}
use native.Mathlib.Omega.{arith}
use lib.Dec.{leb}
use borrow.Author.Tests.{leb-true, le-leb}
use Rattle.columns.specs.Answer.{pick}
use Rattle.catalogue.specs.Assoc.{find, AscFrom}
use Rattle.catalogue.specs.Good.{ascends, every}
use Rattle.catalogue.proofs.laws.assoc.Tri.{eq, ne, eq?}
use Rattle.catalogue.proofs.laws.assoc.Assoc.{find_here, find_there}

pub and_both : (a b : Bool) → (a && b) ≡ true → (a ≡ true) × (b ≡ true)
and_both true b h = (refl, h)
and_both false b h = let z : ◌≡◌ {A = ℕ} 0 1 = cc in absurd (omega arith)

-- by a test
pub pick_by : {A : Type 0} (P : A → Type 0) (b : Bool) (x y : A) → (b ≡ true → P x) → (b ≡ false → P y) → P (pick b x y)
pick_by P true x y f g = f refl
pick_by P false x y f g = g refl

-- a pick that is not the other one, and one that cannot be this
pub picked : {A : Type 0} (t : Bool) {n m r : A} → r ≡ pick t n m → (r ≡ m → ⊥) → (t ≡ true) × (r ≡ n)
picked true e f = (refl, e)
picked false e f = absurd (f e)

pub unpicked : {A : Type 0} (t : Bool) (m : A) {n r : A} → r ≡ pick t n m → (t ≡ true → r ≡ n → ⊥) → t ≡ false
unpicked true m e f = absurd (f refl e)
unpicked false m e f = refl

module _ {E : Type 0} (key : E → ℕ) where
  pub asc_of : (b : ℕ) (xs : List E) → ascends key b xs ≡ true → AscFrom key b xs
  unfolding ascends
  asc_of b [] h = tt
  asc_of b (x ∷ xs) h =
      let r = and_both (leb b (key x)) (ascends key (suc (key x)) xs) h in
      (leb-true b (key x) r.0, asc_of (suc (key x)) xs r.1)

  pub ascends_true : (b : ℕ) (xs : List E) → AscFrom key b xs → ascends key b xs ≡ true
  unfolding ascends
  ascends_true b [] s = refl
  ascends_true b (x ∷ xs) s = simp (le-leb b (key x) s.0, ascends_true (suc (key x)) xs s.1)

module _ (p : List ℕ → Bool) where
  pub every_true : (xs : List (List ℕ)) → ((x : List ℕ) → Memᴰ x xs → p x ≡ true) → every p xs ≡ true
  unfolding every
  every_true [] f = refl
  every_true (x ∷ xs) f = simp (f x (Memᴰ.head refl), every_true xs (λ (y : List ℕ) (m : Memᴰ y xs). f y (Memᴰ.tail m)))

  pub every_find : (key : List ℕ → ℕ) (xs : List (List ℕ)) (k : ℕ) (e : List ℕ) → every p xs ≡ true → find key k xs ≡ some e → p e ≡ true
  unfolding every find
  every_find key [] k e h f = let z : ◌≡◌ {A = ℕ} 0 1 = cc in absurd (omega arith)
  every_find key (x ∷ xs) k e h f =
      let r = and_both (p x) (every p xs) h in
      elim (eq? (key x) k) [
        | eq q ↦ let u : x ≡ e = cc (find_here key x xs k q) in ap p (sym u) ∙ r.0
        | ne q ↦ every_find key xs k e r.1 (sym (find_there key x xs k q) ∙ f)
      ]
