-- Distinct numbers that all stand in a list are at most as many as the list has.
use Prim.Native.Nat.{ℕ, suc, ◌≤◌, zero-le}
use mathlib.Core.Path.{◌≡◌, refl, sym, ◌∙◌, ap, subst}
use mathlib.Core.Logic.{inl, inr}
use mathlib.Core.List.Memᴰ
use mathlib.Core.List.{List, [], ◌∷◌, ◌++◌, Memᴰ}
use native.Mathlib.Omega.{arith}
use lib.ListN.{length}

abbrev pub Distinct : List ℕ → Type 0
Distinct [] = Unit {0}
Distinct (x ∷ xs) = (Memᴰ x xs → ⊥) × Distinct xs

-- the list without the place of a membership
without : {x : ℕ} (ys : List ℕ) → Memᴰ x ys → (zs : List ℕ) × (length ys ≡ suc (length zs)) × ((z : ℕ) → (z ≡ x → ⊥) → Memᴰ z ys → Memᴰ z zs)
without [] m = elim m [ ]
without (y ∷ ys) (Memᴰ.head e) = (ys, refl, λ z n m. elim (Memᴰ.cases_cons m) [ inl p ↦ absurd (n (p ∙ sym e)) | inr t ↦ t ])
without (y ∷ ys) (Memᴰ.tail m) =
    let r = without ys m in
    (y ∷ r.0, ap suc r.1, λ z n k. elim (Memᴰ.cases_cons k) [ inl p ↦ Memᴰ.head p | inr t ↦ Memᴰ.tail (r.2 z n t) ])

pub pigeon : (xs ys : List ℕ) → Distinct xs → ((z : ℕ) → Memᴰ z xs → Memᴰ z ys) → length xs ≤ length ys
pigeon [] ys d f = zero-le
pigeon (x ∷ xs) ys d f =
    let r = without ys (f x (Memᴰ.head refl)) in
    let h : length xs ≤ length r.0 =
    pigeon xs r.0 d.1 (λ (z : ℕ) (m : Memᴰ z xs). r.2 z (λ (e : z ≡ x). d.0 (subst (λ (u : ℕ). Memᴰ u xs) e m)) (f z (Memᴰ.tail m))) in
    omega (arith, r.1)

pub distinct_append : (xs ys : List ℕ) → Distinct xs → Distinct ys → ((z : ℕ) → Memᴰ z xs → Memᴰ z ys → ⊥) → Distinct (xs ++ ys)
distinct_append [] ys d e f = e
distinct_append (x ∷ xs) ys d e f = (
  λ m. elim (Memᴰ.append_cases xs m) [ inl a ↦ d.0 a | inr b ↦ f x (Memᴰ.head refl) b ],
  distinct_append xs ys d.1 e (λ (z : ℕ) (a : Memᴰ z xs) (b : Memᴰ z ys). f z (Memᴰ.tail a) b),
)
