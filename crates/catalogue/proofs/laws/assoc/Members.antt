-- The keys of a list of entries, and what is found by them.
use Prim.Native.Nat.{ℕ, suc, ◌≤◌, ◌<◌}
use mathlib.Core.Path.{◌≡◌, sym, ◌∙◌, ap}
use mathlib.Core.Logic.{inl, inr}
use mathlib.Core.List.{List, [], ◌∷◌, map, Memᴰ}
use mathlib.Core.Option.{none, some}
use native.Mathlib.Omega.{arith}
use lib.ListN.{length, length-map}
use Rattle.catalogue.specs.Assoc.{find, AscFrom}
use Rattle.catalogue.proofs.laws.assoc.Tri.{eq, ne, eq?}
use Rattle.catalogue.proofs.laws.assoc.Assoc.{find_here, find_there}
use Rattle.catalogue.proofs.laws.assoc.Distinct.{Distinct, pigeon}

module _ {E : Type 0} (key : E → ℕ) where
  -- the keys of an ascending list are distinct
  pub key_above : (xs : List E) (b k : ℕ) → AscFrom key b xs → Memᴰ k (map key xs) → b ≤ k
  key_above [] b k s m = absurd (mathlib.Core.List.Memᴰ.not-nil m)
  key_above (x ∷ xs) b k s m =
      elim (mathlib.Core.List.Memᴰ.cases_cons m) [
        | inl p ↦ omega arith
        | inr t ↦ omega (arith, key_above xs (suc (key x)) k s.1 t)
      ]

  pub keys_distinct : (xs : List E) (b : ℕ) → AscFrom key b xs → Distinct (map key xs)
  keys_distinct [] b s = tt
  keys_distinct (x ∷ xs) b s = (λ m. omega (arith, key_above xs (suc (key x)) (key x) s.1 m), keys_distinct xs (suc (key x)) s.1)

  pub found : (xs : List E) (k : ℕ) → Memᴰ k (map key xs) → (e : E) × (find key k xs ≡ some e)
  found [] k m = absurd (mathlib.Core.List.Memᴰ.not-nil m)
  found (x ∷ xs) k m =
      elim (eq? (key x) k) [
        | eq p ↦ (x, find_here key x xs k p)
        | ne p ↦ elim (mathlib.Core.List.Memᴰ.cases_cons m) [
          | inl q ↦ absurd (p (sym q))
          | inr t ↦ let r = found xs k t in (r.0, find_there key x xs k p ∙ r.1)
        ]
      ]

  pub find_mem : (xs : List E) (k : ℕ) (e : E) → find key k xs ≡ some e → Memᴰ k (map key xs)
  unfolding find
  find_mem [] k e h = let z : ◌≡◌ {A = ℕ} 0 1 = cc in absurd (omega arith)
  find_mem (x ∷ xs) k e h =
      elim (eq? (key x) k) [
        | eq q ↦ mathlib.Core.List.Memᴰ.head (sym q)
        | ne q ↦ mathlib.Core.List.Memᴰ.tail (find_mem xs k e (sym (find_there key x xs k q) ∙ h))
      ]

  -- an entry of an ascending list is found by its key
  pub found_self : (xs : List E) (b : ℕ) (x : E) → AscFrom key b xs → Memᴰ x xs → (b ≤ key x) × (find key (key x) xs ≡ some x)
  found_self [] b x s m = absurd (mathlib.Core.List.Memᴰ.not-nil m)
  found_self (y ∷ ys) b x s m =
      elim (mathlib.Core.List.Memᴰ.cases_cons m) [
        | inl e ↦ (omega (arith, ap key e), find_here key y ys (key x) (ap key (sym e)) ∙ ap some (sym e))
        | inr t ↦
            let r = found_self ys (suc (key y)) x s.1 t in
            (omega (arith, r.0), find_there key y ys (key x) (λ (e : key y ≡ key x). omega (arith, r.0)) ∙ r.1)
      ]

  -- fewer entries than a list has that has all their keys and one more
  pub fewer : (xs : List E) (b : ℕ) → AscFrom key b xs → (ks : List ℕ) → ((z : ℕ) (e : E) → find key z xs ≡ some e → Memᴰ z ks)
      → (k : ℕ) → Memᴰ k ks → find key k xs ≡ none → length xs < length ks
  fewer xs b s ks f k m n =
      let within : (z : ℕ) → Memᴰ z (k ∷ map key xs) → Memᴰ z ks =
      λ (z : ℕ) (a : Memᴰ z (k ∷ map key xs)). elim (mathlib.Core.List.Memᴰ.cases_cons a) [
        | inl e ↦ mathlib.Core.List.Memᴰ.cast e m
        | inr t ↦ let r = found xs z t in f z r.0 r.1
      ] in
      let absent : Memᴰ k (map key xs) → ⊥ = λ (a : Memᴰ k (map key xs)). let r = found xs k a in let u : ◌≡◌ {A = ℕ} 0 1 = cc r.1 in omega arith in
      omega (arith, simp length-map at (pigeon (k ∷ map key xs) ks (absent, keys_distinct xs b s) within))
