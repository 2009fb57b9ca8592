-- Looking up, replacing and removing by place: the place of a key is how many entries are below it.
use Prim.Native.Nat.{ℕ, suc, ◌<◌}
use mathlib.Core.Path.{◌≡◌, refl, sym, ◌∙◌, ap}
use mathlib.Core.List.{List, [], ◌∷◌, ◌++◌}
use mathlib.Core.Option.{none, some}
use native.Mathlib.Omega.{arith}
use lib.ListN.{length, take, drop, get_or, set}
use Rattle.catalogue.specs.Assoc.{find, put, remove, below, AscFrom}
use Rattle.columns.proofs.laws.Tri.{less, same, more, tri}
use Rattle.catalogue.proofs.laws.assoc.Assoc.{find_here, find_there, find_below, put_same, put_more, remove_here, remove_there}
use Rattle.catalogue.proofs.laws.assoc.Below.{below_less, below_not}

module _ {E : Type 0} (key : E → ℕ) (d : E) where
  -- nothing is at the place of the key, or what is has another key: not found
  pub place_none : (xs : List E) (b k : ℕ) → AscFrom key b xs → (below key k xs < length xs → key (get_or xs (below key k xs) d) ≡ k → ⊥) → find key k xs ≡ none
  unfolding find below
  place_none [] b k s h = refl
  place_none (x ∷ xs) b k s h =
      elim (tri (key x) k) [
        | less p ↦
            let g = rw (below_less key x xs k p) at h in
            find_there key x xs k (λ (q : key x ≡ k). omega arith)
            ∙ place_none xs (suc (key x)) k s.1 (λ (l : below key k xs < length xs) (q : key (get_or xs (below key k xs) d) ≡ k). g (omega arith) q)
        | same p ↦ let g = rw (below_not key x xs k (omega arith)) at h in absurd (g (omega arith) p)
        | more p ↦ find_below key (x ∷ xs) (key x) k (omega arith, s.1) p
      ]

  -- what is at the place of the key has it: found
  pub place_some : (xs : List E) (k : ℕ) → below key k xs < length xs → key (get_or xs (below key k xs) d) ≡ k → find key k xs ≡ some (get_or xs (below key k xs) d)
  unfolding find below
  place_some [] k l q = absurd (omega arith)
  place_some (x ∷ xs) k l q =
      elim (tri (key x) k) [
        | less p ↦
            let e : below key k (x ∷ xs) ≡ suc (below key k xs) = below_less key x xs k p in
            rw (find_there key x xs k (λ (r : key x ≡ k). omega arith), e) (place_some xs k (omega arith) (rw e at q))
        | same p ↦ rw (find_here key x xs k p, below_not key x xs k (omega arith))
        | more p ↦ absurd (omega (arith, rw (below_not key x xs k (omega arith)) at q))
      ]

  -- replaced in its place
  pub put_set : (e : E) (xs : List E) → below key (key e) xs < length xs → key (get_or xs (below key (key e) xs) d) ≡ key e → put key e xs ≡ set xs (below key (key e) xs) e
  unfolding put below
  put_set e [] l q = absurd (omega arith)
  put_set e (x ∷ xs) l q =
      elim (tri (key x) (key e)) [
        | less p ↦
            let i : below key (key e) (x ∷ xs) ≡ suc (below key (key e) xs) = below_less key x xs (key e) p in
            rw (put_more key e x xs p, i) (ap (λ (t : List E). x ∷ t) (put_set e xs (omega arith) (rw i at q)))
        | same p ↦ rw (put_same key e x xs (sym p), below_not key x xs (key e) (omega arith))
        | more p ↦ absurd (omega (arith, rw (below_not key x xs (key e) (omega arith)) at q))
      ]

  pub remove_none : (xs : List E) (b k : ℕ) → AscFrom key b xs → k < b → remove key k xs ≡ xs
  unfolding remove
  remove_none [] b k s h = refl
  remove_none (x ∷ xs) b k s h = remove_there key x xs k (λ (q : key x ≡ k). omega arith) ∙ ap (λ (t : List E). x ∷ t) (remove_none xs (suc (key x)) k s.1 (omega arith))

  -- removed from its place
  pub remove_cut : (xs : List E) (b k : ℕ) → AscFrom key b xs → below key k xs < length xs → key (get_or xs (below key k xs) d) ≡ k
      → remove key k xs ≡ take (below key k xs) xs ++ drop (suc (below key k xs)) xs
  unfolding remove below
  remove_cut [] b k s l q = absurd (omega arith)
  remove_cut (x ∷ xs) b k s l q =
      elim (tri (key x) k) [
        | less p ↦
            let i : below key k (x ∷ xs) ≡ suc (below key k xs) = below_less key x xs k p in
            rw (remove_there key x xs k (λ (r : key x ≡ k). omega arith), i) (ap (λ (t : List E). x ∷ t) (remove_cut xs (suc (key x)) k s.1 (omega arith) (rw i at q)))
        | same p ↦ rw (remove_here key x xs k p, below_not key x xs k (omega arith)) (remove_none xs (suc (key x)) k s.1 (omega arith))
        | more p ↦ absurd (omega (arith, rw (below_not key x xs k (omega arith)) at q))
      ]
