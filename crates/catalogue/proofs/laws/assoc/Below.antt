-- How many entries are below a key: the place where an entry with a new key goes.
use Prim.Native.Nat.{ℕ, suc, ◌≤◌, ◌<◌, zero-le}
use mathlib.Core.Path.{◌≡◌, refl, sym, ◌∙◌, ap}
use mathlib.Core.List.{List, [], ◌∷◌, ◌++◌}
use mathlib.Core.Option.{none}
use native.Mathlib.Omega.{arith}
use lib.ListN.{length, take, drop}
use borrow.Author.Tests.{lt-ltb, le-ltb}
use Rattle.catalogue.specs.Assoc.{find, put, below}
use Rattle.columns.proofs.laws.Tri.{less, same, more, tri}
use Rattle.catalogue.proofs.laws.assoc.Assoc.{find_here, find_there, put_less, put_more}

module _ {E : Type 0} (key : E → ℕ) where
  pub below_less : (x : E) (xs : List E) (k : ℕ) → key x < k → below key k (x ∷ xs) ≡ suc (below key k xs)
  unfolding below
  below_less x xs k h = rw (lt-ltb (key x) k h)

  pub below_not : (x : E) (xs : List E) (k : ℕ) → k ≤ key x → below key k (x ∷ xs) ≡ 0
  unfolding below
  below_not x xs k h = rw (le-ltb (key x) k h)

  -- an entry with a new key goes in after those below it
  pub put_new : (e : E) (xs : List E) → find key (key e) xs ≡ none → put key e xs ≡ take (below key (key e) xs) xs ++ e ∷ drop (below key (key e) xs) xs
  unfolding put below
  put_new e [] h = refl
  put_new e (x ∷ xs) h =
      elim (tri (key e) (key x)) [
        | less p ↦ rw (put_less key e x xs p, below_not x xs (key e) (omega arith))
        | same p ↦ let z : ◌≡◌ {A = ℕ} 0 1 = cc (find_here key x xs (key e) (sym p)) in absurd (omega arith)
        | more p ↦
            let n : key x ≡ key e → ⊥ = λ (q : key x ≡ key e). omega arith in
            rw (put_more key e x xs p, below_less x xs (key e) p) (ap (λ (l : List E). x ∷ l) (put_new e xs (sym (find_there key x xs (key e) n) ∙ h)))
      ]

  pub below_le : (k : ℕ) (xs : List E) → below key k xs ≤ length xs
  unfolding below
  below_le k [] = zero-le
  below_le k (x ∷ xs) =
      elim (tri (key x) k) [
        | less p ↦ rw (below_less x xs k p) (omega (arith, below_le k xs))
        | same p ↦ rw (below_not x xs k (omega arith)) zero-le
        | more p ↦ rw (below_not x xs k (omega arith)) zero-le
      ]
