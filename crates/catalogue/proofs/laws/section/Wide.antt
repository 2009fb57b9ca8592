-- Rows of one width, and sections that fit.
use Prim.Native.Nat.{ℕ, zero, suc, ◌≤◌}
use mathlib.Core.Path.{◌≡◌, refl}
use mathlib.Core.List.{List, [], ◌∷◌, Memᴰ}
use lib.ListN.{length, take, drop}
use Rattle.catalogue.specs.Assoc.{put, remove}
use Rattle.columns.proofs.laws.Tri.{less, same, more, tri}
use Rattle.catalogue.proofs.laws.assoc.Tri.{eq, ne, eq?}
use Rattle.catalogue.proofs.laws.assoc.Assoc.{put_less, put_same, put_more, remove_here, remove_there}
use Rattle.catalogue.specs.Section.{Part}

-- each row has w bytes
abbrev pub Wide : ℕ → List (List ℕ) → Type 0
Wide w [] = Unit {0}
Wide w (x ∷ xs) = (length x ≡ w) × Wide w xs

-- each section's rows have their width, and are not too many
abbrev pub Fits : List Part → Type 0
Fits [] = Unit {0}
Fits (p ∷ ps) = (Wide p.size p.entries × (length p.entries ≤ p.most)) × Fits ps

pub wide : (w : ℕ) (xs : List (List ℕ)) → ((x : List ℕ) → Memᴰ x xs → length x ≡ w) → Wide w xs
wide w [] f = tt
wide w (x ∷ xs) f = (f x (Memᴰ.head refl), wide w xs (λ (y : List ℕ) (m : Memᴰ y xs). f y (Memᴰ.tail m)))

pub wide_take : (w j : ℕ) (xs : List (List ℕ)) → Wide w xs → Wide w (take j xs)
wide_take w zero xs h = tt
wide_take w (suc j) [] h = tt
wide_take w (suc j) (x ∷ xs) h = (h.0, wide_take w j xs h.1)

pub wide_drop : (w j : ℕ) (xs : List (List ℕ)) → Wide w xs → Wide w (drop j xs)
wide_drop w zero xs h = h
wide_drop w (suc j) [] h = tt
wide_drop w (suc j) (x ∷ xs) h = wide_drop w j xs h.1

-- where a row is put in or removed
module _ (f : List ℕ → ℕ) (w : ℕ) where
  pub put_wide : (l : List ℕ) (xs : List (List ℕ)) → length l ≡ w → Wide w xs → Wide w (put f l xs)
  unfolding put
  put_wide l [] h k = (h, tt)
  put_wide l (x ∷ xs) h k =
      elim (tri (f l) (f x)) [
        | less p ↦ rw (put_less f l x xs p) (h, k)
        | same p ↦ rw (put_same f l x xs p) (h, k.1)
        | more p ↦ rw (put_more f l x xs p) (k.0, put_wide l xs h k.1)
      ]

  pub remove_wide : (j : ℕ) (xs : List (List ℕ)) → Wide w xs → Wide w (remove f j xs)
  unfolding remove
  remove_wide j [] k = tt
  remove_wide j (x ∷ xs) k =
      elim (eq? (f x) j) [
        | eq p ↦ rw (remove_here f x xs j p) (remove_wide j xs k.1)
        | ne p ↦ rw (remove_there f x xs j p) (k.0, remove_wide j xs k.1)
      ]
