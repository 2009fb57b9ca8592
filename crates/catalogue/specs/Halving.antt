-- A search by halving, for any contents, in order or not. Document 02, "Look up without walking the catalogue".
use Rattle.std.specs.Prelude.{ℕ, Option, Some, None, zero, suc, ◌+◌, ◌-◌, ◌/◌, ◌≡◌, List, [], ◌∷◌, ltb, eqb, length, get_or}
use Rattle.std.specs.Int.Count.{count_leading_zeros}
use Rattle.columns.specs.Answer.{pick}
use Rattle.catalogue.specs.declared.Searched.{Searched}

-- half the sum, rounded down, of a stretch's first place and the place after its last
abbrev pub middle : ℕ → ℕ → ℕ
middle first end = (first + end) / 2

-- the rule, where the entry at place i has the key `at i`, and k is sought: while the stretch is not empty, examine the entry at its
-- middle; if it has the key, stop, else go on in the half that can hold the key. The places examined, in their order; no stretch takes
-- more turns than it is long
unfoldable pub examine : (ℕ → ℕ) → ℕ → ℕ → ℕ → ℕ → List ℕ
examine at k zero first end = []
examine at k (suc turns) first end =
    pick (ltb first end)
    (middle first end ∷ pick (eqb (at (middle first end)) k)
    []
    (pick (ltb (at (middle first end)) k) (examine at k turns (middle first end + 1) end) (examine at k turns first (middle first end))))
    []

-- the place among them whose entry has the key
unfoldable pub looked_at : (ℕ → ℕ) → ℕ → List ℕ → Option ℕ
looked_at at k [] = None
looked_at at k (i ∷ is) = pick (eqb (at i) k) (Some i) (looked_at at k is)

-- that place, and how many entries were examined
abbrev pub searched : Option ℕ → ℕ → Searched
searched i m = record { place = i; examined = m }

abbrev pub searched_at : (ℕ → ℕ) → ℕ → List ℕ → Searched
searched_at at k is = searched (looked_at at k is) (length is)

abbrev pub halving : (ℕ → ℕ) → ℕ → ℕ → ℕ → ℕ → Searched
halving at k turns first end = searched_at at k (examine at k turns first end)

-- the entries of a list, all of them the stretch
abbrev pub key_at : (List ℕ → ℕ) → List (List ℕ) → ℕ → ℕ
key_at key xs i = key (get_or xs i [])

abbrev pub halve_in : (List ℕ → ℕ) → List (List ℕ) → ℕ → Searched
halve_in key xs k = halving (key_at key xs) k (length xs) 0 (length xs)

-- the same keys at the given places
abbrev pub SameAt : (ℕ → ℕ) → (ℕ → ℕ) → List ℕ → Type 0
SameAt at to [] = Unit {0}
SameAt at to (i ∷ is) = (at i ≡ to i) × SameAt at to is

-- how many binary digits a number has: the width less its leading zeros
abbrev pub binary_digits : ℕ → ℕ
binary_digits n = 64 - count_leading_zeros 64 n

-- a place, or a number where there is none
abbrev pub place_or : ℕ → Option ℕ → ℕ
place_or n (Some i) = i
place_or n None = n

-- what the code's search comes to: the place, or 512 where there is none; before it `from` entries could be examined, after it `left`
pub record Stopped (x : Searched) (place from left : ℕ) : Type 0 where
  pub place_is : place ≡ place_or 512 x.place
  pub left_is : left + x.examined ≡ from
