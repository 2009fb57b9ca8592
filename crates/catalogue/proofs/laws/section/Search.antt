-- The place of a key in an ascending list, by halves and by a walk; and the ascent, entry by entry.
use Prim.Native.Nat.{ℕ, zero, suc, ◌+◌, ◌-◌, ◌≤◌, ◌<◌}
use mathlib.Core.Path.{◌≡◌, sym, ◌∙◌}
use mathlib.Core.Bool.{Bool, true, false, ◌&&◌}
use mathlib.Core.List.{List, [], ◌∷◌}
use native.Mathlib.Numerals.{add-one}
use native.Mathlib.Omega.{arith}
use borrow.Author.Tests.{le-leb, ltb-true, ltb-false}
use lib.Dec.{ltb, leb}
use lib.ListN.{length, drop, get_or, drop_of_length-le}
use lib.Seq.{drop-cons}
use Rattle.columns.specs.Answer.{pick}
use Rattle.catalogue.specs.Assoc.{below, AscFrom}
use Rattle.catalogue.specs.Good.{ascends, every}
use Rattle.catalogue.proofs.laws.assoc.Tri.{le?, le, gt}
use Rattle.catalogue.proofs.laws.assoc.Below.{below_less, below_not, below_le}

module _ (key : List ℕ → ℕ) where
  -- a key at or above the given one is not before its place
  pub below_low : (xs : List (List ℕ)) (k i : ℕ) → i < length xs → k ≤ key (get_or xs i []) → below key k xs ≤ i
  below_low [] k i h q = absurd (omega arith)
  below_low (x ∷ xs) k zero h q = rw (below_not key x xs k q) (omega arith)
  below_low (x ∷ xs) k (suc i) h q =
      elim (le? k (key x)) [
        | le p ↦ rw (below_not key x xs k p) (omega arith)
        | gt p ↦ rw (below_less key x xs k p) (omega (arith, below_low xs k i (omega arith) q))
      ]

  pub asc_at : (xs : List (List ℕ)) (b i : ℕ) → AscFrom key b xs → i < length xs → b ≤ key (get_or xs i [])
  asc_at [] b i a h = absurd (omega arith)
  asc_at (x ∷ xs) b zero a h = a.0
  asc_at (x ∷ xs) b (suc i) a h = omega (arith, a.0, asc_at xs (suc (key x)) i a.1 (omega arith))

  -- in ascending keys, one below the given one is before its place
  pub below_high : (xs : List (List ℕ)) (b k i : ℕ) → AscFrom key b xs → i < length xs → key (get_or xs i []) < k → i < below key k xs
  below_high [] b k i a h q = absurd (omega arith)
  below_high (x ∷ xs) b k zero a h q = rw (below_less key x xs k q) (omega arith)
  below_high (x ∷ xs) b k (suc i) a h q =
      let p : key x < k = omega (arith, asc_at xs (suc (key x)) i a.1 (omega arith)) in
      rw (below_less key x xs k p) (omega (arith, below_high xs (suc (key x)) k i a.1 (omega arith) q))

  -- a greater key has no earlier place
  pub below_grows : (xs : List (List ℕ)) (k m : ℕ) → k ≤ m → below key k xs ≤ below key m xs
  unfolding below
  below_grows [] k m h = omega arith
  below_grows (x ∷ xs) k m h =
      elim (le? k (key x)) [
        | le p ↦ rw (below_not key x xs k p) (omega arith)
        | gt p ↦ rw (below_less key x xs k p, below_less key x xs m (omega arith)) (omega (arith, below_grows xs k m h))
      ]

-- a stretch of the first n that has a place in it
pub record Stretch (place n low high : ℕ) : Type 0 where
  pub from : low ≤ place
  pub to : place ≤ high
  pub end : high ≤ n

-- one turn: the place stays in the stretch; t says that the entry at mid is below the key
module _ (key : List ℕ → ℕ) (k : ℕ) (xs : List (List ℕ)) (asc : AscFrom key 0 xs) (n : ℕ) (count : length xs ≡ n) where
  pub whole_stretch : Stretch (below key k xs) n 0 n
  whole_stretch = record { from = omega arith; to = omega (arith, below_le key k xs); end = omega arith }

  pub halved : (low high mid : ℕ) (t : Bool) → Stretch (below key k xs) n low high → low ≤ mid → mid < high → t ≡ ltb (key (get_or xs mid [])) k
      → Stretch (below key k xs) n (pick t (mid + 1) low) (pick t high mid)
  halved low high mid true z p q e =
      let l : key (get_or xs mid []) < k = ltb-true (key (get_or xs mid [])) k (sym e) in
      record { from = omega (arith, below_high key xs 0 k mid asc (omega (arith, z.end)) l); to = z.to; end = z.end }
  halved low high mid false z p q e =
      let l : k ≤ key (get_or xs mid []) = ltb-false (key (get_or xs mid [])) k (sym e) in
      record { from = z.from; to = below_low key xs k mid (omega (arith, z.end)) l; end = omega (arith, z.end) }

  -- a walk: one entry further, or there
  pub walked : (j : ℕ) → j < n → true ≡ ltb (key (get_or xs j [])) k → j + 1 ≤ below key k xs
  walked j h e = omega (arith, below_high key xs 0 k j asc (omega arith) (ltb-true (key (get_or xs j [])) k (sym e)))

  pub arrived : (j : ℕ) → j ≤ below key k xs → j < n → false ≡ ltb (key (get_or xs j [])) k → j ≡ below key k xs
  arrived j p h e = omega (arith, below_low key xs k j (omega arith) (ltb-false (key (get_or xs j [])) k (sym e)))

  pub at_end : (j : ℕ) → j ≤ below key k xs → n ≤ j → j ≡ below key k xs
  at_end j p h = omega (arith, below_le key k xs)

-- the stretch grows shorter
pub shorter : (t : Bool) (low high mid : ℕ) → low ≤ mid → mid < high → pick t high mid - pick t (mid + 1) low < high - low
shorter true low high mid p q = omega arith
shorter false low high mid p q = omega arith

-- the ascent from the i-th entry on
module _ (key : List ℕ → ℕ) (xs : List (List ℕ)) where
  asc_step : (i b : ℕ) → i < length xs → ascends key b (drop i xs) ≡ (leb b (key (get_or xs i [])) && ascends key (suc (key (get_or xs i []))) (drop (i + 1) xs))
  unfolding ascends
  asc_step i b h = rw (add-one, drop-cons xs i [] h)

  pub asc_start : 0 < length xs → ascends key 0 xs ≡ ascends key (suc (key (get_or xs (1 - 1) []))) (drop 1 xs)
  asc_start h = asc_step 0 0 h ∙ rw (le-leb 0 (key (get_or xs 0 [])) (omega arith))

  pub asc_more : (i : ℕ) → 1 ≤ i → i < length xs → true ≡ ltb (key (get_or xs (i - 1) [])) (key (get_or xs i []))
      → ascends key (suc (key (get_or xs (i - 1) []))) (drop i xs) ≡ ascends key (suc (key (get_or xs (i + 1 - 1) []))) (drop (i + 1) xs)
  asc_more i p h e =
      let f : i + 1 - 1 ≡ i = omega arith in
      asc_step i (suc (key (get_or xs (i - 1) []))) h ∙ rw (f, ← e)

  pub asc_stop : (i : ℕ) → 1 ≤ i → i < length xs → false ≡ ltb (key (get_or xs (i - 1) [])) (key (get_or xs i []))
      → ascends key (suc (key (get_or xs (i - 1) []))) (drop i xs) ≡ false
  asc_stop i p h e = asc_step i (suc (key (get_or xs (i - 1) []))) h ∙ rw (← e)

  pub asc_end : (i b : ℕ) → length xs ≤ i → ascends key b (drop i xs) ≡ true
  unfolding ascends
  asc_end i b h = rw (drop_of_length-le xs {i = i} h)

-- a test of every entry, from the i-th on
module _ (p : List ℕ → Bool) (xs : List (List ℕ)) where
  pub every_more : (i : ℕ) → i < length xs → p (get_or xs i []) ≡ true → every p (drop i xs) ≡ every p (drop (i + 1) xs)
  unfolding every
  every_more i h e = rw (add-one, drop-cons xs i [] h, e)

  pub every_stop : (i : ℕ) → i < length xs → p (get_or xs i []) ≡ false → every p (drop i xs) ≡ false
  unfolding every
  every_stop i h e = rw (drop-cons xs i [] h, e)

  pub every_end : (i : ℕ) → length xs ≤ i → every p (drop i xs) ≡ true
  unfolding every
  every_end i h = rw (drop_of_length-le xs {i = i} h)
