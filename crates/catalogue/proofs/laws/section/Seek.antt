-- What a search says of the list: found or not, and where an entry is put or removed.
use Rattle.std.proofs.Common.{Result, Ok, Err}
use Prim.Native.Nat.{ℕ, suc, ◌≤◌}
use mathlib.Core.Path.{◌≡◌}
use mathlib.Core.List.{List, [], ◌∷◌, ◌++◌}
use mathlib.Core.Option.{none, some}
use native.Mathlib.Omega.{arith}
use lib.ListN.{length, take, drop, get_or, set}
use Rattle.catalogue.specs.Assoc.{find, put, remove, AscFrom}
use Rattle.catalogue.specs.Entries.{Sought, entry_of}
use Rattle.catalogue.proofs.laws.assoc.Below.{put_new, below_le}
use Rattle.catalogue.proofs.laws.assoc.Place.{place_none, place_some, put_set, remove_cut}

module _ (f : List ℕ → ℕ) (k : ℕ) (xs : List (List ℕ)) where
  pub found_find : (i : ℕ) → Sought f k xs (Ok i) → find f k xs ≡ some (get_or xs i [])
  found_find i s = rw s.0 (place_some f [] xs k (omega (arith, s.0, s.1)) (rw s.0 at s.2))

  module _ (a : AscFrom f 0 xs) where
    pub missing_find : (i : ℕ) → Sought f k xs (Err i) → find f k xs ≡ none
    missing_find i s = place_none f [] xs 0 k a (rw s.0 at s.1)

    pub sought_find : (s : Result ℕ ℕ) → Sought f k xs s → find f k xs ≡ entry_of xs s
    sought_find (Ok i) s = found_find i s
    sought_find (Err i) s = missing_find i s

    pub remove_found : (i : ℕ) → Sought f k xs (Ok i) → remove f k xs ≡ take i xs ++ drop (suc i) xs
    remove_found i s = rw s.0 (remove_cut f [] xs 0 k a (omega (arith, s.0, s.1)) (rw s.0 at s.2))

module _ (f : List ℕ → ℕ) (l : List ℕ) (xs : List (List ℕ)) (i : ℕ) where
  pub put_missing : AscFrom f 0 xs → Sought f (f l) xs (Err i) → (put f l xs ≡ take i xs ++ l ∷ drop i xs) × (i ≤ length xs)
  put_missing a s = (rw s.0 (put_new f l xs (missing_find f (f l) xs a i s)), omega (arith, s.0, below_le f (f l) xs))

  pub put_found : Sought f (f l) xs (Ok i) → put f l xs ≡ set xs i l
  put_found s = rw s.0 (put_set f [] l xs (omega (arith, s.0, s.1)) (rw s.0 at s.2))

-- the same search, of the same key in the same entries
pub sought_as : (f g : List ℕ → ℕ) (j k : ℕ) (xs ys : List (List ℕ)) (s : Result ℕ ℕ) → f ≡ g → j ≡ k → xs ≡ ys → Sought f j xs s → Sought g k ys s
sought_as f g j k xs ys s p q e h = rw (p, q, e) at h
