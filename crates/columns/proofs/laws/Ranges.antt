-- Laws of the range step, as the code comes to it.
use mathlib.Core.Path.{◌≡◌, refl, sym}
use mathlib.Core.Bool.{Bool, true, false, not}
use mathlib.Core.List.{List, [], ◌∷◌, ◌++◌}
use Prim.Native.Nat.{ℕ, zero, suc, ◌+◌, ◌≤◌}
use native.Mathlib.Omega.{arith}
use lib.Dec.{T}
use lib.ListN.{length, get_or}
use lib.IntN.{ℤ, pos, negsuc, nat_abs}
use borrow.Author.Tests.{ne_eqb}
use mir.Syntax.{w64}
use mir.Val.{SFits, to_z, of_z}
use mir.ValLaws.{to_z-of_z}
use lib.Signed.{lt_z, le_z}
use Rattle.columns.specs.Answer.{pick}
use Rattle.columns.specs.declared.group.Part.{Part}
use Rattle.columns.specs.declared.group.Group.{Group}
use Rattle.columns.specs.Group.{parts_range, group_range}
use Rattle.columns.specs.Column.{Slot, given, calendar_day, within, last_day, last_day_after, allowed, part_range}
use Rattle.columns.specs.Table.{range_at}
use Rattle.columns.proofs.laws.Calendar.{after_two}
use Rattle.columns.proofs.laws.Tests.{and-true}

-- a test of two signed numbers, as the code makes it
pub test_of : (v w : ℤ) (b : Bool) → SFits w64 v → SFits w64 w → lt_z (to_z w64 (of_z w64 v)) (to_z w64 (of_z w64 w)) ≡ b → lt_z v w ≡ b
test_of v w b p q t = rw (to_z-of_z w64 v p, to_z-of_z w64 w q) at t

module _ (lo hi v : ℤ) where
  pub within_low : lt_z v lo ≡ true → false ≡ within lo hi v
  within_low e = rw e

  pub within_high : lt_z v lo ≡ false → lt_z hi v ≡ true → false ≡ within lo hi v
  within_high e f = rw (e, f)

  pub within_in : lt_z v lo ≡ false → lt_z hi v ≡ false → true ≡ within lo hi v
  within_in e f = rw (e, f)

-- an end past the ranges is zero
pub get_d_past : (rs : List ℤ) (i : ℕ) → length rs ≤ i → pos 0 ≡ get_or rs i (pos 0)
get_d_past [] i h = refl
get_d_past (r ∷ rs) zero h = let y : ⊥ = omega arith in absurd y
get_d_past (r ∷ rs) (suc i) h = get_d_past rs i (omega arith)

-- the range by its number, as the code comes to it
module _ (rs : List ℤ) (k : ℕ) (seen : List Slot) (v : ℤ) where
  pub allowed_held : k ≡ 0 → true ≡ allowed (range_at rs k) seen v
  unfolding allowed
  allowed_held e = rw e

  pub allowed_from_zero : k ≡ 1 → le_z (pos 0) v ≡ allowed (range_at rs k) seen v
  unfolding allowed
  allowed_from_zero e = rw e

  pub allowed_day : k ≡ 2 → within (pos 1) (pos (last_day_after seen)) v ≡ allowed (range_at rs k) seen v
  unfolding allowed
  allowed_day e = rw e

  pub allowed_span : (k ≡ 0 → ⊥) → (k ≡ 1 → ⊥) → (k ≡ 2 → ⊥) → within (get_or rs k (pos 0)) (get_or rs (k + 1) (pos 0)) v ≡ allowed (range_at rs k) seen v
  unfolding allowed
  allowed_span a b c = rw (ne_eqb k 0 a, ne_eqb k 1 b, ne_eqb k 2 c)

-- number 2 is a day
pub range_day : (rs : List ℤ) (k : ℕ) → k ≡ 2 → range_at rs k ≡ calendar_day
range_day rs k e = rw e

pub part_allowed : (p : Part) (seen : List Slot) (v : ℤ) → within p.low p.high v ≡ allowed (part_range p) seen v
unfolding allowed
part_allowed p seen v = refl

-- a day after some numbers; after a year and a month
pub day_allowed : (seen : List Slot) (v : ℤ) → within (pos 1) (pos (last_day_after seen)) v ≡ allowed calendar_day seen v
unfolding allowed
day_allowed seen v = refl

pub day_of_month : (seen : List Slot) (y m v : ℤ) → within (pos 1) (pos (last_day (given y) (given m))) v ≡ allowed calendar_day (seen ++ given y ∷ given m ∷ []) v
unfolding allowed
day_of_month seen y m v = rw (after_two seen (given y) (given m))

-- three numbers of a group, as the code comes to them
module _ (g : Group) (seen : List Slot) (x y z : ℤ) where
  pub group_undated : g.dated ≡ false → parts_range g seen x y z ≡ group_range g seen x y z
  group_undated e = rw e (sym (and-true (parts_range g seen x y z)))

  pub group_out : parts_range g seen x y z ≡ false → false ≡ group_range g seen x y z
  group_out e = rw e

  pub group_dated : g.dated ≡ true → parts_range g seen x y z ≡ true → within (pos 1) (pos (last_day (given x) (given y))) z ≡ group_range g seen x y z
  group_dated e f = rw (e, f) (day_of_month seen x y z)

-- a number in a range from zero on is no negative one
low_case : (lo hi : ℤ) (n : ℕ) (b : Bool) → lt_z (negsuc n) lo ≡ b → T (not (lt_z lo (pos 0))) → pick b false (pick (lt_z hi (negsuc n)) false true) ≡ true → ⊥
low_case lo hi n true e t q = let z : ◌≡◌ {A = ℕ} 0 1 = cc in omega arith
low_case (pos m) hi n false e t q = let z : ◌≡◌ {A = ℕ} 0 1 = cc in omega arith
low_case (negsuc m) hi n false e t q = absurd t

pub not_below : (p : Part) (seen : List Slot) (v : ℤ) → T (not (lt_z p.low (pos 0))) → allowed (part_range p) seen v ≡ true → v ≡ pos (nat_abs v)
unfolding allowed
not_below p seen (pos n) t e = refl
not_below p seen (negsuc n) t e = absurd (low_case p.low p.high n (lt_z (negsuc n) p.low) refl t e)
