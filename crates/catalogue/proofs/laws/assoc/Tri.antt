-- Two numbers compared by one test, for a case split; formats' Tri has all three cases.
use Prim.Native.Nat.{ℕ, ◌≤◌, ◌<◌}
use mathlib.Core.Path.{◌≡◌}
use native.Mathlib.Omega.{arith}
use Rattle.columns.proofs.laws.Tri.{less, same, more, tri}

pub data Le? (a b : ℕ) : Type 0 where
  le : a ≤ b → Le? a b
  gt : b < a → Le? a b

pub le? : (a b : ℕ) → Le? a b
le? a b = elim (tri a b) [ less h ↦ le (omega arith) | same h ↦ le (omega arith) | more h ↦ gt h ]

pub data Eq? (a b : ℕ) : Type 0 where
  eq : a ≡ b → Eq? a b
  ne : (a ≡ b → ⊥) → Eq? a b

pub eq? : (a b : ℕ) → Eq? a b
eq? a b = elim (tri a b) [ less h ↦ ne (λ (e : a ≡ b). omega arith) | same h ↦ eq h | more h ↦ ne (λ (e : a ≡ b). omega arith) ]
