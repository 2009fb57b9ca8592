-- Two numbers compared: what holds, for a case split.
use Prim.Native.Nat.{ℕ, ◌<◌}
use mathlib.Core.Path.{◌≡◌, refl}
use mathlib.Core.Bool.{Bool, true, false}
use native.Mathlib.Omega.{arith}
use lib.Dec.{ltb}
use borrow.Author.Tests.{ltb-true, ltb-false}

pub data Tri (a b : ℕ) : Type 0 where
  less : a < b → Tri a b
  same : a ≡ b → Tri a b
  more : b < a → Tri a b

pub tri : (a b : ℕ) → Tri a b
tri a b = go (ltb a b) refl (ltb b a) refl
  where
    go : (s : Bool) → ltb a b ≡ s → (t : Bool) → ltb b a ≡ t → Tri a b
    go true p t q = less (ltb-true a b p)
    go false p true q = more (ltb-true b a q)
    go false p false q = same (omega (arith, ltb-false a b p, ltb-false b a q))
