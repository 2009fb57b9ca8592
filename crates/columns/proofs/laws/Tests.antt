-- Laws of tests joined by `&&`.
use mathlib.Core.Path.{◌≡◌, refl}
use mathlib.Core.Bool.{Bool, true, false, not, ◌&&◌}
use Prim.Native.Nat.{ℕ}
use native.Mathlib.Omega.{arith}
use lib.Dec.{T}

pub T_true : (t : Bool) → T t → t ≡ true
T_true true p = refl
T_true false p = absurd p

pub T_and : (s t : Bool) → T (s && t) → T s × T t
T_and true t p = (tt, p)
T_and false t p = absurd p

pub and_T : (s t : Bool) → T s → T t → T (s && t)
and_T true t p q = q
and_T false t p q = absurd p

pub both_true : (s t : Bool) → s && t ≡ true → (s ≡ true) × (t ≡ true)
both_true true t e = (refl, e)
both_true false t e = let z : ◌≡◌ {A = ℕ} 0 1 = cc in let y : ⊥ = omega arith in absurd y

pub and-true : (t : Bool) → t && true ≡ t
and-true true = refl
and-true false = refl

pub and_false : (t : Bool) → t && false ≡ false
and_false true = refl
and_false false = refl

pub not_not : (t : Bool) → not t ≡ false → t ≡ true
not_not true e = refl
not_not false e = let z : ◌≡◌ {A = ℕ} 0 1 = cc in let y : ⊥ = omega arith in absurd y
