-- What is read in a number field always fits it: the writer takes it back.
use native.Mathlib.Nat.{mul-le-mul_right, pow-le-pow_right}
use lib.Pow.{pow-add}
use mathlib.Core.Path.{◌≡◌, refl, ◌∙◌, subst}
use mathlib.Core.Bool.{Bool, true, false}
use mathlib.Core.List.{List, [], ◌∷◌}
use Prim.Native.Nat.{ℕ, zero, suc, ◌+◌, ◌-◌, ◌^◌, ◌≤◌, ◌<◌}
use native.Mathlib.Omega.{arith}
use lib.ListN.{length, take, drop, length-drop}
use lib.Dec.{eqb, lit<}
use lib.IntN.{ℤ}
use borrow.Author.Tests.{lt-ltb}
use native.Mathlib.Numerals.{add-one}
use lib.Seq.{length-take-le}
use Rattle.columns.specs.declared.number.Scan.{Scan}
use Rattle.std.specs.Prelude.{Option, Some, None}
use Rattle.columns.specs.Answer.{pick}
use Rattle.columns.specs.Bytes.{is_none, trim}
use Rattle.columns.specs.Number.{digits, number, with_sign, signed_number, scan, fraction, signed, value, int_field, dec_field, holds_int, holds_dec}
use Rattle.columns.proofs.laws.Number.{digits_bound}
use Rattle.columns.proofs.laws.Written.{power_pos}
use Rattle.columns.proofs.laws.NumberBack.{sign_places}
use Rattle.columns.proofs.laws.Bytes.{skip_short}
use Rattle.columns.specs.declared.number.Field.TheVariants as F
use Rattle.columns.specs.declared.number.Scan.TheVariants as S

with_inv : (k : Bool) (x : (Option ℕ)) (m : Bool) (n : ℕ) → with_sign k x ≡ S.Number m n → (k ≡ m) × (x ≡ Some n)
with_inv k (Some j) m n e = (cc, cc)
with_inv k None m n e = let z : ◌≡◌ {A = ℕ} 0 1 = cc in let y : ⊥ = omega arith in absurd y

number_fits : (s : List ℕ) (n : ℕ) → number s ≡ Some n → n < 10 ^ length s
unfolding number
number_fits [] n e = let z : ◌≡◌ {A = ℕ} 0 1 = cc in let y : ⊥ = omega arith in absurd y
number_fits (b ∷ s) n e = digits_bound (10 ^ length (b ∷ s)) 0 (b ∷ s) n (omega arith) e

sign_case : (t : Bool) (b : ℕ) (s : List ℕ) (m : Bool) (n : ℕ) → pick t (with_sign true (number s)) (with_sign false (number (b ∷ s))) ≡ S.Number m n → n < 10 ^ (suc (length s) - sign_places m)
sign_case true b s m n e =
    let i = with_inv true (number s) m n e in
    let z : suc (length s) - 1 ≡ length s = omega arith in
    rw (← i.0) (rw z (number_fits s n i.1))
sign_case false b s m n e =
    let i = with_inv false (number (b ∷ s)) m n e in
    let z : suc (length s) - 0 ≡ suc (length s) = omega arith in
    rw (← i.0) (rw z (number_fits (b ∷ s) n i.1))

signed_fits : (g : List ℕ) (m : Bool) (n : ℕ) → signed_number g ≡ S.Number m n → n < 10 ^ (length g - sign_places m)
unfolding signed_number
signed_fits [] m n e = let z : ◌≡◌ {A = ℕ} 0 1 = cc in let y : ⊥ = omega arith in absurd y
signed_fits (b ∷ s) m n e = sign_case (eqb b 45) b s m n e

power_mono : (a b n : ℕ) → a ≤ b → n < 10 ^ a → n < 10 ^ b
power_mono a b n h k = omega (arith, pow-le-pow_right {n = 10} (lit< tt) {i = a} {j = b} h)

scan_fits : (f : List ℕ) (m : Bool) (n : ℕ) → scan f ≡ S.Number m n → n < 10 ^ (length f - sign_places m)
unfolding scan
scan_fits f m n e = power_mono (length (trim f) - sign_places m) (length f - sign_places m) n (omega (arith, skip_short 32 f)) (signed_fits (trim f) m n e)

record Number (x : Scan) (v : ℤ) : Type 0 where
  minus : Bool
  size : ℕ
  is : x ≡ S.Number minus size
  value : signed minus size ≡ v

value_inv : (x : Scan) (v : ℤ) → value x ≡ F.Value v → Number x v
value_inv S.Blank v e = let z : ◌≡◌ {A = ℕ} 0 1 = cc in let y : ⊥ = omega arith in absurd y
value_inv S.Malformed v e = let z : ◌≡◌ {A = ℕ} 0 1 = cc in let y : ⊥ = omega arith in absurd y
value_inv (S.Number m n) v e = record { minus = m; size = n; is = refl; value = cc }

int_holds_signed : (w : ℕ) (m : Bool) (n : ℕ) → n < 10 ^ (w - sign_places m) → holds_int w (signed m n) ≡ true
unfolding holds_int
int_holds_signed w false n h = let z : w - 0 ≡ w = omega arith in lt-ltb n (10 ^ w) (rw z at h)
int_holds_signed w true zero h = lt-ltb 0 (10 ^ w) (power_pos w)
int_holds_signed w true (suc n) h = lt-ltb (n + 1) (10 ^ (w - 1)) (rw add-one h)

pub int_holds : (f : List ℕ) (v : ℤ) → int_field f ≡ F.Value v → holds_int (length f) v ≡ true
unfolding int_field
int_holds f v e =
    let x = value_inv (scan f) v e in
    rw (← x.value) (int_holds_signed (length f) x.minus x.size (scan_fits f x.minus x.size x.is))

none_case : (t : Bool) (m : Bool) (n : ℕ) → pick t S.Blank S.Malformed ≡ S.Number m n → ⊥
none_case true m n e = let z : ◌≡◌ {A = ℕ} 0 1 = cc in omega arith
none_case false m n e = let z : ◌≡◌ {A = ℕ} 0 1 = cc in omega arith

point_case : (t : Bool) (k : Bool) (j : ℕ) (s : List ℕ) (m : Bool) (n a : ℕ) → ((i : ℕ) → S.Number k j ≡ S.Number m i → i < 10 ^ a) → pick t (with_sign k (digits j s)) S.Malformed ≡ S.Number m n → n < 10 ^ (a + length s)
point_case true k j s m n a f e =
    let i = with_inv k (digits j s) m n e in
    let h : j < 10 ^ a = f j (rw i.0) in
    digits_bound (10 ^ (a + length s)) j s n (rw pow-add (mul-le-mul_right (10 ^ length s) (omega arith))) i.1
point_case false k j s m n a f e = let z : ◌≡◌ {A = ℕ} 0 1 = cc in let y : ⊥ = omega arith in absurd y

fraction_fits : (x : Scan) (s : List ℕ) (m : Bool) (n a : ℕ) → ((i : ℕ) → x ≡ S.Number m i → i < 10 ^ a) → fraction x s ≡ S.Number m n → n < 10 ^ (a + (length s - 1))
unfolding fraction
fraction_fits S.Blank s m n a f e = let y : ⊥ = none_case (is_none (trim s)) m n e in absurd y
fraction_fits S.Malformed s m n a f e = let z : ◌≡◌ {A = ℕ} 0 1 = cc in let y : ⊥ = omega arith in absurd y
fraction_fits (S.Number k j) [] m n a f e = let z : ◌≡◌ {A = ℕ} 0 1 = cc in let y : ⊥ = omega arith in absurd y
fraction_fits (S.Number k j) (b ∷ s) m n a f e =
    let z : suc (length s) - 1 ≡ length s = omega arith in
    rw z (point_case (eqb b 46) k j s m n a f e)

dec_holds_signed : (w : ℕ) (m : Bool) (n : ℕ) → n < 10 ^ (w - 1 - sign_places m) → holds_dec w (signed m n) ≡ true
unfolding holds_dec
dec_holds_signed w false n h = let z : w - 1 - 0 ≡ w - 1 = omega arith in lt-ltb n (10 ^ (w - 1)) (rw z at h)
dec_holds_signed w true zero h = lt-ltb 0 (10 ^ (w - 1)) (power_pos (w - 1))
dec_holds_signed w true (suc n) h =
    let z : w - 1 - 1 ≡ w - 2 = omega arith in
    let k : suc n < 10 ^ (w - 2) = rw z at h in
    lt-ltb (n + 1) (10 ^ (w - 2)) (rw add-one k)

sign_room : (m : Bool) (w d l : ℕ) → d + 3 ≤ w → l ≡ d + 1 → w - (d + 1) - sign_places m + (l - 1) ≤ w - 1 - sign_places m
sign_room true w d l h e = omega arith
sign_room false w d l h e = omega arith

pub dec_holds : (d : ℕ) (f : List ℕ) (v : ℤ) → d + 3 ≤ length f → dec_field d f ≡ F.Value v → holds_dec (length f) v ≡ true
unfolding dec_field
dec_holds d f v h e =
    let p : ℕ = length f - (d + 1) in
    let x = value_inv (fraction (scan (take (length f - (d + 1)) f)) (drop (length f - (d + 1)) f)) v e in
    let lt : length (take (length f - (d + 1)) f) ≡ length f - (d + 1) = length-take-le (length f - (d + 1)) f (omega arith) in
    let ld : length (drop (length f - (d + 1)) f) ≡ d + 1 = length-drop (length f - (d + 1)) f ∙ omega arith in
    let b : (i : ℕ) → scan (take (length f - (d + 1)) f) ≡ S.Number x.minus i → i < 10 ^ (length f - (d + 1) - sign_places x.minus) = λ i q. subst (λ (y : ℕ). i < 10 ^ (y - sign_places x.minus)) lt (scan_fits (take (length f - (d + 1)) f) x.minus i q) in
    let k = fraction_fits (scan (take (length f - (d + 1)) f)) (drop (length f - (d + 1)) f) x.minus x.size (length f - (d + 1) - sign_places x.minus) b x.is in
    rw (← x.value) (dec_holds_signed (length f) x.minus x.size (power_mono (length f - (d + 1) - sign_places x.minus + (length (drop (length f - (d + 1)) f) - 1)) (length f - 1 - sign_places x.minus) x.size (sign_room x.minus (length f) d (length (drop (length f - (d + 1)) f)) h ld) k))
