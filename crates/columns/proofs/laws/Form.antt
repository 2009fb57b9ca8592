-- Laws of a number of either form: written and read back, read and written, filled with zeros; blanks and then digits in one walk.
use mathlib.Core.Path.{◌≡◌, refl, ◌∙◌, subst}
use mathlib.Core.Bool.{Bool, true, false}
use mathlib.Core.List.{List, [], ◌∷◌, ◌++◌}
use Prim.Native.Nat.{ℕ, suc, ◌+◌, ◌-◌, ◌*◌, ◌/◌, ◌^◌, ◌≤◌, ◌<◌}
use native.Mathlib.Nat.{mul-le-mul_right, pow-suc}
use native.Mathlib.Omega.{arith}
use lib.ListN.{length, drop, replicate, length-append, get_or}
use lib.Seq.{take_at, drop_at}
use lib.Dec.{leb, eqb, T, leb→le}
use lib.IntN.{ℤ, pos}
use borrow.Author.Tests.{ltb-true, ne_eqb, eq-eqb}
use Rattle.columns.specs.declared.number.Form.{Form}
use Rattle.std.specs.Prelude.{Option, Some, None}
use Rattle.columns.specs.declared.number.Plain.{Plain}
use Rattle.columns.specs.Answer.{pick}
use Rattle.columns.specs.Bytes.{is_digit, skip}
use Rattle.columns.specs.Number.{digits, number, signed_number, scan, fraction, int_field, dec_field, int_bytes, dec_bytes, digits_of, holds_int, holds_dec, form_width, good_form, field_of, holds, field_bytes, zero_filled, plain_scan, Quick}
use Rattle.columns.proofs.laws.Clear.{Clear, clear_int, clear_dec, clear_append, clear_mark, clear_digits}
use Rattle.columns.proofs.laws.Written.{digits_length, power_le}
use Rattle.columns.proofs.laws.Bytes.{drop_more, drop_end}
use Rattle.columns.proofs.laws.Number.{digit_bounds}
use Rattle.columns.proofs.laws.NumberBack.{First, first_digit, digits_scan, digits_split, whole_fits, int_back, int_blank, int_length, dec_back, dec_blank, dec_length}
use Rattle.columns.proofs.laws.NumberFits.{int_holds, dec_holds}
use Rattle.columns.proofs.laws.Tests.{T_and}
use Rattle.columns.specs.declared.number.Form.TheVariants as N
use Rattle.columns.specs.declared.number.Field.TheVariants as F
use Rattle.columns.specs.declared.number.Plain.TheVariants as P

-- ---- well-formed

pub good_int : (w : ℕ) → T (good_form (N.Integer w)) → (1 ≤ w) × (w ≤ 18)
good_int w g = let p = T_and (leb 1 w) (leb w 18) g in (leb→le 1 w p.0, leb→le w 18 p.1)

pub good_dec : (w d : ℕ) → T (good_form (N.Decimal w d)) → (d + 3 ≤ w) × (w ≤ 18)
good_dec w d g = let p = T_and (leb (d + 3) w) (leb w 18) g in (leb→le (d + 3) w p.0, leb→le w 18 p.1)

pub form_wide : (m : Form) → T (good_form m) → (1 ≤ form_width m) × (form_width m ≤ 18)
form_wide (N.Integer w) g = good_int w g
form_wide (N.Decimal w d) g = let p = good_dec w d g in (omega (arith, p.0), p.1)

-- ---- by the form

pub form_integer : (w : ℕ) (f : List ℕ) → int_field f ≡ field_of (N.Integer w) f
unfolding field_of
form_integer w f = refl

pub form_decimal : (w d : ℕ) (f : List ℕ) → dec_field d f ≡ field_of (N.Decimal w d) f
unfolding field_of
form_decimal w d f = refl

pub holds_integer : (w : ℕ) (v : ℤ) → holds_int w v ≡ holds (N.Integer w) v
unfolding holds
holds_integer w v = refl

pub holds_decimal : (w d : ℕ) (v : ℤ) → holds_dec w v ≡ holds (N.Decimal w d) v
unfolding holds
holds_decimal w d v = refl

pub bytes_integer : (w : ℕ) (v : ℤ) → int_bytes w v ≡ field_bytes (N.Integer w) v
unfolding field_bytes
bytes_integer w v = refl

pub bytes_decimal : (w d : ℕ) (v : ℤ) → dec_bytes w d v ≡ field_bytes (N.Decimal w d) v
unfolding field_bytes
bytes_decimal w d v = refl

pub zeros_integer : (w n : ℕ) → digits_of w n ≡ zero_filled (N.Integer w) n
unfolding zero_filled
zeros_integer w n = refl

pub zeros_decimal : (w d n : ℕ) → digits_of (w - (d + 1)) (n / 10 ^ d) ++ 46 ∷ digits_of d n ≡ zero_filled (N.Decimal w d) n
unfolding zero_filled
zeros_decimal w d n = refl

-- ---- written, and read back

pub form_back : (m : Form) (v : ℤ) → T (good_form m) → holds m v ≡ true → field_of m (field_bytes m v) ≡ F.Value v
unfolding field_of field_bytes holds
form_back (N.Integer w) v g h = int_back w v (good_int w g).0 h
form_back (N.Decimal w d) v g h = dec_back w d v (good_dec w d g).0 h

pub form_blank : (m : Form) → field_of m (replicate (form_width m) 32) ≡ F.Missing
unfolding field_of
form_blank (N.Integer w) = int_blank w
form_blank (N.Decimal w d) = dec_blank w d

pub form_length : (m : Form) (v : ℤ) → T (good_form m) → holds m v ≡ true → length (field_bytes m v) ≡ form_width m
unfolding field_bytes holds
form_length (N.Integer w) v g h = int_length w v (good_int w g).0
form_length (N.Decimal w d) v g h = dec_length w d v (good_dec w d g).0 h

pub form_clear : (bars : Bool) (m : Form) (v : ℤ) → Clear bars (field_bytes m v)
unfolding field_bytes
form_clear bars (N.Integer w) v = clear_int bars w v
form_clear bars (N.Decimal w d) v = clear_dec bars w d v

-- ---- read, and written

pub form_holds : (m : Form) (f : List ℕ) (v : ℤ) → T (good_form m) → length f ≡ form_width m → field_of m f ≡ F.Value v → holds m v ≡ true
unfolding field_of holds
form_holds (N.Integer w) f v g l e = rw l at (int_holds f v e)
form_holds (N.Decimal w d) f v g l e = rw l at (dec_holds d f v (omega (arith, (good_dec w d g).0)) e)

-- ---- filled with zeros

pub zero_length : (m : Form) (n : ℕ) → T (good_form m) → length (zero_filled m n) ≡ form_width m
unfolding zero_filled
zero_length (N.Integer w) n g = digits_length w n
zero_length (N.Decimal w d) n g =
    length-append (digits_of (w - (d + 1)) (n / 10 ^ d)) (46 ∷ digits_of d n)
    ∙ omega (arith, digits_length (w - (d + 1)) (n / 10 ^ d), digits_length d n, (good_dec w d g).0)

pub zero_clear : (bars : Bool) (m : Form) (n : ℕ) → Clear bars (zero_filled m n)
unfolding zero_filled
zero_clear bars (N.Integer w) n = clear_digits bars w n
zero_clear bars (N.Decimal w d) n =
    clear_append (clear_digits bars (w - (d + 1)) (n / 10 ^ d)) (clear_append (clear_mark bars 46 (omega arith) (omega arith)) (clear_digits bars d n))

zero_dec : (a d n : ℕ) → n / 10 ^ d < 10 ^ suc a → dec_field d (digits_of (suc a) (n / 10 ^ d) ++ 46 ∷ digits_of d n) ≡ F.Value (pos n)
unfolding dec_field fraction
zero_dec a d n h =
    let l : length (digits_of (suc a) (n / 10 ^ d)) ≡ suc a = digits_length (suc a) (n / 10 ^ d) in
    let len : length (digits_of (suc a) (n / 10 ^ d) ++ 46 ∷ digits_of d n) - (d + 1) ≡ suc a = omega (arith, length-append (digits_of (suc a) (n / 10 ^ d)) (46 ∷ digits_of d n), digits_length d n) in
    rw (len, take_at (digits_of (suc a) (n / 10 ^ d)) (46 ∷ digits_of d n) (suc a) l, drop_at (digits_of (suc a) (n / 10 ^ d)) (46 ∷ digits_of d n) (suc a) l, digits_scan a (n / 10 ^ d) h, digits_split d n)

pub zero_back : (m : Form) (n : ℕ) → T (good_form m) → holds m (pos n) ≡ true → field_of m (zero_filled m n) ≡ F.Value (pos n)
unfolding field_of zero_filled holds holds_int holds_dec int_field
zero_back (N.Integer w) n g h =
    let z : w ≡ suc (w - 1) = omega (arith, (good_int w g).0) in
    let k : n < 10 ^ suc (w - 1) = subst (λ (x : ℕ). n < 10 ^ x) z (ltb-true _ _ h) in
    rw (z, digits_scan (w - 1) n k)
zero_back (N.Decimal w d) n g h =
    let a : w - (d + 1) ≡ suc (w - (d + 2)) = omega (arith, (good_dec w d g).0) in
    let b : w - 1 ≡ suc (w - (d + 2)) + d = omega (arith, (good_dec w d g).0) in
    let k : n < 10 ^ (suc (w - (d + 2)) + d) = subst (λ (x : ℕ). n < 10 ^ x) b (ltb-true _ _ h) in
    rw a (zero_dec (w - (d + 2)) d n (whole_fits (suc (w - (d + 2))) d n k))

first_append : (s t : List ℕ) → First s → First (s ++ t)
first_append s t f = record { byte = f.byte; rest = f.rest ++ t; low = f.low; is = rw f.is }

pub zero_first : (m : Form) (n : ℕ) → T (good_form m) → First (zero_filled m n)
unfolding zero_filled
zero_first (N.Integer w) n g =
    let z : suc (w - 1) ≡ w = omega (arith, (good_int w g).0) in
    subst (λ (x : ℕ). First (digits_of x n)) z (first_digit (w - 1) n)
zero_first (N.Decimal w d) n g =
    let z : suc (w - (d + 2)) ≡ w - (d + 1) = omega (arith, (good_dec w d g).0) in
    first_append (digits_of (w - (d + 1)) (n / 10 ^ d)) (46 ∷ digits_of d n) (subst (λ (x : ℕ). First (digits_of x (n / 10 ^ d))) z (first_digit (w - (d + 2)) (n / 10 ^ d)))

-- ---- blanks and then digits, in one walk

number_below : (f : List ℕ) (n : ℕ) → length f ≤ 18 → int_field f ≡ F.Value (pos n) → n < 10 ^ 18
unfolding holds_int
number_below f n l e = omega (arith, ltb-true n (10 ^ length f) (int_holds f (pos n) e), power_le (length f) l)

plain_case : (t : Bool) (x : Plain) (u : (Option ℕ)) (m : ℕ) → (x ≡ P.Number m → u ≡ Some m) → pick t x P.Other ≡ P.Number m → pick t u None ≡ Some m
plain_case true x u m f e = f e
plain_case false x u m f e = let z : ◌≡◌ {A = ℕ} 0 1 = cc in let y : ⊥ = omega arith in absurd y

plain_digits_lem : (n m : ℕ) (s : List ℕ) → plain_scan true n s ≡ P.Number m → digits n s ≡ Some m
unfolding plain_scan digits
plain_digits_lem n m [] e = cc
plain_digits_lem n m (b ∷ s) e = plain_case (is_digit b) _ _ m (plain_digits_lem (n * 10 + (b - 48)) m s) e

some_case : (t : Bool) (x : Plain) → (x ≡ P.Blank → ⊥) → pick t x P.Other ≡ P.Blank → ⊥
some_case true x f e = f e
some_case false x f e = let z : ◌≡◌ {A = ℕ} 0 1 = cc in omega arith

plain_some : (n : ℕ) (s : List ℕ) → plain_scan true n s ≡ P.Blank → ⊥
unfolding plain_scan
plain_some n [] e = let z : ◌≡◌ {A = ℕ} 0 1 = cc in omega arith
plain_some n (b ∷ s) e = some_case (is_digit b) _ (plain_some (n * 10 + (b - 48)) s) e

-- a field that begins with a digit is its number, one that begins with a blank is the rest of it
digit_field : (b m : ℕ) (s : List ℕ) → is_digit b ≡ true → digits (0 * 10 + (b - 48)) s ≡ Some m → int_field (b ∷ s) ≡ F.Value (pos m)
unfolding int_field scan skip signed_number number digits
digit_field b m s t e =
    let p = digit_bounds b t in
    rw (ne_eqb b 32 (λ q. omega (arith, p.0)), ne_eqb b 45 (λ q. omega (arith, p.0)), t, e)

blank_field : (b : ℕ) (s : List ℕ) → eqb b 32 ≡ true → int_field (b ∷ s) ≡ int_field s
unfolding int_field scan skip
blank_field b s t = rw t

walk_blank : (b : ℕ) (s : List ℕ) (p : Plain) (t : Bool) → eqb b 32 ≡ t → plain_scan false 0 s ≡ p → Quick p s → Quick (pick t p P.Other) (b ∷ s)
walk_blank b s P.Blank true t e q = blank_field b s t ∙ q
walk_blank b s (P.Number m) true t e q = (blank_field b s t ∙ q.0, q.1)
walk_blank b s P.Other true t e q = tt
walk_blank b s p false t e q = tt

walk_digit : (b : ℕ) (s : List ℕ) (p : Plain) → length s < 18 → is_digit b ≡ true → plain_scan true (0 * 10 + (b - 48)) s ≡ p → Quick p (b ∷ s)
walk_digit b s P.Blank l t e = absurd (plain_some (0 * 10 + (b - 48)) s e)
walk_digit b s (P.Number m) l t e =
    let d = digit_field b m s t (plain_digits_lem (0 * 10 + (b - 48)) m s e) in
    (d, number_below (b ∷ s) m (omega arith) d)
walk_digit b s P.Other l t e = tt

walk_case : (b : ℕ) (s : List ℕ) (t : Bool) → length s < 18 → is_digit b ≡ t → Quick (plain_scan false 0 s) s → Quick (pick t (plain_scan true (0 * 10 + (b - 48)) s) (pick (eqb b 32) (plain_scan false 0 s) P.Other)) (b ∷ s)
walk_case b s true l t q = walk_digit b s (plain_scan true (0 * 10 + (b - 48)) s) l t refl
walk_case b s false l t q = walk_blank b s (plain_scan false 0 s) (eqb b 32) refl refl q

pub plain_quick : (s : List ℕ) → length s ≤ 18 → Quick (plain_scan false 0 s) s
unfolding plain_scan int_field scan signed_number skip
plain_quick [] l = refl
plain_quick (b ∷ s) l = walk_case b s (is_digit b) (omega arith) refl (plain_quick s (omega arith))

-- ---- the walk, as the code comes to it

module _ (l : List ℕ) (i : ℕ) (any : Bool) (n : ℕ) (h : i < length l) where
  pub walk_digit_on : is_digit (get_or l i 0) ≡ true → plain_scan any n (drop i l) ≡ plain_scan true (n * 10 + (get_or l i 0 - 48)) (drop (i + 1) l)
  unfolding plain_scan
  walk_digit_on e = rw (drop_more l i h, e)

  pub walk_stop : is_digit (get_or l i 0) ≡ false → any ≡ true → plain_scan any n (drop i l) ≡ P.Other
  unfolding plain_scan
  walk_stop e f = rw (drop_more l i h, e, f)

  pub walk_blank_on : is_digit (get_or l i 0) ≡ false → any ≡ false → get_or l i 0 ≡ 32 → plain_scan any n (drop i l) ≡ plain_scan any n (drop (i + 1) l)
  unfolding plain_scan
  walk_blank_on e f b = rw (drop_more l i h, e, f, eq-eqb (get_or l i 0) 32 b)

  pub walk_other : is_digit (get_or l i 0) ≡ false → any ≡ false → (get_or l i 0 ≡ 32 → ⊥) → plain_scan any n (drop i l) ≡ P.Other
  unfolding plain_scan
  walk_other e f b = rw (drop_more l i h, e, f, ne_eqb (get_or l i 0) 32 b)

pub plain_end : (l : List ℕ) (i n : ℕ) (any : Bool) → length l ≤ i → plain_scan any n (drop i l) ≡ pick any (P.Number n) P.Blank
unfolding plain_scan
plain_end l i n any h = rw (drop_end l i h)

-- the number with one digit more still has room for the bytes left
pub walk_room : (n r i to m : ℕ) → i < to → r < n * 10 + 10 → (n + 1) * 10 ^ (to - i) ≤ m → (r + 1) * 10 ^ (to - (i + 1)) ≤ m
walk_room n r i to m h k e =
    let z : to - i ≡ suc (to - (i + 1)) = omega arith in
    let p : (n + 1) * (10 ^ (to - (i + 1)) * 10) ≤ m = rw (z, pow-suc) at e in
    let q : (r + 1) * 10 ^ (to - (i + 1)) ≤ (n * 10 + 10) * 10 ^ (to - (i + 1)) = mul-le-mul_right (10 ^ (to - (i + 1))) (omega arith) in
    omega (arith, p, q)
