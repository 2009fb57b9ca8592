-- What is written in a number field reads back the same, for every number that the field holds.
use mathlib.Core.Path.{◌≡◌, refl, sym, ap, ◌∙◌, subst}
use mathlib.Core.Bool.{Bool, true, false}
use mathlib.Core.List.{List, [], ◌∷◌, ◌++◌, append_assoc, append-nil}
use Prim.Native.Nat.{ℕ, zero, suc, ◌+◌, ◌-◌, ◌*◌, ◌/◌, ◌%◌, ◌^◌, ◌≤◌, ◌<◌}
use native.Mathlib.Nat.{pow-suc, pow-zero, mul_assoc, pow-succ', div-one, div-div-eq-div-mul, div-lt_iff_lt-mul}
use native.Mathlib.Numerals.{add-one}
use native.Mathlib.Omega.{arith}
use lib.ListN.{length, take, drop, replicate, length-append, replicate-append-replicate}
use lib.Seq.{drop_at, take_at}
use lib.Pow.{pow-add}
use lib.Dec.{leb}
use lib.IntN.{ℤ, pos, negsuc, nat_abs}
use borrow.Author.Tests.{ne_eqb, le-leb, ltb-true, leb-true, leb-false, le-ltb}
use Rattle.std.specs.Prelude.{Option, Some, None}
use Rattle.columns.specs.declared.written.Pen.{Pen}
use Rattle.columns.specs.Answer.{pick}
use Rattle.columns.specs.Bytes.{is_digit, trim, skip}
use Rattle.columns.specs.Number.{digits, number, signed_number, scan, fraction, signed, value, with_sign, int_field, dec_field, digits_of, plain_digits, minus_of, right_aligned, is_neg, int_bytes, holds_int, holds_dec, dec_bytes, back}
use Rattle.columns.proofs.laws.Written.{power_pos, digits_length, back_length}
use Rattle.columns.specs.declared.number.Scan.TheVariants as S
use Rattle.columns.specs.declared.number.Field.TheVariants as F

-- ---- digits

pick_append : (x : Bool) (u v d : (Option ℕ)) (m : ℕ) → (u ≡ Some m → v ≡ d) → pick x u None ≡ Some m → pick x v None ≡ d
pick_append true u v d m f q = f q
pick_append false u v d m f q = let z : ◌≡◌ {A = ℕ} 0 1 = cc in let y : ⊥ = omega arith in absurd y

digits_append : (n m : ℕ) (s t : List ℕ) → digits n s ≡ Some m → digits n (s ++ t) ≡ digits m t
unfolding digits
digits_append n m [] t e = let q : n ≡ m = cc in rw q
digits_append n m (b ∷ s) t e = pick_append (is_digit b) _ _ _ m (digits_append (n * 10 + (b - 48)) m s t) e

digit_byte : (m k : ℕ) → k < 10 → digits m ((48 + k) ∷ []) ≡ Some (m * 10 + k)
unfolding digits
digit_byte m k h =
    let p : 48 ≤ 48 + k = omega arith in
    let q : 48 + k ≤ 57 = omega arith in
    let e : 48 + k - 48 ≡ k = omega arith in
    rw (le-leb _ _ p, le-leb _ _ q, e)

pub digits_written : (w n a : ℕ) → n < 10 ^ w → digits a (digits_of w n) ≡ Some (a * 10 ^ w + n)
unfolding digits_of digits
digits_written zero n a h = let e : a * 10 ^ 0 + n ≡ a = omega arith in rw e
digits_written (suc w) n a h =
    let lt : n / 10 < 10 ^ w = omega (arith, pow-suc 10 w) in
    let p : a * (10 ^ w * 10) ≡ a * 10 ^ w * 10 = sym (mul_assoc a (10 ^ w) 10) in
    let e : (a * 10 ^ w + n / 10) * 10 + n % 10 ≡ a * (10 ^ w * 10) + n = omega arith in
    digits_append a (a * 10 ^ w + n / 10) (digits_of w (n / 10)) ((48 + n % 10) ∷ []) (digits_written w (n / 10) a lt)
    ∙ digit_byte (a * 10 ^ w + n / 10) (n % 10) (omega arith)
    ∙ rw (pow-suc, e)

-- the first of the digits
pub record First (s : List ℕ) : Type 0 where
  pub byte : ℕ
  pub rest : List ℕ
  pub low : 48 ≤ byte
  pub is : s ≡ byte ∷ rest

pub first_digit : (w n : ℕ) → First (digits_of (suc w) n)
unfolding digits_of
first_digit zero n = record { byte = 48 + n % 10; rest = []; low = omega arith; is = refl }
first_digit (suc w) n =
    let f = first_digit w (n / 10) in
    record { byte = f.byte; rest = f.rest ++ (48 + n % 10) ∷ []; low = f.low; is = rw f.is }

first_number_lem : (s : List ℕ) → First s → number s ≡ digits 0 s
unfolding number
first_number_lem s f = rw f.is

first_scan : (s : List ℕ) → First s → scan s ≡ with_sign false (number s)
unfolding scan skip signed_number
first_scan s f =
    let p : f.byte ≡ 32 → ⊥ = λ e. omega (arith, f.low) in
    let q : f.byte ≡ 45 → ⊥ = λ e. omega (arith, f.low) in
    rw (f.is, ne_eqb _ _ p, ne_eqb _ _ q)

pub digits_scan : (w n : ℕ) → n < 10 ^ suc w → scan (digits_of (suc w) n) ≡ S.Number false n
digits_scan w n h =
    let f = first_digit w n in
    let z : 0 * 10 ^ suc w + n ≡ n = omega arith in
    first_scan _ f ∙ ap (with_sign false) (first_number_lem _ f ∙ digits_written (suc w) n 0 h ∙ ap Some z)

minus_scan : (s : List ℕ) → scan (45 ∷ s) ≡ with_sign true (number s)
unfolding scan skip signed_number
minus_scan s = refl

-- ---- an integer field

pub int_back : (w : ℕ) (v : ℤ) → 1 ≤ w → holds_int w v ≡ true → int_field (int_bytes w v) ≡ F.Value v
unfolding int_field int_bytes holds_int
int_back zero v h e = let y : ⊥ = omega arith in absurd y
int_back (suc w) (pos n) h e =
    let f = first_digit w n in
    let z : 0 * 10 ^ suc w + n ≡ n = omega arith in
    ap value (first_scan _ f ∙ ap (with_sign false) (first_number_lem _ f ∙ digits_written (suc w) n 0 (ltb-true _ _ e) ∙ ap Some z))
int_back (suc zero) (negsuc n) h e = let y : ⊥ = omega (arith, ltb-true (n + 1) 1 e) in absurd y
int_back (suc (suc w)) (negsuc n) h e =
    let f = first_digit w (n + 1) in
    let k : suc (suc w) - 1 ≡ suc w = omega arith in
    let z : 0 * 10 ^ suc w + (n + 1) ≡ suc n = omega arith in
    rw k
    (ap value (minus_scan _ ∙ ap (with_sign true) (first_number_lem _ f ∙ digits_written (suc w) (n + 1) 0 (ltb-true _ _ (rw k at e)) ∙ ap Some z)))

pub int_length : (w : ℕ) (v : ℤ) → 1 ≤ w → length (int_bytes w v) ≡ w
unfolding int_bytes
int_length w (pos n) h = digits_length w n
int_length w (negsuc n) h = omega (arith, digits_length (w - 1) (n + 1))

-- ---- a whole part, written from the right

abbrev pub sign_places : Bool → ℕ
sign_places true = 1
sign_places false = 0

pub digits_split : (w n : ℕ) → digits (n / 10 ^ w) (digits_of w n) ≡ Some n
unfolding digits_of digits
digits_split zero n = ap Some (div-one n)
digits_split (suc w) n =
    let e : n / 10 ^ suc w ≡ n / 10 / 10 ^ w = rw (pow-succ', div-div-eq-div-mul) in
    let z : n / 10 * 10 + n % 10 ≡ n = omega arith in
    rw e
    (digits_append (n / 10 / 10 ^ w) (n / 10) (digits_of w (n / 10)) ((48 + n % 10) ∷ []) (digits_split w (n / 10))
    ∙ digit_byte (n / 10) (n % 10) (omega arith)
    ∙ ap Some z)

digit_cons : (m k : ℕ) (t : List ℕ) → k < 10 → digits m ((48 + k) ∷ t) ≡ digits (m * 10 + k) t
unfolding digits
digit_cons m k t h =
    let p : 48 ≤ 48 + k = omega arith in
    let q : 48 + k ≤ 57 = omega arith in
    let e : 48 + k - 48 ≡ k = omega arith in
    rw (le-leb _ _ p, le-leb _ _ q, e)

blanks_trim : (w n : ℕ) (t : List ℕ) → trim (back w (record { more = false; minus = false; left = n }) ++ t) ≡ trim t
unfolding back skip
blanks_trim zero n t = refl
blanks_trim (suc w) n t = rw append_assoc (blanks_trim w (n / 10) (32 ∷ t))

lead_scan : (m : Bool) (w n : ℕ) (t : List ℕ) → sign_places m ≤ w → First t → scan (back w (record { more = false; minus = m; left = n }) ++ t) ≡ with_sign m (number t)
unfolding scan back
lead_scan false w n t h f = rw (blanks_trim w n t) (first_scan t f)
lead_scan true zero n t h f = let y : ⊥ = omega arith in absurd y
lead_scan true (suc w) n t h f = rw (append_assoc, blanks_trim w (n / 10) (45 ∷ t)) (minus_scan t)

back_cons : (m : Bool) (w n : ℕ) (t : List ℕ) (x : Bool) → leb 10 n ≡ x → back (suc w) (record { more = true; minus = m; left = n }) ++ t ≡ back w (record { more = x; minus = m; left = n / 10 }) ++ (48 + n % 10) ∷ t
unfolding back
back_cons m w n t x e = rw (e, append_assoc)

small_power : (k : ℕ) → 10 < 10 ^ k → 2 ≤ k
small_power zero h = let y : ⊥ = omega (arith, pow-zero 10) in absurd y
small_power (suc zero) h = let y : ⊥ = omega arith in absurd y
small_power (suc (suc k)) h = omega arith

room_more : (m : Bool) (w n : ℕ) → 10 ≤ n → n < 10 ^ (suc w - sign_places m) → sign_places m + 1 ≤ w
room_more m w n b k = omega (arith, small_power (suc w - sign_places m) (omega arith))

-- one digit fewer is left to write
digit_room : (m : Bool) (w n : ℕ) → sign_places m + 1 ≤ w → n < 10 ^ (suc w - sign_places m) → n / 10 < 10 ^ (w - sign_places m)
digit_room m w n g k =
    let s : suc w - sign_places m ≡ suc (w - sign_places m) = omega arith in
    omega (arith, pow-suc 10 (w - sign_places m), subst (λ (x : ℕ). n < 10 ^ x) s k)

back_step : (m : Bool) (w n : ℕ) (t : List ℕ) → sign_places m + 1 ≤ suc w → n < 10 ^ (suc w - sign_places m) → (x : Bool) → leb 10 n ≡ x → (sign_places m + 1 ≤ w → n / 10 < 10 ^ (w - sign_places m) → scan (back w (record { more = true; minus = m; left = n / 10 }) ++ (48 + n % 10) ∷ t) ≡ with_sign m (digits (n / 10) ((48 + n % 10) ∷ t))) → scan (back (suc w) (record { more = true; minus = m; left = n }) ++ t) ≡ with_sign m (digits n t)
back_step m w n t h k true e ih =
    let z : n / 10 * 10 + n % 10 ≡ n = omega arith in
    let b : 10 ≤ n = leb-true 10 n e in
    let g : sign_places m + 1 ≤ w = room_more m w n b k in
    ap scan (back_cons m w n t true e) ∙ ih g (digit_room m w n g k) ∙ ap (with_sign m) (digit_cons (n / 10) (n % 10) t (omega arith) ∙ ap (λ (x : ℕ). digits x t) z)
back_step m w n t h k false e ih =
    let z : 0 * 10 + n % 10 ≡ n = omega (arith, leb-false 10 n e) in
    let f : First ((48 + n % 10) ∷ t) = record { byte = 48 + n % 10; rest = t; low = omega arith; is = refl } in
    ap scan (back_cons m w n t false e)
    ∙ lead_scan m w (n / 10) ((48 + n % 10) ∷ t) (omega arith) f
    ∙ ap (with_sign m) (first_number_lem _ f ∙ digit_cons 0 (n % 10) t (omega arith) ∙ ap (λ (x : ℕ). digits x t) z)

back_scan : (m : Bool) (w n : ℕ) (t : List ℕ) → sign_places m + 1 ≤ w → n < 10 ^ (w - sign_places m) → scan (back w (record { more = true; minus = m; left = n }) ++ t) ≡ with_sign m (digits n t)
back_scan m zero n t h k = let y : ⊥ = omega arith in absurd y
back_scan m (suc w) n t h k = back_step m w n t h k (leb 10 n) refl (back_scan m w (n / 10) ((48 + n % 10) ∷ t))

digits_nil : (m : Bool) (n : ℕ) → with_sign m (digits n []) ≡ S.Number m n
unfolding digits
digits_nil m n = refl

dec_scan : (w d n : ℕ) (m : Bool) → d + 1 + (sign_places m + 1) ≤ w → n / 10 ^ d < 10 ^ (w - (d + 1) - sign_places m) → dec_field d (back (w - (d + 1)) (record { more = true; minus = m; left = n / 10 ^ d }) ++ 46 ∷ digits_of d n) ≡ F.Value (signed m n)
unfolding dec_field fraction
dec_scan w d n m h k =
    let pen : Pen = record { more = true; minus = m; left = n / 10 ^ d } in
    let p : ℕ = w - (d + 1) in
    let b : length (back (w - (d + 1)) pen) ≡ w - (d + 1) = back_length (w - (d + 1)) pen in
    let len : length (back (w - (d + 1)) pen ++ 46 ∷ digits_of d n) - (d + 1) ≡ w - (d + 1) =
    omega (arith, length-append (back (w - (d + 1)) pen) (46 ∷ digits_of d n), digits_length d n) in
    let s : scan (back (w - (d + 1)) pen) ≡ S.Number m (n / 10 ^ d) =
    ap scan (sym (append-nil (back (w - (d + 1)) pen))) ∙ back_scan m (w - (d + 1)) (n / 10 ^ d) [] (omega arith) k ∙ digits_nil m (n / 10 ^ d) in
    rw (len, take_at (back (w - (d + 1)) pen) (46 ∷ digits_of d n) (w - (d + 1)) b, drop_at (back (w - (d + 1)) pen) (46 ∷ digits_of d n) (w - (d + 1)) b, s, digits_split d n)

-- ---- the whole part is right-aligned, with its minus and no spare zero

blanks_are : (w n : ℕ) → back w (record { more = false; minus = false; left = n }) ≡ replicate w 32
unfolding back
blanks_are zero n = refl
blanks_are (suc w) n = rw (blanks_are w (n / 10)) (replicate-append-replicate w 1 32 ∙ rw add-one)

lead_is : (m : Bool) (w n : ℕ) → sign_places m ≤ w → back w (record { more = false; minus = m; left = n }) ≡ replicate (w - sign_places m) 32 ++ minus_of m
unfolding back
lead_is false w n h = let z : w - 0 ≡ w = omega arith in rw (z, append-nil) (blanks_are w n)
lead_is true zero n h = let y : ⊥ = omega arith in absurd y
lead_is true (suc w) n h = let z : suc w - 1 ≡ w = omega arith in rw (z, blanks_are w (n / 10))

minus_places : (m : Bool) → length (minus_of m) ≡ sign_places m
minus_places true = refl
minus_places false = refl

aligned_more : (w b : ℕ) (s : List ℕ) → right_aligned w s ++ b ∷ [] ≡ right_aligned (suc w) (s ++ b ∷ [])
aligned_more w b s =
    let z : suc w - length (s ++ b ∷ []) ≡ w - length s = omega (arith, length-append s (b ∷ [])) in
    rw (z, append_assoc)

pen_step : (m : Bool) (w n : ℕ) → sign_places m + 1 ≤ suc w → n < 10 ^ (suc w - sign_places m) → (x : Bool) → leb 10 n ≡ x → (sign_places m + 1 ≤ w → n / 10 < 10 ^ (w - sign_places m) → back w (record { more = true; minus = m; left = n / 10 }) ≡ right_aligned w (minus_of m ++ plain_digits w (n / 10))) → back (suc w) (record { more = true; minus = m; left = n }) ≡ right_aligned (suc w) (minus_of m ++ plain_digits (suc w) n)
unfolding plain_digits
pen_step m w n h k true e ih =
    let g : sign_places m + 1 ≤ w = room_more m w n (leb-true 10 n e) k in
    sym (append-nil _)
    ∙ back_cons m w n [] true e
    ∙ ap (λ (l : List ℕ). l ++ (48 + n % 10) ∷ []) (ih g (digit_room m w n g k))
    ∙ aligned_more w (48 + n % 10) (minus_of m ++ plain_digits w (n / 10))
    ∙ rw (e, append_assoc)
pen_step m w n h k false e ih =
    let z : suc w - length (minus_of m ++ (48 + n % 10) ∷ []) ≡ w - sign_places m = omega (arith, length-append (minus_of m) ((48 + n % 10) ∷ []), minus_places m) in
    sym (append-nil _) ∙ back_cons m w n [] false e ∙ rw (lead_is m w (n / 10) (omega arith), e, z, append_assoc)

pen_aligned : (m : Bool) (w n : ℕ) → sign_places m + 1 ≤ w → n < 10 ^ (w - sign_places m) → back w (record { more = true; minus = m; left = n }) ≡ right_aligned w (minus_of m ++ plain_digits w n)
pen_aligned m zero n h k = let y : ⊥ = omega arith in absurd y
pen_aligned m (suc w) n h k = pen_step m w n h k (leb 10 n) refl (pen_aligned m w (n / 10))

-- ---- a decimal field

pub whole_fits : (a d n : ℕ) → n < 10 ^ (a + d) → n / 10 ^ d < 10 ^ a
whole_fits a d n h = (div-lt_iff_lt-mul {k = 10 ^ d} {x = n} {y = 10 ^ a} (power_pos d)).1 (rw pow-add at h)

-- its whole part has room left of the point
dec_room : (w d : ℕ) (v : ℤ) → d + 3 ≤ w → holds_dec w v ≡ true → nat_abs v / 10 ^ d < 10 ^ (w - (d + 1) - sign_places (is_neg v))
unfolding holds_dec
dec_room w d (pos n) h e =
    let q : w - 1 ≡ w - (d + 1) - 0 + d = omega arith in
    let k : n < 10 ^ (w - (d + 1) - 0 + d) = subst (λ (x : ℕ). n < 10 ^ x) q (ltb-true _ _ e) in
    rw (le-ltb n 0 (omega arith)) (whole_fits (w - (d + 1) - 0) d n k)
dec_room w d (negsuc n) h e =
    let q : w - 2 ≡ w - (d + 1) - 1 + d = omega arith in
    let k : suc n < 10 ^ (w - (d + 1) - 1 + d) = subst (λ (x : ℕ). suc n < 10 ^ x) q (rw add-one at (ltb-true (n + 1) (10 ^ (w - 2)) e)) in
    whole_fits (w - (d + 1) - 1) d (suc n) k

sign_one : (m : Bool) → sign_places m ≤ 1
sign_one true = omega arith
sign_one false = omega arith

signed_is : (v : ℤ) → signed (is_neg v) (nat_abs v) ≡ v
signed_is (pos n) = rw (le-ltb n 0 (omega arith))
signed_is (negsuc n) = refl

module _ (w d : ℕ) (v : ℤ) (h : d + 3 ≤ w) (e : holds_dec w v ≡ true) where
  pub dec_is : back (w - (d + 1)) (record { more = true; minus = is_neg v; left = nat_abs v / 10 ^ d }) ++ 46 ∷ digits_of d (nat_abs v) ≡ dec_bytes w d v
  unfolding dec_bytes
  dec_is = rw (pen_aligned (is_neg v) (w - (d + 1)) (nat_abs v / 10 ^ d) (omega (arith, sign_one (is_neg v))) (dec_room w d v h e))

  pub dec_back : dec_field d (dec_bytes w d v) ≡ F.Value v
  dec_back =
      ap (dec_field d) (sym dec_is)
      ∙ dec_scan w d (nat_abs v) (is_neg v) (omega (arith, sign_one (is_neg v))) (dec_room w d v h e)
      ∙ ap F.Value (signed_is v)

  pub dec_length : length (dec_bytes w d v) ≡ w
  dec_length =
      ap length (sym dec_is)
      ∙ length-append (back (w - (d + 1)) (record { more = true; minus = is_neg v; left = nat_abs v / 10 ^ d })) (46 ∷ digits_of d (nat_abs v))
      ∙ omega (arith, digits_length d (nat_abs v), back_length (w - (d + 1)) (record { more = true; minus = is_neg v; left = nat_abs v / 10 ^ d }))

-- ---- blank fields

pub trim_blanks : (w : ℕ) → trim (replicate w 32) ≡ []
unfolding skip
trim_blanks zero = refl
trim_blanks (suc w) = trim_blanks w

trim_take : (k w : ℕ) → trim (take k (replicate w 32)) ≡ []
unfolding skip
trim_take zero w = refl
trim_take (suc k) zero = refl
trim_take (suc k) (suc w) = trim_take k w

trim_drop : (k w : ℕ) → trim (drop k (replicate w 32)) ≡ []
unfolding skip
trim_drop zero w = trim_blanks w
trim_drop (suc k) zero = refl
trim_drop (suc k) (suc w) = trim_drop k w

pub int_blank : (w : ℕ) → int_field (replicate w 32) ≡ F.Missing
unfolding int_field scan signed_number
int_blank w = rw (trim_blanks w)

pub dec_blank : (w d : ℕ) → dec_field d (replicate w 32) ≡ F.Missing
unfolding dec_field scan signed_number fraction
dec_blank w d =
    let k : ℕ = length (replicate {A = ℕ} w 32) - (d + 1) in
    rw (trim_take k w, trim_drop k w)
