-- Laws of number fields as they are read: one step of each definition at a place of a line, and the bounds of what was read.
use mathlib.Core.Path.{◌≡◌, refl, sym, subst}
use mathlib.Core.Bool.{Bool, true, false}
use mathlib.Core.List.{List, [], ◌∷◌}
use Prim.Native.Nat.{ℕ, zero, suc, ◌+◌, ◌-◌, ◌*◌, ◌^◌, ◌≤◌, ◌<◌}
use native.Mathlib.Nat.{pow-suc, pow-zero, mul_assoc, mul_comm, mul-le-mul_right, le-mul_of_pos_right, pow-le-pow_right}
use native.Mathlib.Omega.{arith}
use lib.ListN.{length, take, drop, length-take, length-drop, get_or}
use lib.Pow.{pow-add}
use lib.Dec.{leb, eqb, lit<}
use lib.IntN.{pos, neg_ℤ, ◌-ℤ◌, +ℤ_idl}
use lib.Signed.{mag}
use mir.Syntax.{w64}
use mir.Val.{SFits, to_z}
use mir.ValLaws.{to_z_pos}
use borrow.Author.Tests.{eq-eqb, ne_eqb, leb-true}
use Rattle.columns.specs.Answer.{pick}
use Rattle.columns.specs.Bytes.{is_digit, is_none, trim}
use Rattle.columns.specs.Number.{digits, number, scan, fraction, magnitude, with_sign, signed_number, value, int_field, dec_field}
use Rattle.columns.proofs.laws.Bytes.{drop_more, drop_end, skip_short}
use Rattle.std.specs.Prelude.{Option, Some, None}
use Rattle.columns.specs.declared.number.Scan.{Scan}
use Rattle.columns.proofs.laws.Tests.{both_true}
use Rattle.columns.specs.declared.number.Scan.TheVariants as S

-- ---- one more digit

module _ (l : List ℕ) (i : ℕ) where
  module _ (h : i < length l) where
    pub digits_step : (n : ℕ) → is_digit (get_or l i 0) ≡ true → digits n (drop i l) ≡ digits (n * 10 + (get_or l i 0 - 48)) (drop (i + 1) l)
    unfolding digits
    digits_step n e = rw (drop_more l i h) (rw e)

    pub digits_other : (n : ℕ) → is_digit (get_or l i 0) ≡ false → digits n (drop i l) ≡ None
    unfolding digits
    digits_other n e = rw (drop_more l i h) (rw e)

  pub digits_none : (n : ℕ) → length l ≤ i → digits n (drop i l) ≡ Some n
  unfolding digits
  digits_none n h = rw (drop_end l i h)

-- room for one more digit
pub room : (n d k m : ℕ) → d < 10 → (n + 1) * 10 ^ suc k ≤ m → (n * 10 + d + 1) * 10 ^ k ≤ m
room n d k m h r =
    let a : (n * 10 + d + 1) * 10 ^ k ≤ ((n + 1) * 10) * 10 ^ k = mul-le-mul_right (10 ^ k) (omega arith) in
    let b : (n + 1) * 10 ^ suc k ≡ ((n + 1) * 10) * 10 ^ k = rw (pow-suc, mul_comm (10 ^ k) 10) (sym (mul_assoc (n + 1) 10 (10 ^ k))) in
    omega arith

pub pow_pos10 : (k : ℕ) → 1 ≤ 10 ^ k
pow_pos10 zero = omega (arith, pow-zero 10)
pow_pos10 (suc k) = omega (arith, pow-suc 10 k, pow_pos10 k)

pub room_le : (n k m : ℕ) → (n + 1) * 10 ^ k ≤ m → n < m
room_le n k m r = omega (arith, le-mul_of_pos_right (n + 1) (pow_pos10 k))

pub room_at : (i to n d m : ℕ) → i < to → d < 10 → (n + 1) * 10 ^ (to - i) ≤ m → (n * 10 + d + 1) * 10 ^ (to - (i + 1)) ≤ m
room_at i to n d m h k r =
    let e : to - i ≡ suc (to - (i + 1)) = omega arith in
    room n d (to - (i + 1)) m k (subst (λ (x : ℕ). (n + 1) * 10 ^ x ≤ m) e r)

-- ---- signs

pub neg_is : (n : ℕ) → n < 10 ^ 18 → to_z w64 0 -ℤ to_z w64 n ≡ neg_ℤ (pos n)
neg_is n h = rw (to_z_pos w64 n (omega arith)) (+ℤ_idl (neg_ℤ (pos n)))

pub mag_neg : (n : ℕ) → mag (neg_ℤ (pos n)) ≤ n
mag_neg zero = omega arith
mag_neg (suc n) = omega arith

pub neg_fits : (n : ℕ) → n < 10 ^ 18 → SFits w64 (neg_ℤ (pos n))
neg_fits n h = record { sfits = omega (arith, mag_neg n) }

-- ---- what was read is bounded by its number of digits

pub digit_bounds : (b : ℕ) → is_digit b ≡ true → (48 ≤ b) × (b ≤ 57)
digit_bounds b e = let p = both_true (leb 48 b) (leb b 57) e in (leb-true 48 b p.0, leb-true b 57 p.1)

module _ (m : ℕ) where
  step_bound : (b n : ℕ) (s : List ℕ) (x : ℕ) (t : Bool) → is_digit b ≡ t → ((n' : ℕ) → (n' + 1) * 10 ^ length s ≤ m → digits n' s ≡ Some x → x < m) → (n + 1) * 10 ^ suc (length s) ≤ m → pick t (digits (n * 10 + (b - 48)) s) None ≡ Some x → x < m
  step_bound b n s x true e ih r q = ih (n * 10 + (b - 48)) (room n (b - 48) (length s) m (omega (arith, (digit_bounds b e).1)) r) q
  step_bound b n s x false e ih r q = let z : ◌≡◌ {A = ℕ} 0 1 = cc in omega arith

  pub digits_bound : (n : ℕ) (s : List ℕ) (x : ℕ) → (n + 1) * 10 ^ length s ≤ m → digits n s ≡ Some x → x < m
  unfolding digits
  digits_bound n [] x r q = let e : n ≡ x = cc in omega (arith, room_le n 0 m r)
  digits_bound n (b ∷ s) x r q = step_bound b n s x (is_digit b) refl (λ n'. digits_bound n' s x) r q

pub one_room : (k : ℕ) → k ≤ 18 → (0 + 1) * 10 ^ k ≤ 10 ^ 18
one_room k h = omega (arith, pow-le-pow_right {n = 10} (lit< tt) {i = k} {j = 18} h)

pub number_part : (s : List ℕ) → 1 ≤ length s → number s ≡ digits 0 s
unfolding number
number_part [] h = absurd (omega arith)
number_part (b ∷ s) h = refl

pub number_none : (s : List ℕ) → length s ≡ 0 → number s ≡ None
unfolding number
number_none [] h = refl
number_none (b ∷ s) h = absurd (omega arith)

pub number_bound : (s : List ℕ) (x : ℕ) → length s ≤ 18 → digits 0 s ≡ Some x → x < 10 ^ 18
number_bound s x h q = digits_bound (10 ^ 18) 0 s x (one_room (length s) h) q

-- what is left after the blanks
pub signed_none : (s : List ℕ) → length s ≡ 0 → signed_number s ≡ S.Blank
unfolding signed_number
signed_none [] e = refl
signed_none (b ∷ s) e = absurd (omega arith)

pub signed_minus : (s t : List ℕ) (b : ℕ) → s ≡ b ∷ t → b ≡ 45 → signed_number s ≡ with_sign true (number t)
unfolding signed_number
signed_minus s t b e q = rw (e, eq-eqb b 45 q)

pub signed_plain : (s t : List ℕ) (b : ℕ) → s ≡ b ∷ t → (b ≡ 45 → ⊥) → signed_number s ≡ with_sign false (number s)
unfolding signed_number
signed_plain s t b e q = rw (e, ne_eqb b 45 q)

-- ---- the fraction

module _ (s : List ℕ) (m : Bool) (n : ℕ) where
  pub fraction_point : 1 ≤ length s → get_or s 0 0 ≡ 46 → fraction (S.Number m n) s ≡ with_sign m (digits n (drop 1 s))
  unfolding fraction
  fraction_point h e = by_bytes s h e
    where
      by_bytes : (f : List ℕ) → 1 ≤ length f → get_or f 0 0 ≡ 46 → fraction (S.Number m n) f ≡ with_sign m (digits n (drop 1 f))
      by_bytes [] k q = absurd (omega arith)
      by_bytes (b ∷ f) k q = rw (eq-eqb b 46 q)

  pub fraction_no_point : (get_or s 0 0 ≡ 46 → ⊥) → fraction (S.Number m n) s ≡ S.Malformed
  unfolding fraction
  fraction_no_point e = by_bytes s e
    where
      by_bytes : (f : List ℕ) → (get_or f 0 0 ≡ 46 → ⊥) → fraction (S.Number m n) f ≡ S.Malformed
      by_bytes [] q = refl
      by_bytes (b ∷ f) q = rw (ne_eqb b 46 q)

pub fraction_malformed : (s : List ℕ) → fraction S.Malformed s ≡ S.Malformed
unfolding fraction
fraction_malformed s = refl

-- ---- magnitudes

with_sign_below : (m : Bool) (d : (Option ℕ)) (x : ℕ) → ((n : ℕ) → d ≡ Some n → n < x) → 0 < x → magnitude (with_sign m d) < x
with_sign_below m (Some n) x f p = f n refl
with_sign_below m None x f p = p

digits_below : (b : Bool) (n : ℕ) (s : List ℕ) (m : ℕ) → (n + 1) * 10 ^ length s ≤ m → magnitude (with_sign b (digits n s)) < m
digits_below b n s m r = with_sign_below b (digits n s) m (λ x q. digits_bound m n s x r q) (omega (arith, room_le n (length s) m r))

number_below : (b : Bool) (s : List ℕ) (k : ℕ) → length s ≤ k → magnitude (with_sign b (number s)) < 10 ^ k
unfolding number
number_below b [] k h = omega (arith, pow_pos10 k)
number_below b (x ∷ s) k h = digits_below b 0 (x ∷ s) (10 ^ k) (omega (arith, pow-le-pow_right {n = 10} (lit< tt) h))

pick_below : (t : Bool) (x y : Scan) (m : ℕ) → magnitude x < m → magnitude y < m → magnitude (pick t x y) < m
pick_below true x y m p q = p
pick_below false x y m p q = q

signed_below : (s : List ℕ) (k : ℕ) → length s ≤ k → magnitude (signed_number s) < 10 ^ k
unfolding signed_number
signed_below [] k h = omega (arith, pow_pos10 k)
signed_below (x ∷ s) k h = pick_below (eqb x 45) _ _ (10 ^ k) (number_below true s k (omega arith)) (number_below false (x ∷ s) k h)

pub scan_below : (f : List ℕ) (k : ℕ) → length f ≤ k → magnitude (scan f) < 10 ^ k
unfolding scan
scan_below f k h = signed_below (trim f) k (omega (arith, skip_short 32 f))

pub fraction_below : (w : Scan) (s : List ℕ) (m : ℕ) → (magnitude w + 1) * 10 ^ (length s - 1) ≤ m → magnitude (fraction w s) < m
unfolding fraction
fraction_below S.Blank s m r = pick_below (is_none (trim s)) S.Blank S.Malformed m (room_le 0 (length s - 1) m r) (room_le 0 (length s - 1) m r)
fraction_below S.Malformed s m r = room_le 0 (length s - 1) m r
fraction_below (S.Number b n) [] m r = omega (arith, room_le n 0 m r)
fraction_below (S.Number b n) (x ∷ s) m r =
    let e : suc (length s) - 1 ≡ length s = omega arith in
    pick_below (eqb x 46) _ _ m (digits_below b n s m (rw e at r)) (omega (arith, room_le n (length s) m (rw e at r)))

-- ---- a field in two parts

module _ (f : List ℕ) (d : ℕ) (h : d < length f) where
  pub dec_parts : dec_field d f ≡ value (fraction (scan (take (length f - (d + 1)) f)) (drop (length f - (d + 1)) f))
  unfolding dec_field
  dec_parts = refl

  pub dec_room : length f ≤ 18 → (magnitude (scan (take (length f - (d + 1)) f)) + 1) * 10 ^ (length (drop (length f - (d + 1)) f) - 1) ≤ 10 ^ 18
  dec_room x =
      let p : ℕ = length f - (d + 1) in
      let e : length (drop (length f - (d + 1)) f) - 1 ≡ d = omega (arith, length-drop (length f - (d + 1)) f) in
      let a : magnitude (scan (take (length f - (d + 1)) f)) < 10 ^ p = scan_below (take (length f - (d + 1)) f) p (omega (arith, length-take (length f - (d + 1)) f)) in
      let b : (magnitude (scan (take (length f - (d + 1)) f)) + 1) * 10 ^ d ≤ 10 ^ p * 10 ^ d = mul-le-mul_right (10 ^ d) (omega arith) in
      rw e (omega (arith, b, pow-add 10 p d, pow-le-pow_right {n = 10} (lit< tt) {i = p + d} {j = 18} (omega arith)))

  pub dec_below : length f ≤ 18 → magnitude (fraction (scan (take (length f - (d + 1)) f)) (drop (length f - (d + 1)) f)) < 10 ^ 18
  dec_below x = fraction_below _ _ _ (dec_room x)

pub int_is : (f : List ℕ) → int_field f ≡ value (scan f)
unfolding int_field
int_is f = refl
