-- How the code writes number fields: the turns of its loops, its sums on signed numbers, and a field in its parts.
use mathlib.Core.Path.{◌≡◌, refl, sym, ap, ◌∙◌, subst}
use mathlib.Core.Bool.{true, false}
use mathlib.Core.List.{List, [], ◌∷◌, ◌++◌, append_assoc, append-nil}
use Prim.Native.Nat.{ℕ, zero, suc, ◌+◌, ◌-◌, ◌*◌, ◌/◌, ◌%◌, ◌^◌, ◌≤◌, ◌<◌}
use native.Mathlib.Nat.{pow-suc, pow-zero, pow-le-pow_right}
use native.Mathlib.Numerals.{add-one}
use native.Mathlib.Omega.{arith}
use lib.ListN.{length, take, drop, set, length-set, length-append, length-take, length-drop, drop_of_length-le}
use lib.Seq.{drop-cons, get_or-set_same, drop-set-lt, drop-length, take-length, length-take-le, drop_at}
use borrow.Rule.Slice.PartMut.{mid_of, put_mid, same_len_mid}
use lib.Dec.{ltb, lit<}
use lib.IntN.{ℤ, pos, negsuc, neg_ℤ, nat_abs, ◌+ℤ◌, ◌-ℤ◌, +ℤ_one, +ℤ_idl, neg_ℤ-neg_ℤ}
use lib.Signed.{mag, lt_z}
use mir.Syntax.{w64}
use mir.Val.{SFits, to_z, of_z}
use mir.ValLaws.{to_z-of_z}
use borrow.Author.Tests.{ltb-true}
use Rattle.columns.specs.declared.written.Pen.{Pen}
use Rattle.columns.specs.Number.{digits_of, int_bytes, holds_int, holds_dec, byte_of, next_pen, back}

-- ---- a digit more, from the right

drop_set_at : (l : List ℕ) (k b : ℕ) → k < length l → drop k (set l k b) ≡ b ∷ drop (suc k) l
drop_set_at l k b h =
    drop-cons (set l k b) k 0 (omega (arith, length-set l k b))
    ∙ rw (get_or-set_same l k b 0 h, drop-set-lt (suc k) l k b (omega arith))

pub write_more : (l : List ℕ) (k m : ℕ) → k < length l → digits_of (suc k) m ++ drop (suc k) l ≡ digits_of k (m / 10) ++ drop k (set l k (48 + m % 10))
unfolding digits_of
write_more l k m h = rw (append_assoc, drop_set_at l k (48 + m % 10) h)

pub write_turn : (l : List ℕ) (i m : ℕ) → 0 < i → i ≤ length l → digits_of i m ++ drop i l ≡ digits_of (i - 1) (m / 10) ++ drop (i - 1) (set l (i - 1) (48 + m % 10))
write_turn l i m h k =
    let e : i ≡ suc (i - 1) = omega arith in
    subst (λ (x : ℕ). digits_of x m ++ drop x l ≡ digits_of (i - 1) (m / 10) ++ drop (i - 1) (set l (i - 1) (48 + m % 10))) (sym e) (write_more l (i - 1) m (omega arith))

pub write_start : (l : List ℕ) (n : ℕ) → digits_of (length l) n ≡ digits_of (length l) n ++ drop (length l) l
write_start l n = rw (drop-length l, append-nil)

pub write_end : (l : List ℕ) (i m : ℕ) → i ≤ 0 → digits_of i m ++ drop i l ≡ l
unfolding digits_of
write_end l i m h = let e : i ≡ 0 = omega arith in rw e

-- ---- a place more, by a pen

pub back_turn : (l : List ℕ) (i : ℕ) (p : Pen) (b : ℕ) (q : Pen) → 0 < i → i ≤ length l → b ≡ byte_of p → q ≡ next_pen p → back i p ++ drop i l ≡ back (i - 1) q ++ drop (i - 1) (set l (i - 1) b)
unfolding back
back_turn l (suc i) p b q h k e f =
    let z : suc i - 1 ≡ i = omega arith in
    rw (z, append_assoc, drop_set_at l i b (omega arith), e, f)
back_turn l zero p b q h k e f = let y : ⊥ = omega arith in absurd y

pub back_start : (l : List ℕ) (p : Pen) → back (length l) p ≡ back (length l) p ++ drop (length l) l
back_start l p = rw (drop-length l, append-nil)

pub back_end : (l : List ℕ) (i : ℕ) (p : Pen) → i ≤ 0 → back i p ++ drop i l ≡ l
unfolding back
back_end l i p h = let e : i ≡ 0 = omega arith in rw e

-- ---- powers

pub power_more : (i : ℕ) → 10 ^ (i + 1) ≡ 10 ^ i * 10
power_more i = rw (add-one, pow-suc)

pub power_pos : (i : ℕ) → 0 < 10 ^ i
power_pos zero = omega (arith, pow-zero 10)
power_pos (suc i) = omega (arith, pow-suc 10 i, power_pos i)

pub power_le : (i : ℕ) → i ≤ 18 → 10 ^ i ≤ 10 ^ 18
power_le i h = pow-le-pow_right {n = 10} (lit< tt) h

-- ---- signs

neg_next : (n : ℕ) → negsuc n +ℤ pos 1 ≡ neg_ℤ (pos n)
neg_next zero = refl
neg_next (suc n) = +ℤ_one (negsuc (suc n))

zero_sub : (n : ℕ) → pos 0 -ℤ neg_ℤ (pos n) ≡ pos n
zero_sub n = +ℤ_idl (neg_ℤ (neg_ℤ (pos n))) ∙ neg_ℤ-neg_ℤ (pos n)

mag_neg : (n : ℕ) → mag (neg_ℤ (pos n)) ≤ n
mag_neg zero = omega arith
mag_neg (suc n) = omega arith

-- what the code computes of a negative number
pub record Negative (v : ℤ) : Type 0 where
  pub next : SFits w64 (to_z w64 (of_z w64 v) +ℤ pos 1)
  pub back : SFits w64 (pos 0 -ℤ to_z w64 (of_z w64 (to_z w64 (of_z w64 v) +ℤ pos 1)))
  pub low : ℕ
  pub fits : low < 2 ^ 63
  pub is : to_z w64 (of_z w64 (pos 0 -ℤ to_z w64 (of_z w64 (to_z w64 (of_z w64 v) +ℤ pos 1)))) ≡ pos low
  pub suc_is : nat_abs v ≡ low + 1

pub negative : (v : ℤ) → SFits w64 v → lt_z (to_z w64 (of_z w64 v)) (pos 0) ≡ true → Negative v
negative (pos n) s t = let e : ltb n 0 ≡ true = rw (to_z-of_z w64 (pos n) s) at t in let y : ⊥ = omega (arith, ltb-true n 0 e) in absurd y
negative (negsuc n) s t =
    let h : n < 2 ^ 63 = s.sfits in
    let a : SFits w64 (neg_ℤ (pos n)) = record { sfits = omega (arith, mag_neg n) } in
    let b : SFits w64 (pos n) = record { sfits = h } in
    let e : to_z w64 (of_z w64 (negsuc n)) +ℤ pos 1 ≡ neg_ℤ (pos n) = rw (to_z-of_z w64 (negsuc n) s) (neg_next n) in
    let f : pos 0 -ℤ to_z w64 (of_z w64 (to_z w64 (of_z w64 (negsuc n)) +ℤ pos 1)) ≡ pos n = rw (e, to_z-of_z w64 (neg_ℤ (pos n)) a) (zero_sub n) in
    record {
      next = rw e a;
      back = rw f b;
      low = n;
      fits = h;
      is = rw (f, to_z-of_z w64 (pos n) b);
      suc_is = sym (add-one n);
    }

pub non_negative : (v : ℤ) → SFits w64 v → lt_z (to_z w64 (of_z w64 v)) (pos 0) ≡ false → to_z w64 (of_z w64 v) ≡ pos (nat_abs v) × (nat_abs v < 2 ^ 63)
non_negative (pos n) s t = (to_z-of_z w64 (pos n) s, s.sfits)
non_negative (negsuc n) s t =
    let e : true ≡ false = rw (to_z-of_z w64 (negsuc n) s) at t in
    let z : ◌≡◌ {A = ℕ} 0 1 = cc in let y : ⊥ = omega arith in absurd y

negative_only : (v : ℤ) (n : ℕ) → v ≡ pos n → SFits w64 v → lt_z (to_z w64 (of_z w64 v)) (pos 0) ≡ true → ⊥
negative_only v n e s t =
    let q : ltb n 0 ≡ true = rw (to_z-of_z w64 v s, e) at t in
    omega (arith, ltb-true n 0 q)

no_negative : (v : ℤ) (n : ℕ) → v ≡ negsuc n → SFits w64 v → lt_z (to_z w64 (of_z w64 v)) (pos 0) ≡ false → ⊥
no_negative v n e s t =
    let q : true ≡ false = rw (to_z-of_z w64 v s, e) at t in
    let z : ◌≡◌ {A = ℕ} 0 1 = cc in
    omega arith

-- what a field holds and what is written, by the sign that the code tested
module _ (w : ℕ) where
  pub int_neg : (v : ℤ) → SFits w64 v → lt_z (to_z w64 (of_z w64 v)) (pos 0) ≡ true → (ltb (nat_abs v) (10 ^ (w - 1)) ≡ holds_int w v) × (45 ∷ digits_of (w - 1) (nat_abs v) ≡ int_bytes w v)
  unfolding holds_int int_bytes
  int_neg (pos n) s t = let y : ⊥ = negative_only (pos n) n refl s t in absurd y
  int_neg (negsuc n) s t = rw add-one (refl, refl)

  pub int_pos : (v : ℤ) → SFits w64 v → lt_z (to_z w64 (of_z w64 v)) (pos 0) ≡ false → (ltb (nat_abs v) (10 ^ w) ≡ holds_int w v) × (digits_of w (nat_abs v) ≡ int_bytes w v)
  unfolding holds_int int_bytes
  int_pos (pos n) s t = (refl, refl)
  int_pos (negsuc n) s t = let y : ⊥ = no_negative (negsuc n) n refl s t in absurd y

  pub dec_neg : (v : ℤ) → SFits w64 v → lt_z (to_z w64 (of_z w64 v)) (pos 0) ≡ true → ltb (nat_abs v) (10 ^ (w - 2)) ≡ holds_dec w v
  unfolding holds_dec
  dec_neg (pos n) s t = let y : ⊥ = negative_only (pos n) n refl s t in absurd y
  dec_neg (negsuc n) s t = rw add-one

  pub dec_pos : (v : ℤ) → SFits w64 v → lt_z (to_z w64 (of_z w64 v)) (pos 0) ≡ false → ltb (nat_abs v) (10 ^ (w - 1)) ≡ holds_dec w v
  unfolding holds_dec
  dec_pos (pos n) s t = refl
  dec_pos (negsuc n) s t = let y : ⊥ = no_negative (negsuc n) n refl s t in absurd y

-- ---- an integer field

pub digits_length : (w n : ℕ) → length (digits_of w n) ≡ w
unfolding digits_of
digits_length zero n = refl
digits_length (suc w) n = length-append (digits_of w (n / 10)) ((48 + n % 10) ∷ []) ∙ omega (arith, digits_length w (n / 10))

pub minus_put : (l ys : List ℕ) (n : ℕ) → 1 ≤ length l → ys ≡ digits_of (length (mid_of 1 (length (set l 0 45) - 1) (set l 0 45))) n → put_mid 1 (length (set l 0 45) - 1) (set l 0 45) ys ≡ 45 ∷ digits_of (length l - 1) n
minus_put [] ys n h e = let y : ⊥ = omega arith in absurd y
minus_put (x ∷ s) ys n h e =
    let k : suc (length s) - 1 ≡ length s = omega arith in
    let f : ys ≡ digits_of (length s) n = rw (k, take-length s) at e in
    rw (k, drop-length s, append-nil, f)

pub minus_length : (l : List ℕ) (n : ℕ) → 1 ≤ length l → length (45 ∷ digits_of (length l - 1) n) ≡ length l
minus_length l n h = omega (arith, digits_length (length l - 1) n)

-- ---- a decimal field: its digits, its point, its whole part

pub back_length : (w : ℕ) (p : Pen) → length (back w p) ≡ w
unfolding back
back_length zero p = refl
back_length (suc w) p = length-append (back w (next_pen p)) (byte_of p ∷ []) ∙ omega (arith, back_length w (next_pen p))

module _ (l ys : List ℕ) (p d : ℕ) (h : p + (d + 1) ≡ length l) where
  pub dec_mid : length (mid_of (p + 1) (length l - (p + 1)) l) ≡ d
  dec_mid = length-take (length l - (p + 1)) (drop (p + 1) l) ∙ rw length-drop (omega arith)

  module _ (k : length ys ≡ length (mid_of (p + 1) (length l - (p + 1)) l)) where
    pub dec_put_length : length (set (put_mid (p + 1) (length l - (p + 1)) l ys) p 46) ≡ length l
    dec_put_length = length-set (put_mid (p + 1) (length l - (p + 1)) l ys) p 46 ∙ same_len_mid (p + 1) (length l - (p + 1)) l ys k

    pub dec_drop : drop p (set (put_mid (p + 1) (length l - (p + 1)) l ys) p 46) ≡ 46 ∷ ys
    dec_drop =
        let n : length (take (p + 1) l) ≡ suc p = length-take-le (p + 1) l (omega arith) ∙ add-one p in
        let a : length (put_mid (p + 1) (length l - (p + 1)) l ys) ≡ length l = same_len_mid (p + 1) (length l - (p + 1)) l ys k in
        let z : drop (length l - (p + 1)) (drop (p + 1) l) ≡ [] = drop_of_length-le (drop (p + 1) l) {i = length l - (p + 1)} (omega (arith, length-drop (p + 1) l)) in
        drop_set_at (put_mid (p + 1) (length l - (p + 1)) l ys) p 46 (omega arith)
        ∙ ap (λ (x : List ℕ). 46 ∷ x) (drop_at (take (p + 1) l) (ys ++ drop (length l - (p + 1)) (drop (p + 1) l)) (suc p) n ∙ rw (z, append-nil))
