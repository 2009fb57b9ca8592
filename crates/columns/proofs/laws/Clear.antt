-- Bytes that may stand in a column: the lowest barred byte is 0 exactly there, and written fields are such.
use mathlib.Core.Path.{◌≡◌, refl}
use mathlib.Core.Bool.{Bool, true, false}
use mathlib.Core.List.{List, [], ◌∷◌, ◌++◌}
use Prim.Native.Nat.{ℕ, zero, suc, ◌+◌, ◌-◌, ◌/◌, ◌%◌, ◌^◌, ◌≤◌, ◌<◌}
use native.Mathlib.Omega.{arith}
use lib.ListN.{length, take, drop, replicate}
use lib.Dec.{leb, T}
use lib.IntN.{ℤ, pos, negsuc, nat_abs}
use borrow.Author.Tests.{le-leb, lt-leb, ne_eqb, leb-true}
use Rattle.columns.specs.Answer.{pick}
use Rattle.columns.specs.Bytes.{is_text, all_text, is_bracket, is_allowed, inside, barred}
use Rattle.columns.specs.Writing.{barred_in}
use Rattle.columns.specs.Number.{digits_of, plain_digits, minus_of, is_neg, int_bytes, dec_bytes}
use Rattle.columns.proofs.laws.Tests.{both_true, T_and, T_true}

-- a byte that may stand in a column is a text byte
pub allowed_bounds : (bars : Bool) (b : ℕ) → is_allowed bars b ≡ true → (32 ≤ b) × (b ≤ 126)
allowed_bounds bars b e =
    let p = both_true (is_text b) (pick bars (pick (is_bracket b) false true) true) e in
    let q = both_true (leb 32 b) (leb b 126) p.0 in
    (leb-true 32 b q.0, leb-true b 126 q.1)

pub data Clear (bars : Bool) : List ℕ → Type 0 where
  none : Clear bars []
  more : {b : ℕ} {s : List ℕ} → is_allowed bars b ≡ true → Clear bars s → Clear bars (b ∷ s)

module _ {bars : Bool} where
  pub clear_append : {a b : List ℕ} → Clear bars a → Clear bars b → Clear bars (a ++ b)
  clear_append none q = q
  clear_append (more e p) q = more e (clear_append p q)

  pub clear_take : (k : ℕ) (l : List ℕ) → Clear bars l → Clear bars (take k l)
  clear_take zero l p = none
  clear_take (suc k) l none = none
  clear_take (suc k) l (more e p) = more e (clear_take k _ p)

  pub clear_drop : (k : ℕ) (l : List ℕ) → Clear bars l → Clear bars (drop k l)
  clear_drop zero l p = p
  clear_drop (suc k) l none = none
  clear_drop (suc k) l (more e p) = clear_drop k _ p

-- text throughout
pub text_clear : (s : List ℕ) → T (all_text s) → Clear false s
text_clear [] t = none
text_clear (b ∷ s) t = let p = T_and (is_text b) (all_text s) t in more {b = b} (rw (T_true (is_text b) p.0)) (text_clear s p.1)

-- ---- the lowest barred byte

-- in columns that bar brackets, or do not, all alike
module _ (from to : ℕ) (bars : Bool) where
  pub clear_none : (k : ℕ) {s : List ℕ} → ((i : ℕ) → k ≤ i → i < k + length s → inside from to i ≡ bars) → Clear bars s → barred from to k s ≡ 0
  unfolding barred
  clear_none k f none = refl
  clear_none k f (more {b} {s} e p) =
      rw (f k (omega arith) (omega arith), e) (clear_none (k + 1) (λ i l h. f i (omega arith) (omega arith)) p)

  none_cons : (t : Bool) (b k : ℕ) (s : List ℕ) → is_allowed bars b ≡ t → (barred from to (k + 1) s ≡ 0 → Clear bars s) → 0 < k → pick t (barred from to (k + 1) s) k ≡ 0 → Clear bars (b ∷ s)
  none_cons true b k s e f h q = more e (f q)
  none_cons false b k s e f h q = let y : ⊥ = omega arith in absurd y

  pub none_clear : (k : ℕ) (s : List ℕ) → 0 < k → ((i : ℕ) → k ≤ i → i < k + length s → inside from to i ≡ bars) → barred from to k s ≡ 0 → Clear bars s
  unfolding barred
  none_clear k [] h f e = none
  none_clear k (b ∷ s) h f e =
      none_cons (is_allowed bars b) b k s refl (none_clear (k + 1) s (omega arith) (λ i l g. f i (omega arith) (omega arith))) h
      (rw (f k (omega arith) (omega arith)) at e)

-- nothing barred: text throughout, brackets or not
text_allowed : (bars : Bool) (b : ℕ) → is_allowed bars b ≡ true → is_allowed false b ≡ true
text_allowed bars b e = let p = both_true (is_text b) (pick bars (pick (is_bracket b) false true) true) e in rw p.0

module _ (from to : ℕ) where
  text_cons : (t : Bool) (b k : ℕ) (s : List ℕ) → is_allowed (inside from to k) b ≡ t → (barred from to (k + 1) s ≡ 0 → Clear false s) → 0 < k → pick t (barred from to (k + 1) s) k ≡ 0 → Clear false (b ∷ s)
  text_cons true b k s e f h q = more (text_allowed (inside from to k) b e) (f q)
  text_cons false b k s e f h q = let y : ⊥ = omega arith in absurd y

  pub barred_text : (k : ℕ) (s : List ℕ) → 0 < k → barred from to k s ≡ 0 → Clear false s
  unfolding barred
  barred_text k [] h e = none
  barred_text k (b ∷ s) h e = text_cons (is_allowed (inside from to k) b) b k s refl (barred_text (k + 1) s (omega arith)) h e

within_own : (bars : Bool) (at n i : ℕ) → at + 1 ≤ i → i < at + 1 + n → inside (pick bars (at + 1) 0) (pick bars (at + n) 0) i ≡ bars
within_own true at n i l h = let g : i ≤ at + n = omega arith in rw (le-leb _ _ l, le-leb _ _ g)
within_own false at n i l h = let z : 0 ≤ i = omega arith in let g : 0 < i = omega arith in rw (le-leb _ _ z, lt-leb _ _ g)

pub clear_barred : (bars : Bool) (at : ℕ) (s : List ℕ) → Clear bars s → barred_in bars at s ≡ 0
clear_barred bars at s p = clear_none (pick bars (at + 1) 0) (pick bars (at + length s) 0) bars (at + 1) (within_own bars at (length s)) p

pub barred_clear : (bars : Bool) (at : ℕ) (s : List ℕ) → barred_in bars at s ≡ 0 → Clear bars s
barred_clear bars at s e = none_clear (pick bars (at + 1) 0) (pick bars (at + length s) 0) bars (at + 1) s (omega arith) (within_own bars at (length s)) e

-- ---- written fields

-- digits, the minus, the point and the colon
mark_byte : (bars : Bool) (b : ℕ) → 45 ≤ b → b ≤ 58 → is_allowed bars b ≡ true
mark_byte false b p q = let l : 32 ≤ b = omega arith in let h : b ≤ 126 = omega arith in rw (le-leb _ _ l, le-leb _ _ h)
mark_byte true b p q =
    let l : 32 ≤ b = omega arith in
    let h : b ≤ 126 = omega arith in
    let x : b ≡ 91 → ⊥ = λ z. omega arith in
    let y : b ≡ 93 → ⊥ = λ z. omega arith in
    rw (le-leb _ _ l, le-leb _ _ h, ne_eqb _ _ x, ne_eqb _ _ y)

blank_byte : (bars : Bool) → is_allowed bars 32 ≡ true
blank_byte true = refl
blank_byte false = refl

pub clear_repeat : (b w : ℕ) → T (is_text b) → Clear false (replicate w b)
clear_repeat b zero t = none
clear_repeat b (suc w) t = more {b = b} (rw (T_true (is_text b) t)) (clear_repeat b w t)

module _ (bars : Bool) where
  pub clear_blanks : (w : ℕ) → Clear bars (replicate w 32)
  clear_blanks zero = none
  clear_blanks (suc w) = more (blank_byte bars) (clear_blanks w)

  pub clear_mark : (b : ℕ) → 45 ≤ b → b ≤ 58 → Clear bars (b ∷ [])
  clear_mark b p q = more (mark_byte bars b p q) none

  pub clear_digits : (w n : ℕ) → Clear bars (digits_of w n)
  unfolding digits_of
  clear_digits zero n = none
  clear_digits (suc w) n = clear_append (clear_digits w (n / 10)) (clear_mark (48 + n % 10) (omega arith) (omega arith))

  clear_pick : (t : Bool) (a b : List ℕ) → Clear bars a → Clear bars b → Clear bars (pick t a b)
  clear_pick true a b p q = p
  clear_pick false a b p q = q

  clear_plain : (w n : ℕ) → Clear bars (plain_digits w n)
  unfolding plain_digits
  clear_plain zero n = none
  clear_plain (suc w) n =
      let d = clear_mark (48 + n % 10) (omega arith) (omega arith) in
      clear_pick (leb 10 n) _ _ (clear_append (clear_plain w (n / 10)) d) d

  clear_minus : (m : Bool) → Clear bars (minus_of m)
  clear_minus true = clear_mark 45 (omega arith) (omega arith)
  clear_minus false = none

  pub clear_int : (w : ℕ) (v : ℤ) → Clear bars (int_bytes w v)
  unfolding int_bytes
  clear_int w (pos n) = clear_digits w n
  clear_int w (negsuc n) = clear_append (clear_mark 45 (omega arith) (omega arith)) (clear_digits (w - 1) (n + 1))

  pub clear_dec : (w d : ℕ) (v : ℤ) → Clear bars (dec_bytes w d v)
  unfolding dec_bytes
  clear_dec w d v =
      clear_append (clear_append (clear_blanks (w - (d + 1) - length (minus_of (is_neg v) ++ plain_digits (w - (d + 1)) (nat_abs v / 10 ^ d)))) (clear_append (clear_minus (is_neg v)) (clear_plain (w - (d + 1)) (nat_abs v / 10 ^ d))))
      (clear_append (clear_mark 46 (omega arith) (omega arith)) (clear_digits d (nat_abs v)))
