-- Laws of a number in bytes, high byte first: the loops that write and read it, its equations, that it determines the bytes, and that
-- it orders as they do.
use Prim.Native.Nat.{ℕ, zero, suc, ◌+◌, ◌-◌, ◌*◌, ◌/◌, ◌%◌, ◌^◌, ◌≤◌, ◌<◌}
use mathlib.Core.Path.{◌≡◌, refl, ap, ap₂, ◌∙◌}
use mathlib.Core.Logic.{◌↔◌, ◌⊎◌, inl, inr}
use mathlib.Core.Bool.{Bool}
use mathlib.Core.List.{List, [], ◌∷◌, ◌++◌, append_assoc, append-nil}
use native.Mathlib.Nat.{pow-suc, pow-le-pow_right}
use native.Mathlib.Numerals.{add-one}
use native.Mathlib.Omega.{arith}
use lib.ListN.{length, drop, get_or, set, length-set, length-append, drop_of_length-le}
use lib.Seq.{drop-cons, get_or-set_same, drop-set-lt, drop-length}
use lib.Dec.{lit<}
use Rattle.columns.specs.Word.{word_bytes, word_of}
use Rattle.columns.proofs.laws.Clear.{Clear, allowed_bounds}
use Rattle.columns.proofs.laws.Tri.{less, same, more, tri}
use Rattle.columns.proofs.laws.Clear as clear

-- ---- a number in bytes, written from the right

drop_set_at : (l : List ℕ) (k b : ℕ) → k < length l → drop k (set l k b) ≡ b ∷ drop (suc k) l
drop_set_at l k b h =
    drop-cons (set l k b) k 0 (omega (arith, length-set l k b))
    ∙ rw (get_or-set_same l k b 0 h, drop-set-lt (suc k) l k b (omega arith))

pub word_turn : (l : List ℕ) (i m : ℕ) → 0 < i → i ≤ length l → word_bytes i m ++ drop i l ≡ word_bytes (i - 1) (m / 256) ++ drop (i - 1) (set l (i - 1) (m % 256))
unfolding word_bytes
word_turn l zero m h k = let y : ⊥ = omega arith in absurd y
word_turn l (suc i) m h k =
    let z : suc i - 1 ≡ i = omega arith in
    rw (z, append_assoc, drop_set_at l i (m % 256) (omega arith))

pub word_start : (l : List ℕ) (n : ℕ) → word_bytes (length l) n ≡ word_bytes (length l) n ++ drop (length l) l
word_start l n = rw (drop-length l, append-nil)

pub word_end : (l : List ℕ) (i m : ℕ) → i ≤ 0 → word_bytes i m ++ drop i l ≡ l
unfolding word_bytes
word_end l i m h = let e : i ≡ 0 = omega arith in rw e

pub word_length : (w n : ℕ) → length (word_bytes w n) ≡ w
unfolding word_bytes
word_length zero n = refl
word_length (suc w) n = length-append (word_bytes w (n / 256)) ((n % 256) ∷ []) ∙ omega (arith, word_length w (n / 256))

-- ---- a number in bytes, read from the left

module _ (l : List ℕ) (i : ℕ) where
  pub word_more : (n : ℕ) → i < length l → word_of n (drop i l) ≡ word_of (n * 256 + get_or l i 0) (drop (i + 1) l)
  unfolding word_of
  word_more n h = rw (drop-cons l i 0 h, add-one)

  pub word_none : (n : ℕ) → length l ≤ i → word_of n (drop i l) ≡ n
  unfolding word_of
  word_none n h = rw (drop_of_length-le l {i = i} h)

-- the number so far leaves room for the bytes to come
pub word_room : (n b i : ℕ) → b < 256 → n < 256 ^ i → n * 256 + b < 256 ^ (i + 1)
word_room n b i h k = rw (add-one, pow-suc) (omega arith)

pub word_low : (i : ℕ) → i < 8 → 256 ^ (i + 1) ≤ 256 ^ 8
word_low i h = let k : i + 1 ≤ 8 = omega arith in pow-le-pow_right {n = 256} (lit< tt) k

-- ---- bytes

-- each element is a byte
abbrev pub Bytes : List ℕ → Type 0
Bytes [] = Unit {0}
Bytes (x ∷ xs) = (x < 256) × Bytes xs

-- what may stand in a line is bytes
pub clear_bytes : {bars : Bool} {s : List ℕ} → Clear bars s → Bytes s
clear_bytes clear.none = tt
clear_bytes {bars} (clear.more {b} e p) = (omega (arith, (allowed_bounds bars b e).1), clear_bytes p)

-- ---- the number, byte by byte

pub word_nil : (a : ℕ) → word_of a [] ≡ a
unfolding word_of
word_nil a = refl

pub word_cons : (a b : ℕ) (s : List ℕ) → word_of a (b ∷ s) ≡ word_of (a * 256 + b) s
unfolding word_of
word_cons a b s = refl

pub word_append : (a : ℕ) (xs ys : List ℕ) → word_of a (xs ++ ys) ≡ word_of (word_of a xs) ys
unfolding word_of
word_append a [] ys = refl
word_append a (x ∷ xs) ys = word_append (a * 256 + x) xs ys

-- the bytes of a number that they can hold, read again
pub word_back : (w n : ℕ) → n < 256 ^ w → word_of 0 (word_bytes w n) ≡ n
unfolding word_bytes
word_back zero n h = word_nil 0 ∙ omega arith
word_back (suc w) n h =
    let k : n < 256 ^ w * 256 = rw pow-suc at h in
    let d : n / 256 < 256 ^ w = omega arith in
    word_append 0 (word_bytes w (n / 256)) ((n % 256) ∷ [])
    ∙ word_cons (word_of 0 (word_bytes w (n / 256))) (n % 256) []
    ∙ word_nil (word_of 0 (word_bytes w (n / 256)) * 256 + n % 256)
    ∙ ap (λ (x : ℕ). x * 256 + n % 256) (word_back w (n / 256) d)
    ∙ omega arith

-- the number of bytes determines them
pub word_inj : (xs ys : List ℕ) (a b : ℕ) → length xs ≡ length ys → Bytes xs → Bytes ys → word_of a xs ≡ word_of b ys → (a ≡ b) × (xs ≡ ys)
unfolding word_of
word_inj [] [] a b n h k e = (e, refl)
word_inj [] (y ∷ ys) a b n h k e = absurd (omega arith)
word_inj (x ∷ xs) [] a b n h k e = absurd (omega arith)
word_inj (x ∷ xs) (y ∷ ys) a b n h k e =
    let r : (a * 256 + x ≡ b * 256 + y) × (xs ≡ ys) = word_inj xs ys (a * 256 + x) (b * 256 + y) (omega arith) h.1 k.1 e in
    (omega arith, ap₂ (λ (u : ℕ) (v : List ℕ). u ∷ v) (omega arith) r.1)

-- ---- the order by byte code: the first byte that differs decides

abbrev pub Before : List ℕ → List ℕ → Type 0
Before [] ys = ⊥
Before (x ∷ xs) [] = ⊥
Before (x ∷ xs) (y ∷ ys) = (x < y) ⊎ ((x ≡ y) × Before xs ys)

word_lt : (xs ys : List ℕ) (a b : ℕ) → length xs ≡ length ys → Bytes xs → Bytes ys → a < b → word_of a xs < word_of b ys
unfolding word_of
word_lt [] [] a b n h k l = l
word_lt [] (y ∷ ys) a b n h k l = absurd (omega arith)
word_lt (x ∷ xs) [] a b n h k l = absurd (omega arith)
word_lt (x ∷ xs) (y ∷ ys) a b n h k l = word_lt xs ys (a * 256 + x) (b * 256 + y) (omega arith) h.1 k.1 (omega arith)

before_word : (xs ys : List ℕ) (a : ℕ) → length xs ≡ length ys → Bytes xs → Bytes ys → Before xs ys → word_of a xs < word_of a ys
unfolding word_of
before_word [] ys a n h k l = absurd l
before_word (x ∷ xs) [] a n h k l = absurd l
before_word (x ∷ xs) (y ∷ ys) a n h k l =
    elim l [
      | inl p ↦ word_lt xs ys (a * 256 + x) (a * 256 + y) (omega arith) h.1 k.1 (omega arith)
      | inr p ↦ rw p.0 (before_word xs ys (a * 256 + y) (omega arith) h.1 k.1 p.1)
    ]

word_before : (xs ys : List ℕ) (a : ℕ) → length xs ≡ length ys → Bytes xs → Bytes ys → word_of a xs < word_of a ys → Before xs ys
unfolding word_of
word_before [] [] a n h k l = absurd (omega arith)
word_before [] (y ∷ ys) a n h k l = absurd (omega arith)
word_before (x ∷ xs) [] a n h k l = absurd (omega arith)
word_before (x ∷ xs) (y ∷ ys) a n h k l =
    elim (tri x y) [
      | less p ↦ inl p
      | same p ↦ inr (p, word_before xs ys (a * 256 + y) (omega arith) h.1 k.1 (rw p at l))
      | more p ↦ absurd (omega (arith, l, word_lt ys xs (a * 256 + y) (a * 256 + x) (omega arith) k.1 h.1 (omega arith)))
    ]

-- of lists of bytes of one length the one before the other has the lower number
pub byte_order : (xs ys : List ℕ) → length xs ≡ length ys → Bytes xs → Bytes ys → Before xs ys ↔ (word_of 0 xs < word_of 0 ys)
byte_order xs ys n h k = (before_word xs ys 0 n h k, word_before xs ys 0 n h k)
