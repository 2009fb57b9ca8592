-- Laws of the check sum: one byte more, and the end.
use mathlib.Core.Path.{◌≡◌, refl, sym, ◌∙◌}
use mathlib.Core.List.{List, [], ◌∷◌, ◌++◌}
use Prim.Native.Nat.{ℕ, ◌+◌, ◌-◌, ◌*◌, ◌/◌, ◌%◌, ◌≤◌, ◌<◌}
use lib.ListN.{length, take, drop, get_or, drop_of_length-le, take-append-drop}
use native.Mathlib.Numerals.{add-one}
use native.Mathlib.Omega.{arith}
use lib.Bits.{bit_or, or_shifted_r}
use lib.Seq.{drop-cons, drop-drop}
use Rattle.formats.specs.Check.{check_sum, rotated, check_character}

module _ (l : List ℕ) (i : ℕ) where
  pub sum_more : (s : ℕ) → i < length l → check_sum s (drop i l) ≡ check_sum ((rotated s + get_or l i 0) % 65536) (drop (i + 1) l)
  unfolding check_sum
  sum_more s h = rw (drop-cons l i 0 h, add-one)

  pub sum_none : (s : ℕ) → length l ≤ i → check_sum s (drop i l) ≡ s
  unfolding check_sum
  sum_none s h = rw (drop_of_length-le l {i = i} h)

-- some bytes more, after those that come before them
sum_append : (a b : List ℕ) (s : ℕ) → check_sum s (a ++ b) ≡ check_sum (check_sum s a) b
unfolding check_sum
sum_append [] b s = refl
sum_append (x ∷ a) b s = sum_append a b ((rotated s + x) % 65536)

pub sum_part : (l : List ℕ) (i n s : ℕ) → check_sum (check_sum s (take n (drop i l))) (drop (i + n) l) ≡ check_sum s (drop i l)
sum_part l i n s =
    rw (← drop-drop n i l, ← sum_append (take n (drop i l)) (drop n (drop i l)) s, take-append-drop n (drop i l))

-- three bytes more
pub sum_three : (l : List ℕ) (i s a b d : ℕ) → i + 3 ≤ length l → a ≡ (rotated s + get_or l i 0) % 65536 → b ≡ (rotated a + get_or l (i + 1) 0) % 65536 → d ≡ (rotated b + get_or l (i + 2) 0) % 65536 → check_sum d (drop (i + 3) l) ≡ check_sum s (drop i l)
sum_three l i s a b d h p q r =
    let y : i + 1 + 1 ≡ i + 2 = omega arith in
    let z : i + 2 + 1 ≡ i + 3 = omega arith in
    let one = rw (← p) at (sum_more l i s (omega arith)) in
    let two = rw (← q, y) at (sum_more l (i + 1) a (omega arith)) in
    let three = rw (← r, z) at (sum_more l (i + 2) b (omega arith)) in
    sym (one ∙ two ∙ three)

pub character_is : (l : List ℕ) (s : ℕ) → s ≡ check_sum 0 l → 36 + s % 91 ≡ check_character l
unfolding check_character
character_is l s e = rw e

-- a rotation by shifts: what is shifted out on the right comes in on the left
pub rotated_or : (s : ℕ) → s < 65536 → bit_or (s / 2) (s * 32768 % 65536) ≡ rotated s
rotated_or s h =
    let e : s * 32768 % 65536 ≡ s % 2 * 32768 = omega arith in
    rw e (or_shifted_r (s % 2) 15 (s / 2) (omega arith) ∙ omega arith)

-- 4096 is 45 * 91 + 1: the high bits of a sum can be added to the low ones, and a 91st of what that gives is 45 of 4096 parts of it
pub modulo_folded : (s : ℕ) → s < 65536 → (s / 4096 + s % 4096) - (s / 4096 + s % 4096 + 1) * 45 / 4096 * 91 ≡ s % 91
modulo_folded s h =
    let f : (s / 4096 + s % 4096) % 91 ≡ s % 91 = omega arith in
    let q : (s / 4096 + s % 4096 + 1) * 45 / 4096 ≡ (s / 4096 + s % 4096) / 91 = part (s / 4096 + s % 4096) (omega arith) in
    rw q (omega arith)
  where
    part : (y : ℕ) → y ≤ 4110 → (y + 1) * 45 / 4096 ≡ y / 91
    part y g = omega arith
