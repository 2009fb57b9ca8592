-- Laws of the check sum of several bytes at once. Where no step but the last passes 65535, the bytes can be added first, each as far to
-- the left as it is to be rotated, and the whole be rotated afterwards.
use mathlib.Core.Path.{◌≡◌, sym, ap, ◌∙◌}
use mathlib.Core.List.{List, [], ◌∷◌}
use mathlib.Core.Logic.{◌⊎◌, inl, inr, ⊎_elim}
use Prim.Native.Nat.{ℕ, zero, suc, ◌+◌, ◌*◌, ◌/◌, ◌%◌, ◌^◌, ◌≤◌, ◌<◌}
use native.Mathlib.Nat.{mod-eq_of_lt, eq-zero-or-pos, pow-suc, add_assoc, add-mul, mul_assoc, mul_comm, add-mul-div_right, add-mul-mod_self_right}
use native.Mathlib.Numerals.{add-one}
use native.Mathlib.Omega.{arith}
use lib.Bits.{bit_xor, xor_step, xor_self, block_half, block_odd}
use lib.ListN.{length, drop, get_or, drop_of_length-le}
use lib.Seq.{drop-cons}
use Rattle.formats.specs.Check.{check_sum, rotated}

-- ---- rotated once at the end in place of before each byte

-- what an even number adds to a number, its half adds to the rotated one
rotated_add : (s x : ℕ) → rotated (s + 2 * x) ≡ rotated s + x
rotated_add s x = omega arith

-- bytes added up, each as far to the left as it is to be rotated
unfoldable pub weigh : List ℕ → ℕ
weigh [] = 0
weigh (b ∷ l) = 2 * (b + weigh l)

-- a number rotated so many times
unfoldable spun : ℕ → ℕ → ℕ
spun zero v = v
spun (suc n) v = spun n (rotated v)

-- no step but the last passes 65535
unfoldable Within : ℕ → List ℕ → Type 0
Within s [] = Unit {0}
Within s (b ∷ []) = Unit {0}
Within s (b ∷ d ∷ l) = (rotated s + b < 65536) × Within (rotated s + b) (d ∷ l)

at_once : (l : List ℕ) (s b : ℕ) → Within s (b ∷ l) → check_sum s (b ∷ l) ≡ spun (suc (length l)) (s + weigh (b ∷ l)) % 65536
unfolding check_sum weigh Within spun
at_once [] s b w =
    let e : rotated s + b ≡ rotated (s + 2 * (b + 0)) = omega arith in
    ap (λ (v : ℕ). v % 65536) e
at_once (d ∷ l) s b w =
    let e : rotated s + b + weigh (d ∷ l) ≡ rotated (s + 2 * (b + weigh (d ∷ l))) = omega (arith, rotated_add s (b + weigh (d ∷ l))) in
    rw (mod-eq_of_lt w.0) (at_once l (rotated s + b) d w.1 ∙ ap (λ (v : ℕ). spun (suc (length l)) v % 65536) e)

-- a rotation that is made twice, where n is m * m
twice : (m n k v : ℕ) → zero < m → v / n ≡ v / m / m → v % n ≡ v % m + v / m % m * m → (v / m + v % m * (k * m)) / m + (v / m + v % m * (k * m)) % m * (k * m) ≡ v / n + v % n * k
twice m n k v h d r =
    rw (d, r, ← mul_assoc (v % m) k m, add-mul-div_right (v / m) (v % m * k) h, add-mul-mod_self_right (v / m) (v % m * k) m, add-mul (v % m) (v / m % m * m) k, mul_assoc (v / m % m) m k, mul_comm m k) (add_assoc (v / m / m) (v % m * k) (v / m % m * (k * m)))

-- by two, four and eight bits
spun_two : (v : ℕ) → spun 2 v ≡ v / 4 + v % 4 * 16384
unfolding spun
spun_two v = twice 2 4 16384 v (omega arith) (omega arith) (omega arith)

spun_four : (v : ℕ) → spun 4 v ≡ v / 16 + v % 16 * 4096
unfolding spun
spun_four v = spun_two (spun 2 v) ∙ rw (spun_two v) (twice 4 16 4096 v (omega arith) (omega arith) (omega arith))

spun_eight : (v : ℕ) → spun 8 v ≡ v / 256 + v % 256 * 256
unfolding spun
spun_eight v = spun_four (spun 4 v) ∙ rw (spun_four v) (twice 16 256 256 v (omega arith) (omega arith) (omega arith))

-- ---- the ones at the end of a number

-- a one for each of them and one for the zero before them: 1 for an even number
abbrev pub ones : ℕ → ℕ
ones v = bit_xor v (v + 1)

ones_even : (v : ℕ) → v % 2 ≡ 0 → ones v ≡ 1
ones_even v e =
    let h : (v + 1) / 2 ≡ v / 2 = omega arith in
    let o : (v + 1) % 2 ≡ 1 = omega arith in
    xor_step v (v + 1) ∙ rw (h, o, e, xor_self)

ones_odd : (v : ℕ) → v % 2 ≡ 1 → ones v ≡ ones (v / 2) * 2 + 1
ones_odd v e =
    let h : (v + 1) / 2 ≡ v / 2 + 1 = omega arith in
    let o : (v + 1) % 2 ≡ 0 = omega arith in
    xor_step v (v + 1) ∙ rw (h, o, e)

even_odd : (v : ℕ) → (v % 2 ≡ 0) ⊎ (v % 2 ≡ 1)
even_odd v = ⊎_elim inl (λ p. inr (omega arith)) (eq-zero-or-pos (v % 2))

ones_some : (v : ℕ) → 1 ≤ ones v
ones_some v = ⊎_elim (λ e. omega (arith, ones_even v e)) (λ e. omega (arith, ones_odd v e)) (even_odd v)

-- what is added above them changes nothing
far_even : (k q x : ℕ) → x % 2 ≡ 0 → ones (q * 2 ^ suc k + x) ≡ ones x
far_even k q x e = ones_even (q * 2 ^ suc k + x) (block_odd q k x ∙ e) ∙ sym (ones_even x e)

far_odd : (k q x : ℕ) → x % 2 ≡ 1 → ones (q * 2 ^ suc k + x / 2) ≡ ones (x / 2) → ones (q * 2 ^ suc (suc k) + x) ≡ ones x
far_odd k q x e r =
    ones_odd (q * 2 ^ suc (suc k) + x) (block_odd q (suc k) x ∙ e) ∙ rw (block_half q (suc k) x, r) (sym (ones_odd x e))

ones_far : (k q x : ℕ) → ones x < 2 ^ suc k → ones (q * 2 ^ suc k + x) ≡ ones x
ones_far zero q x h =
    ⊎_elim (far_even zero q x) (λ e. let y : ⊥ = omega (arith, ones_odd x e, ones_some (x / 2)) in absurd y) (even_odd x)
ones_far (suc k) q x h =
    ⊎_elim (far_even (suc k) q x) (λ e. far_odd k q x e (ones_far k q (x / 2) (omega (arith, ones_odd x e, pow-suc 2 (suc k))))) (even_odd x)

-- ---- which bytes keep the sum within 65535

-- what so many bytes can add up to
unfoldable full : ℕ → ℕ
full zero = 0
full (suc n) = 2 * (255 + full n)

-- every number of the list is a byte
abbrev pub AllBytes : List ℕ → Type 0
AllBytes l = (i : ℕ) → get_or l i 0 < 256

-- a sum that is far enough from 65535
within_far : (l : List ℕ) (s b : ℕ) → AllBytes (b ∷ l) → s + full (length l) ≤ 65535 → Within s (b ∷ l)
unfolding Within full
within_far [] s b h g = tt
within_far (d ∷ l) s b h g =
    let y : b < 256 = h 0 in
    (omega arith, within_far l (rotated s + b) d (λ i. h (suc i)) (omega arith))

-- a one that is rotated to the top, with room for it and for the ones behind it
odd_step : (s b w : ℕ) → b < 256 → s % 2 ≡ 1 → s + 255 * ones (s + 2 * (b + w)) ≤ 65790 → (rotated s + b < 65536) × (rotated s + b + 255 * ones (rotated s + b + w) ≤ 65790)
odd_step s b w h e g =
    let v = s + 2 * (b + w) in
    let o : ones v ≡ ones (v / 2) * 2 + 1 = ones_odd v (omega arith) in
    let p : 1 ≤ ones (v / 2) = ones_some (v / 2) in
    let n : rotated s + b + w ≡ 32768 + v / 2 = omega arith in
    let f : ones (32768 + v / 2) ≡ ones (v / 2) = ones_far 14 1 (v / 2) (omega arith) in
    (omega arith, rw (n, f) (omega arith))

-- a sum with room for the ones behind it
within_ones : (l : List ℕ) (s b : ℕ) → AllBytes (b ∷ l) → s ≤ 65535 → full (length l) ≤ 64770 → s + 255 * ones (s + weigh (b ∷ l)) ≤ 65790 → Within s (b ∷ l)
unfolding Within full weigh
within_ones [] s b h z f g = tt
within_ones (d ∷ l) s b h z f g =
    let y : b < 256 = h 0 in
    let m : full (length l) ≤ 32130 = omega arith in
    ⊎_elim
    (λ e. (omega arith, within_far l (rotated s + b) d (λ i. h (suc i)) (omega arith)))
    (λ e. let q = odd_step s b (weigh (d ∷ l)) y e g in (q.0, within_ones l (rotated s + b) d (λ i. h (suc i)) (omega arith) (omega arith) q.1))
    (even_odd s)

-- of a number shifted left only the low bits stay
shifted_low : (v : ℕ) → (v / 256 + v * 256) % 65536 ≡ (v / 256 + v % 256 * 256) % 65536
shifted_low v =
    let e : v / 256 + v * 256 ≡ v / 256 + v % 256 * 256 + v / 256 * 65536 = omega arith in
    rw e (add-mul-mod_self_right (v / 256 + v % 256 * 256) (v / 256) 65536)

-- eight bytes at once
pub eight_at_once : (l : List ℕ) (s : ℕ) → length l ≡ 8 → AllBytes l → s ≤ 65535 → s + 255 * ones (s + weigh l) ≤ 65790 → check_sum s l ≡ ((s + weigh l) / 256 + (s + weigh l) * 256) % 65536
unfolding full
eight_at_once [] s n h z g = absurd (omega arith)
eight_at_once (b ∷ l) s n h z g =
    let w : length l ≡ 7 = omega arith in
    let f : full (length l) ≤ 64770 = rw w (omega arith) in
    at_once l s b (within_ones l s b h z f g) ∙ rw (w, spun_eight (s + weigh (b ∷ l))) (sym (shifted_low (s + weigh (b ∷ l))))

-- ---- the bytes added up from the last to the first

module _ (l : List ℕ) (k : ℕ) where
  pub weigh_more : k < length l → weigh (drop k l) ≡ 2 * (get_or l k 0 + weigh (drop (k + 1) l))
  unfolding weigh
  weigh_more h = rw (drop-cons l k 0 h, add-one)

  pub weigh_none : length l ≤ k → weigh (drop k l) ≡ 0
  unfolding weigh
  weigh_none h = rw (drop_of_length-le l {i = k} h)

weigh_drop : (k : ℕ) (l : List ℕ) → weigh (drop k l) ≤ weigh l
unfolding weigh
weigh_drop zero l = omega arith
weigh_drop (suc k) [] = omega arith
weigh_drop (suc k) (b ∷ l) = omega (arith, weigh_drop k l)

weigh_full : (l : List ℕ) → AllBytes l → weigh l ≤ full (length l)
unfolding weigh full
weigh_full [] h = omega arith
weigh_full (b ∷ l) h = let y : b < 256 = h 0 in omega (arith, weigh_full l (λ i. h (suc i)))

pub weigh_most : (l : List ℕ) (k : ℕ) → length l ≡ 8 → AllBytes l → weigh (drop k l) ≤ 130050
unfolding full
weigh_most l k n h =
    let f : weigh l ≤ full 8 = rw n at (weigh_full l h) in
    omega (arith, weigh_drop k l)
