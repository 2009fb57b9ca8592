-- Laws of a block's line by itself: its trailing blanks and its last byte.
use Prim.Native.Nat.{ℕ, zero, suc, ◌+◌, ◌-◌, ◌≤◌, ◌<◌}
use mathlib.Core.Path.{◌≡◌, refl, sym, ap, ◌∙◌}
use mathlib.Core.List.{List, [], ◌∷◌, ◌++◌}
use native.Mathlib.Omega.{arith}
use lib.ListN.{length, take, get_or}
use borrow.Author.Tests.{eq-eqb, ne_eqb}
use Rattle.formats.specs.Block.{before_trimmed, trim_end, last_byte}

-- ---- trailing blanks, one byte at the end at a time

trim_end_blank : (s : List ℕ) (x : ℕ) → x ≡ 32 → trim_end (s ++ x ∷ []) ≡ trim_end s
unfolding trim_end
trim_end_blank [] x e = rw (eq-eqb x 32 e)
trim_end_blank (b ∷ s) x e = ap (before_trimmed b) (trim_end_blank s x e)

before_kept : (b : ℕ) (s : List ℕ) (x : ℕ) → before_trimmed b (s ++ x ∷ []) ≡ b ∷ (s ++ x ∷ [])
before_kept b [] x = refl
before_kept b (a ∷ s) x = refl

trim_end_other : (s : List ℕ) (x : ℕ) → (x ≡ 32 → ⊥) → trim_end (s ++ x ∷ []) ≡ s ++ x ∷ []
unfolding trim_end
trim_end_other [] x n = rw (ne_eqb x 32 n)
trim_end_other (b ∷ s) x n = ap (before_trimmed b) (trim_end_other s x n) ∙ before_kept b s x

take_last : (l : List ℕ) (i : ℕ) → i < length l → take (i + 1) l ≡ take i l ++ get_or l i 0 ∷ []
take_last [] i h = absurd (omega arith)
take_last (b ∷ l) zero h = refl
take_last (b ∷ l) (suc i) h = let e : suc i + 1 ≡ suc (i + 1) = omega arith in rw e (ap (λ (s : List ℕ). b ∷ s) (take_last l i (omega arith)))

module _ (l : List ℕ) where
  before : (i : ℕ) → 0 < i → i ≤ length l → take i l ≡ take (i - 1) l ++ get_or l (i - 1) 0 ∷ []
  before i p h = let e : i - 1 + 1 ≡ i = omega (arith, p) in ap (λ (n : ℕ). take n l) (sym e) ∙ take_last l (i - 1) (omega (arith, p, h))

  pub trim_blank : (i : ℕ) → 0 < i → i ≤ length l → get_or l (i - 1) 0 ≡ 32 → trim_end (take i l) ≡ trim_end (take (i - 1) l)
  trim_blank i p h e = ap trim_end (before i p h) ∙ trim_end_blank (take (i - 1) l) (get_or l (i - 1) 0) e

  pub trim_other : (i : ℕ) → 0 < i → i ≤ length l → (get_or l (i - 1) 0 ≡ 32 → ⊥) → trim_end (take i l) ≡ take i l
  trim_other i p h n = ap trim_end (before i p h) ∙ trim_end_other (take (i - 1) l) (get_or l (i - 1) 0) n ∙ sym (before i p h)

  pub trim_none : (i : ℕ) → i ≤ 0 → trim_end (take i l) ≡ take i l
  unfolding trim_end
  trim_none zero h = refl
  trim_none (suc i) h = absurd (omega (arith, h))

-- ---- the last byte

last_after : (s : List ℕ) (x : ℕ) → last_byte (s ++ x ∷ []) ≡ x
unfolding last_byte
last_after [] x = refl
last_after (b ∷ []) x = refl
last_after (b ∷ a ∷ s) x = last_after (a ∷ s) x

pub last_of : (l : List ℕ) (i : ℕ) → 0 < i → i ≤ length l → last_byte (take i l) ≡ get_or l (i - 1) 0
last_of l i p h = ap last_byte (before l i p h) ∙ last_after (take (i - 1) l) (get_or l (i - 1) 0)
