-- Laws of bytes up to the first of a code, and of lines: where a line ends, and the lines from there on.
use Prim.Native.Nat.{ℕ, zero, suc, ◌+◌, ◌-◌, ◌≤◌, ◌<◌}
use mathlib.Core.Path.{◌≡◌, refl, sym, ◌∙◌, ap}
use mathlib.Core.Bool.{Bool, true, false, not, ◌&&◌, false≢true}
use mathlib.Core.List.{List, [], ◌∷◌, ◌++◌}
use mathlib.Core.Logic.{◌⊎◌, inl, inr}
use native.Mathlib.Omega.{arith}
use native.Mathlib.Numerals.{add-one}
use lib.Dec.{eqb}
use lib.ListN.{length, take, drop, get_or, length-drop, length-append, drop_of_length-le, take-append-drop}
use lib.Seq.{drop-cons, drop-drop, length-take-le, take_all}
use borrow.Author.Tests.{eq-eqb, ne_eqb, eqb-true, eqb-false}
use Rattle.columns.specs.Answer.{pick}
use Rattle.formats.specs.Lines.{on_first, lines_of, up_to, end_from, line_end}

-- ---- no line; one empty line; a last line with and without its newline, here of the byte 65

lines_of_none : lines_of [] ≡ []
unfolding lines_of
lines_of_none = refl

lines_of_newline : lines_of (10 ∷ []) ≡ [] ∷ []
unfolding lines_of
lines_of_newline = refl

lines_of_last : lines_of (10 ∷ 65 ∷ []) ≡ [] ∷ (65 ∷ []) ∷ []
unfolding lines_of on_first
lines_of_last = refl

lines_of_ended : lines_of (10 ∷ 65 ∷ 10 ∷ []) ≡ [] ∷ (65 ∷ []) ∷ []
unfolding lines_of on_first
lines_of_ended = refl

-- ---- two numbers

pub lt_or_le : (a b : ℕ) → (a < b) ⊎ (b ≤ a)
lt_or_le zero zero = inr (omega arith)
lt_or_le zero (suc b) = inl (omega arith)
lt_or_le (suc a) zero = inr (omega arith)
lt_or_le (suc a) (suc b) = elim (lt_or_le a b) [ inl p ↦ inl (omega (arith, p)) | inr p ↦ inr (omega (arith, p)) ]

-- ---- all bytes from a place on

pub rest_is : (s : List ℕ) (at : ℕ) → take (length s - at) (drop at s) ≡ drop at s
rest_is s at = take_all (length s - at) (drop at s) (omega (arith, length-drop at s))

-- ---- the bytes before the first of a code

module _ (stop : ℕ) where
  pub upto_nil : up_to stop [] ≡ []
  unfolding up_to
  upto_nil = refl

  pub upto_stop : (b : ℕ) (s : List ℕ) → b ≡ stop → up_to stop (b ∷ s) ≡ []
  unfolding up_to
  upto_stop b s e = rw (eq-eqb b stop e)

  pub upto_more : (b : ℕ) (s : List ℕ) → (b ≡ stop → ⊥) → up_to stop (b ∷ s) ≡ b ∷ up_to stop s
  unfolding up_to
  upto_more b s n = rw (ne_eqb b stop n)

  -- of the first bytes they are the first bytes of all of them
  pub upto_front : (n : ℕ) (s : List ℕ) → up_to stop (take n s) ≡ take n (up_to stop s)
  unfolding up_to
  upto_front zero s = refl
  upto_front (suc n) [] = refl
  upto_front (suc n) (b ∷ s) = by_test (eqb b stop) (up_to stop (take n s)) (up_to stop s) (upto_front n s)
    where
      by_test : (t : Bool) (v w : List ℕ) → v ≡ take n w → pick t [] (b ∷ v) ≡ take (suc n) (pick t [] (b ∷ w))
      by_test true v w e = refl
      by_test false v w e = ap (λ (x : List ℕ). b ∷ x) e

  pub upto_short : (s : List ℕ) → length (up_to stop s) ≤ length s
  unfolding up_to
  upto_short [] = omega arith
  upto_short (b ∷ s) = by_test (eqb b stop) (up_to stop s) (upto_short s)
    where
      by_test : (t : Bool) (w : List ℕ) → length w ≤ length s → length (pick t [] (b ∷ w)) ≤ length (b ∷ s)
      by_test true w h = omega arith
      by_test false w h = omega arith

  pub upto_take : (s : List ℕ) → take (length (up_to stop s)) s ≡ up_to stop s
  unfolding up_to
  upto_take [] = refl
  upto_take (b ∷ s) = by_test (eqb b stop) (up_to stop s) (upto_take s)
    where
      by_test : (t : Bool) (w : List ℕ) → take (length w) s ≡ w → take (length (pick t [] (b ∷ w))) (b ∷ s) ≡ pick t [] (b ∷ w)
      by_test true w e = refl
      by_test false w e = ap (λ (x : List ℕ). b ∷ x) e

  -- what comes after the first does not matter
  pub upto_append : (s z : List ℕ) → length (up_to stop s) < length s → up_to stop (s ++ z) ≡ up_to stop s
  unfolding up_to
  upto_append [] z h = absurd (omega arith)
  upto_append (b ∷ s) z h = by_test (eqb b stop) (up_to stop s) (upto_append s z) h
    where
      by_test : (t : Bool) (w : List ℕ) → (length w < length s → up_to stop (s ++ z) ≡ w) → length (pick t [] (b ∷ w)) < length (b ∷ s) → pick t [] (b ∷ up_to stop (s ++ z)) ≡ pick t [] (b ∷ w)
      by_test true w f h = refl
      by_test false w f h = ap (λ (x : List ℕ). b ∷ x) (f (omega arith))

  -- bytes with none of the code are passed
  pub upto_past : (s z : List ℕ) → length (up_to stop s) ≡ length s → up_to stop (s ++ z) ≡ s ++ up_to stop z
  unfolding up_to
  upto_past [] z e = refl
  upto_past (b ∷ s) z e = by_test (eqb b stop) (up_to stop s) (upto_past s z) e
    where
      by_test : (t : Bool) (w : List ℕ) → (length w ≡ length s → up_to stop (s ++ z) ≡ s ++ up_to stop z) → length (pick t [] (b ∷ w)) ≡ length (b ∷ s) → pick t [] (b ∷ up_to stop (s ++ z)) ≡ b ∷ (s ++ up_to stop z)
      by_test true w f h = absurd (omega arith)
      by_test false w f h = ap (λ (x : List ℕ). b ∷ x) (f (omega arith))

  -- ---- where they end, from a place on

  module _ (s : List ℕ) (at : ℕ) where
    pub end_stop : at < length s → get_or s at 0 ≡ stop → end_from stop s at ≡ at
    unfolding end_from up_to
    end_stop h e = rw (drop-cons s at 0 h, eq-eqb (get_or s at 0) stop e) (omega arith)

    pub end_other : at < length s → (get_or s at 0 ≡ stop → ⊥) → end_from stop s at ≡ end_from stop s (at + 1)
    unfolding end_from up_to
    end_other h e = rw (drop-cons s at 0 h, ne_eqb (get_or s at 0) stop e, add-one) (omega arith)

    pub end_last : length s ≤ at → end_from stop s at ≡ at
    unfolding end_from up_to
    end_last h = rw (drop_of_length-le s {i = at} h) (omega arith)

-- ---- a text that is not empty: its first line, then the lines after its newline

by_head : (t : Bool) (b : ℕ) (s l : List ℕ) → on_first b (lines_of s) ≡ (b ∷ l) ∷ lines_of (drop (suc (length l)) s)
    → pick t ([] ∷ lines_of s) (on_first b (lines_of s)) ≡ pick t [] (b ∷ l) ∷ lines_of (drop (suc (length (pick t [] (b ∷ l)))) (b ∷ s))
by_head true b s l e = refl
by_head false b s l e = e

first_line_lem : (s : List ℕ) → 0 < length s → lines_of s ≡ up_to 10 s ∷ lines_of (drop (suc (length (up_to 10 s))) s)
unfolding lines_of up_to on_first
first_line_lem [] h = absurd (omega arith)
first_line_lem (b ∷ []) h = by_head (eqb b 10) b [] [] refl
first_line_lem (b ∷ x ∷ s) h = by_head (eqb b 10) b (x ∷ s) (up_to 10 (x ∷ s)) (ap (on_first b) (first_line_lem (x ∷ s) (omega arith)))

-- ---- from a place on

module _ (s : List ℕ) (at : ℕ) where
  pub lines_none : length s ≤ at → lines_of (drop at s) ≡ []
  unfolding lines_of
  lines_none h = rw (drop_of_length-le s {i = at} h)

  pub lines_next : at < length s → lines_of (drop at s) ≡ take (line_end s at - at) (drop at s) ∷ lines_of (drop (line_end s at + 1) s)
  unfolding end_from
  lines_next h =
      let n = length (up_to 10 (drop at s)) in
      let e : at + n - at ≡ n = omega arith in
      let f : at + n + 1 ≡ at + suc n = omega arith in
      first_line_lem (drop at s) (simp length-drop (omega arith)) ∙ rw (e, f, upto_take 10 (drop at s), drop-drop (suc n) at s)

  pub line_end_from : at ≤ line_end s at
  unfolding end_from
  line_end_from = omega arith

  pub line_end_to : at ≤ length s → line_end s at ≤ length s
  unfolding end_from
  line_end_to h = omega (arith, upto_short 10 (drop at s), length-drop at s)

-- ---- what a test of the bytes up to a place has seen

abbrev pub Seen : Bool → List ℕ → ℕ → Type 0
Seen ok c i = (ok ≡ true → line_end c 0 ≡ line_end c i) × (ok ≡ false → line_end c 0 < i)

module _ (c : List ℕ) (i : ℕ) (h : i < length c) where
  by_byte : (t : Bool) → eqb (get_or c i 0) 10 ≡ t → line_end c 0 ≡ line_end c i → Seen (not t) c (i + 1)
  by_byte true q p = (λ e. absurd (false≢true e), λ e. omega (arith, p, end_stop 10 c i h (eqb-true _ _ q)))
  by_byte false q p = (λ e. p ∙ end_other 10 c i h (eqb-false _ _ q), λ e. absurd (false≢true (sym e)))

  pub seen_next : (ok : Bool) → Seen ok c i → Seen (ok && not (eqb (get_or c i 0) 10)) c (i + 1)
  seen_next true p = by_byte (eqb (get_or c i 0) 10) refl (p.0 refl)
  seen_next false p = (λ e. absurd (false≢true e), λ e. omega (arith, p.1 refl))

-- ---- the line's end in a part, or past it

-- the w bytes from place i on
module _ (s : List ℕ) (i w : ℕ) (h : i + w ≤ length s) where
  size : length (take w (drop i s)) ≡ w
  size = length-take-le w (drop i s) (simp length-drop (omega arith))

  split : up_to 10 (drop i s) ≡ up_to 10 (take w (drop i s) ++ drop (i + w) s)
  split = ap (up_to 10) (sym (take-append-drop w (drop i s)) ∙ rw (drop-drop w i s))

  pub part_in : line_end (take w (drop i s)) 0 < w → line_end s i ≡ i + line_end (take w (drop i s)) 0
  unfolding end_from
  part_in p = let e = ap length (split ∙ upto_append 10 (take w (drop i s)) (drop (i + w) s) (omega (arith, size))) in omega arith

  pub part_past : line_end (take w (drop i s)) 0 ≡ w → line_end s i ≡ line_end s (i + w)
  unfolding end_from
  part_past p =
      let e = ap length (split ∙ upto_past 10 (take w (drop i s)) (drop (i + w) s) (omega (arith, size))) in
      omega (arith, size, length-append (take w (drop i s)) (up_to 10 (drop (i + w) s)))
