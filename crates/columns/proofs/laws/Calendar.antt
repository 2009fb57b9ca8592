-- Laws of the calendar, as the code comes to it.
use mathlib.Core.Path.{◌≡◌, refl, sym, ap, ◌∙◌}
use mathlib.Core.Bool.{Bool, true, false, ◌&&◌}
use mathlib.Core.List.{List, [], ◌∷◌, ◌++◌}
use Prim.Native.Nat.{ℕ, zero, suc, ◌+◌, ◌-◌, ◌%◌, ◌≤◌, ◌<◌}
use native.Mathlib.Omega.{arith}
use lib.Dec.{T, eqb, leb, ltb, leb→le}
use lib.ListN.{length, take, get_or, length-append}
use lib.Seq.{get_or-take, length-take-le, get_or-append-add}
use lib.IntN.{ℤ, pos, negsuc, nat_abs}
use lib.Signed.{lt_z, le_z}
use mathlib.Core.Logic.{inl, inr}
use types.Run.{OneOf}
use mir.Syntax.{w64}
use mir.Val.{SFits, to_z, of_z}
use mir.ValLaws.{to_z-of_z}
use borrow.Author.Tests.{eq-eqb, ne_eqb, lt-ltb, le-ltb, ltb-true, ltb-false, leb-true, leb-false}
use Rattle.columns.specs.Answer.{pick}
use Rattle.columns.specs.Calendar.{leap, month_lengths, days_in}
use Rattle.columns.specs.Column.{Slot, missing, given, calendar_day, within, last_day, last_day_after, allowed}
use Rattle.columns.proofs.laws.Tests.{T_and}

-- ---- the leap rule

module _ (y : ℤ) (n : ℕ) (e : n ≡ nat_abs y) where
  pub leap_hundred : n % 100 ≡ 0 → eqb (n % 400) 0 ≡ leap y
  unfolding leap
  leap_hundred h = rw (← e, eq-eqb (n % 100) 0 h)

  pub leap_other : (n % 100 ≡ 0 → ⊥) → eqb (n % 4) 0 ≡ leap y
  unfolding leap
  leap_other h = rw (← e, ne_eqb (n % 100) 0 h)

-- ---- the lengths of the months

-- a month by its number, as the code comes to it
pub month_is : (m : ℤ) (k : ℕ) → SFits w64 m → of_z w64 m ≡ k → m ≡ to_z w64 k
month_is m k f e = sym (to_z-of_z w64 m f) ∙ ap (to_z w64) e

-- February, and a month of thirty days by its number
pub february : (y : ℤ) (b : Bool) → leap y ≡ b → pick b 29 28 ≡ days_in y (pos 2)
unfolding days_in
february y b e = rw e

pub thirty : (y m : ℤ) → SFits w64 m → OneOf (4 ∷ 6 ∷ 9 ∷ 11 ∷ []) (of_z w64 m) → 30 ≡ days_in y m
unfolding days_in
thirty y m f (inl e) = rw (month_is m 4 f e)
thirty y m f (inr (inl e)) = rw (month_is m 6 f e)
thirty y m f (inr (inr (inl e))) = rw (month_is m 9 f e)
thirty y m f (inr (inr (inr e))) = rw (month_is m 11 f e)

-- any other has 31
long : (b : Bool) (i : ℕ) → (i ≡ 1 → ⊥) → (i ≡ 3 → ⊥) → (i ≡ 5 → ⊥) → (i ≡ 8 → ⊥) → (i ≡ 10 → ⊥) → 31 ≡ get_or (month_lengths b) i 31
long b zero p q r s t = refl
long b (suc zero) p q r s t = absurd (p refl)
long b (suc (suc zero)) p q r s t = refl
long b (suc (suc (suc zero))) p q r s t = absurd (q refl)
long b (suc (suc (suc (suc zero)))) p q r s t = refl
long b (suc (suc (suc (suc (suc zero))))) p q r s t = absurd (r refl)
long b (suc (suc (suc (suc (suc (suc zero)))))) p q r s t = refl
long b (suc (suc (suc (suc (suc (suc (suc zero))))))) p q r s t = refl
long b (suc (suc (suc (suc (suc (suc (suc (suc zero)))))))) p q r s t = absurd (s refl)
long b (suc (suc (suc (suc (suc (suc (suc (suc (suc zero))))))))) p q r s t = refl
long b (suc (suc (suc (suc (suc (suc (suc (suc (suc (suc zero)))))))))) p q r s t = absurd (t refl)
long b (suc (suc (suc (suc (suc (suc (suc (suc (suc (suc (suc zero))))))))))) p q r s t = refl
long b (suc (suc (suc (suc (suc (suc (suc (suc (suc (suc (suc (suc i)))))))))))) p q r s t = refl

pub thirty_one : (y m : ℤ) → (of_z w64 m ≡ 2 → ⊥) → (OneOf (4 ∷ 6 ∷ 9 ∷ 11 ∷ []) (of_z w64 m) → ⊥) → 31 ≡ days_in y m
unfolding days_in
thirty_one y (pos m) p q =
    long (leap y) (m - 1) (λ e. p (word e)) (λ e. q (inl (word e))) (λ e. q (inr (inl (word e)))) (λ e. q (inr (inr (inl (word e))))) (λ e. q (inr (inr (inr (word e)))))
  where
    word : {k : ℕ} → m - 1 ≡ suc k → of_z w64 (pos m) ≡ suc (suc k)
    word e = ap (λ (i : ℕ). of_z w64 (pos i)) (omega (arith, e))
thirty_one y (negsuc m) p q = refl

-- each has 28 at least
abbrev least : ℕ → List ℕ → Bool
least k [] = true
least k (x ∷ s) = leb k x && least k s

least_at : (k : ℕ) (s : List ℕ) (i d : ℕ) → T (least k s) → k ≤ d → k ≤ get_or s i d
least_at k [] i d t h = h
least_at k (x ∷ s) zero d t h = leb→le k x (T_and (leb k x) (least k s) t).0
least_at k (x ∷ s) (suc i) d t h = least_at k s i d (T_and (leb k x) (least k s) t).1 h

least_month : (b : Bool) → T (least 28 (month_lengths b))
least_month true = tt
least_month false = tt

days_least : (y m : ℤ) → 28 ≤ days_in y m
unfolding days_in
days_least y (pos m) = least_at 28 (month_lengths (leap y)) (m - 1) 31 (least_month (leap y)) (omega arith)
days_least y (negsuc m) = omega arith

pub last_least : (a b : Slot) → 28 ≤ last_day a b
last_least missing b = omega arith
last_least (given y) missing = omega arith
last_least (given y) (given m) = days_least y m

-- ---- a day: below 29 the month does not matter, from there on only its end does

pub early_day : (d : ℕ) (v : ℤ) → 28 ≤ d → lt_z v (pos 29) ≡ true → lt_z (pos 0) v ≡ within (pos 1) (pos d) v
early_day d (pos zero) h e = refl
early_day d (pos (suc n)) h e =
    let l = ltb-true (suc n) 29 e in
    rw (lt-ltb 0 (suc n) (omega arith), le-ltb (suc n) 1 (omega arith), le-ltb d (suc n) (omega arith))
early_day d (negsuc n) h e = refl

end_case : (d n : ℕ) (b : Bool) → leb n d ≡ b → b ≡ pick (ltb d n) false true
end_case d n true e = rw (le-ltb d n (leb-true n d e))
end_case d n false e = rw (lt-ltb d n (leb-false n d e))

pub late_day : (d : ℕ) (v : ℤ) → lt_z v (pos 29) ≡ false → le_z v (pos d) ≡ within (pos 1) (pos d) v
late_day d (pos n) e =
    let l = ltb-false n 29 e in
    rw (le-ltb n 1 (omega arith)) (end_case d n (leb n d) refl)
late_day d (negsuc n) e = let z : ◌≡◌ {A = ℕ} 0 1 = cc in let y : ⊥ = omega arith in absurd y

-- ---- the last day after some numbers

pub after_two : (s : List Slot) (y m : Slot) → last_day_after (s ++ y ∷ m ∷ []) ≡ last_day y m
unfolding last_day_after
after_two s y m =
    let l : length (s ++ y ∷ m ∷ []) ≡ length s + 2 = length-append s (y ∷ m ∷ []) in
    let i : length s + 2 - 2 ≡ length s + 0 = omega arith in
    let j : length s + 2 - 1 ≡ length s + 1 = omega arith in
    rw (l, le-ltb (length s + 2) 2 (omega arith), i, j, get_or-append-add s (y ∷ m ∷ []) 0 missing, get_or-append-add s (y ∷ m ∷ []) 1 missing)

module _ (s : List Slot) (n : ℕ) (h : n ≤ length s) where
  pub after_few : n < 2 → last_day_after (take n s) ≡ 31
  unfolding last_day_after
  after_few l = rw (length-take-le n s h, lt-ltb n 2 l)

  pub after_taken : 2 ≤ n → last_day_after (take n s) ≡ last_day (get_or s (n - 2) missing) (get_or s (n - 1) missing)
  unfolding last_day_after
  after_taken l =
      rw (length-take-le n s h, le-ltb n 2 l, get_or-take n s (n - 2) missing (omega arith), get_or-take n s (n - 1) missing (omega arith))

-- ---- document 02, Wish 3, in its own words

-- no thirtieth of February, in any year and after any numbers
pub no_thirtieth : (seen : List Slot) (y : ℤ) → allowed calendar_day (seen ++ given y ∷ given (pos 2) ∷ []) (pos 30) ≡ false
unfolding allowed
no_thirtieth seen y = rw (after_two seen (given y) (given (pos 2)), sym (february y (leap y) refl)) (by_year (leap y))
  where
    by_year : (b : Bool) → within (pos 1) (pos (pick b 29 28)) (pos 30) ≡ false
    by_year true = refl
    by_year false = refl

-- a 29 February of the years 1900, 2000, 2024, 0, -4, -100 and -400, and a 31 April
abbrev leap_day : ℤ → Bool
leap_day y = within (pos 1) (pos (days_in y (pos 2))) (pos 29)

pub leap_days : (leap_day (pos 1900) ≡ false) × ((leap_day (pos 2000) ≡ true) × ((leap_day (pos 2024) ≡ true) × ((leap_day (pos 0) ≡ true) × ((leap_day (negsuc 3) ≡ true) × ((leap_day (negsuc 99) ≡ false) × (leap_day (negsuc 399) ≡ true))))))
unfolding days_in leap
leap_days = (refl, (refl, (refl, (refl, (refl, (refl, refl))))))

pub no_april : (y : ℤ) → within (pos 1) (pos (days_in y (pos 4))) (pos 31) ≡ false
unfolding days_in
no_april y = refl
