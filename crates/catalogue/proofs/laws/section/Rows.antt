-- Rows of bytes: how many, and where each stands.
use Prim.Native.Nat.{ℕ, zero, suc, ◌+◌, ◌*◌, ◌-◌, ◌≤◌, ◌<◌}
use mathlib.Core.Path.{◌≡◌, refl, sym, ◌∙◌, ap, ap₂}
use mathlib.Core.List.{List, []}
use native.Mathlib.Omega.{arith}
use native.Mathlib.Nat.{mul-le-mul_left}
use lib.ListN.{length, take, drop, get_or, length-drop}
use lib.Seq.{drop-drop, length-take-le}
use Rattle.catalogue.specs.declared.section.Section.{Section}
use Rattle.catalogue.specs.Section.{rows}
use Rattle.catalogue.specs.Entries.{entries_of, Inside}

pub rows_length : (n w : ℕ) (x : List ℕ) → length (rows n w x) ≡ n
unfolding rows
rows_length zero w x = refl
rows_length (suc n) w x = ap suc (rows_length n w (drop w x))

pub rows_at : (n w i : ℕ) (x : List ℕ) → i < n → get_or (rows n w x) i [] ≡ take w (drop (w * i) x)
unfolding rows
rows_at zero w i x h = absurd (omega arith)
rows_at (suc n) w zero x h = let e : w * 0 ≡ 0 = omega arith in rw e
rows_at (suc n) w (suc i) x h =
    let e : w + w * i ≡ w * suc i = omega arith in
    rows_at n w i (drop w x) (omega arith) ∙ ap (take w) (drop-drop (w * i) w x ∙ ap (λ (k : ℕ). drop k x) e)

pub row_inside : (w i n : ℕ) → i < n → w * i + w ≤ w * n
row_inside w i n h = omega (arith, mul-le-mul_left w h)

pub row_before : (w i n : ℕ) → i ≤ n → w * i ≤ w * n
row_before w i n h = omega (arith, mul-le-mul_left w h)

module _ (of : Section) (s : List ℕ) where
  pub entries_length : length (entries_of of s) ≡ of.count
  unfolding entries_of
  entries_length = rows_length of.count of.size (drop (of.at + 2) s)

  pub entry_is : (i : ℕ) → i < of.count → get_or (entries_of of s) i [] ≡ take of.size (drop (of.at + 2 + of.size * i) s)
  unfolding entries_of
  entry_is i h = rows_at of.count of.size i (drop (of.at + 2) s) h ∙ ap (take of.size) (drop-drop (of.size * i) (of.at + 2) s)

  module _ (f : Inside of s) (i : ℕ) (h : i < of.count) where
    pub entry_fits : of.at + 2 + of.size * i + of.size ≤ length s
    entry_fits = omega (arith, f.fits, row_inside of.size i of.count h)

    pub entry_length : length (get_or (entries_of of s) i []) ≡ of.size
    entry_length = ap length (entry_is i h) ∙ length-take-le of.size (drop (of.at + 2 + of.size * i) s) (simp length-drop (omega (arith, entry_fits)))

  -- the entry as a part of the bytes
  module _ (i : ℕ) (h : i < of.count) {w : ℕ} (e : of.size ≡ w) {at : ℕ} (p : at ≡ of.at + 2 + of.size * i) where
    pub entry_part : take (at + w - at) (drop at s) ≡ get_or (entries_of of s) i []
    entry_part =
        let q : at + w - at ≡ of.size = omega arith in
        ap₂ (λ (m n : ℕ). take m (drop n s)) q p ∙ sym (entry_is i h)
