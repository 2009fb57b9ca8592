-- The lowest barred byte of a line is 0 exactly where each column has allowed bytes, for a list of columns whose columns that
-- bar brackets make up the stretch.
use mathlib.Core.Path.{◌≡◌, refl, ◌∙◌, ap, sym}
use mathlib.Core.Bool.{Bool, true, false, ◌&&◌}
use mathlib.Core.List.{List, [], ◌∷◌, ◌++◌}
use Prim.Native.Nat.{ℕ, suc, ◌+◌, ◌≤◌, ◌<◌}
use native.Mathlib.Omega.{arith}
use lib.ListN.{length, take, drop, length-drop, take-append-drop}
use lib.Dec.{leb, ltb, T}
use borrow.Author.Tests.{le-leb, lt-leb, ltb-true, leb-true}
use lib.Seq.{length-take-le}
use Rattle.columns.specs.Answer.{pick}
use Rattle.columns.specs.Bytes.{is_allowed, inside, barred}
use Rattle.columns.specs.Column.{Col, width, widths, bars_of, in_stretch, brackets_in}
use Rattle.columns.proofs.laws.Columns.{Clean, column, done}
use Rattle.columns.proofs.laws.Clear.{clear_none, none_clear}
use Rattle.columns.proofs.laws.Tests.{T_and, T_true, both_true, and_false}

module _ (from to : ℕ) where
  -- ---- a line in two parts

  split_case : (t : Bool) (k : ℕ) (a b : List ℕ) → 0 < k → (barred from to (k + 1) (a ++ b) ≡ 0 → (barred from to (k + 1) a ≡ 0) × (barred from to (k + 1 + length a) b ≡ 0)) → pick t (barred from to (k + 1) (a ++ b)) k ≡ 0 → (pick t (barred from to (k + 1) a) k ≡ 0) × (barred from to (k + suc (length a)) b ≡ 0)
  split_case true k a b h f e =
      let z : k + suc (length a) ≡ k + 1 + length a = omega arith in
      rw z (f e)
  split_case false k a b h f e = let y : ⊥ = omega arith in absurd y

  pub barred_split : (k : ℕ) (a b : List ℕ) → 0 < k → barred from to k (a ++ b) ≡ 0 → (barred from to k a ≡ 0) × (barred from to (k + length a) b ≡ 0)
  unfolding barred
  barred_split k [] b h e = let z : k + 0 ≡ k = omega arith in (refl, rw z e)
  barred_split k (x ∷ a) b h e = split_case (is_allowed (inside from to k) x) k a b h (barred_split (k + 1) a b (omega arith)) e

  first_case : (t : Bool) (k : ℕ) (a b : List ℕ) → ((barred from to (k + 1) a ≡ 0 → ⊥) → barred from to (k + 1) (a ++ b) ≡ barred from to (k + 1) a) → (pick t (barred from to (k + 1) a) k ≡ 0 → ⊥) → pick t (barred from to (k + 1) (a ++ b)) k ≡ pick t (barred from to (k + 1) a) k
  first_case true k a b f e = f e
  first_case false k a b f e = refl

  -- a barred byte of the first part is the lowest
  pub barred_first : (k : ℕ) (a b : List ℕ) → (barred from to k a ≡ 0 → ⊥) → barred from to k (a ++ b) ≡ barred from to k a
  unfolding barred
  barred_first k [] b e = let y : ⊥ = e refl in absurd y
  barred_first k (x ∷ a) b e = first_case (is_allowed (inside from to k) x) k a b (barred_first (k + 1) a b) e

  rest_case : (t : Bool) (k : ℕ) (a b : List ℕ) → (barred from to (k + 1) a ≡ 0 → barred from to (k + 1) (a ++ b) ≡ barred from to (k + 1 + length a) b) → 0 < k → pick t (barred from to (k + 1) a) k ≡ 0 → pick t (barred from to (k + 1) (a ++ b)) k ≡ barred from to (k + suc (length a)) b
  rest_case true k a b f h e = let z : k + suc (length a) ≡ k + 1 + length a = omega arith in rw z (f e)
  rest_case false k a b f h e = let y : ⊥ = omega arith in absurd y

  -- after a clear first part the second decides
  pub barred_after : (k : ℕ) (a b : List ℕ) → 0 < k → barred from to k a ≡ 0 → barred from to k (a ++ b) ≡ barred from to (k + length a) b
  unfolding barred
  barred_after k [] b h e = let z : k + 0 ≡ k = omega arith in rw z
  barred_after k (x ∷ a) b h e = rest_case (is_allowed (inside from to k) x) k a b (barred_after (k + 1) a b (omega arith)) h e

  -- a byte that may stand in its column
  pub barred_cons : (k b : ℕ) (s : List ℕ) → is_allowed (inside from to k) b ≡ true → barred from to k (b ∷ s) ≡ barred from to (k + 1) s
  unfolding barred
  barred_cons k b s e = rw e

  -- ---- a column in the stretch or out of it

  module _ (at w i : ℕ) (l : at + 1 ≤ i) (h : i < at + 1 + w) where
    out_case : (t : Bool) → ltb (at + w) from ≡ t → pick t true (ltb to (at + 1)) ≡ true → inside from to i ≡ false
    out_case true e p = let z : i < from = omega (arith, ltb-true (at + w) from e) in rw (lt-leb _ _ z)
    out_case false e p =
        let z : to < i = omega (arith, ltb-true to (at + 1) p) in
        rw (lt-leb i to z) (and_false (leb from i))

    stretch_case : (bars : Bool) → pick bars (leb from (at + 1) && leb (at + w) to) (pick (ltb (at + w) from) true (ltb to (at + 1))) ≡ true → inside from to i ≡ bars
    stretch_case true e =
        let p = both_true (leb from (at + 1)) (leb (at + w) to) e in
        let a : from ≤ i = omega (arith, leb-true from (at + 1) p.0) in
        let b : i ≤ to = omega (arith, leb-true (at + w) to p.1) in
        rw (le-leb _ _ a, le-leb _ _ b)
    stretch_case false e = out_case (ltb (at + w) from) refl e

  -- ---- the line, and its columns

  pub line_clean : (cs : List Col) (at : ℕ) (line : List ℕ) → T (brackets_in cs at from to) → length line ≡ widths cs → barred from to (at + 1) line ≡ 0 → Clean cs line
  unfolding brackets_in widths
  line_clean [] at line g l e = done
  line_clean (c ∷ cs) at line g l e =
      let gs = T_and (in_stretch c at from to) (brackets_in cs (at + width c) from to) g in
      let n : length (take (width c) line) ≡ width c = length-take-le (width c) line (omega arith) in
      let z : at + 1 + length (take (width c) line) ≡ at + width c + 1 = omega arith in
      let p = barred_split (at + 1) (take (width c) line) (drop (width c) line) (omega arith) (rw take-append-drop e) in
      column
      (none_clear from to (bars_of c) (at + 1) (take (width c) line) (omega arith) (λ i a b. stretch_case at (width c) i a (omega (arith, n)) (bars_of c) (T_true (in_stretch c at from to) gs.0)) p.0)
      (line_clean cs (at + width c) (drop (width c) line) gs.1 (length-drop (width c) line ∙ omega arith) (rw z at p.1))

  pub clean_line : (cs : List Col) (at : ℕ) (line : List ℕ) → T (brackets_in cs at from to) → length line ≡ widths cs → Clean cs line → barred from to (at + 1) line ≡ 0
  unfolding brackets_in widths barred
  clean_line [] at [] g l p = refl
  clean_line [] at (x ∷ line) g l p = let y : ⊥ = omega arith in absurd y
  clean_line (c ∷ cs) at line g l (column p ps) =
      let gs = T_and (in_stretch c at from to) (brackets_in cs (at + width c) from to) g in
      let n : length (take (width c) line) ≡ width c = length-take-le (width c) line (omega arith) in
      let z : at + 1 + length (take (width c) line) ≡ at + width c + 1 = omega arith in
      let a = clear_none from to (bars_of c) (at + 1) {s = take (width c) line} (λ i u v. stretch_case at (width c) i u (omega (arith, n)) (bars_of c) (T_true (in_stretch c at from to) gs.0)) p in
      let b = clean_line cs (at + width c) (drop (width c) line) gs.1 (length-drop (width c) line ∙ omega arith) ps in
      ap (barred from to (at + 1)) (sym (take-append-drop (width c) line))
      ∙ barred_after (at + 1) (take (width c) line) (drop (width c) line) (omega arith) a
      ∙ ap (λ (k : ℕ). barred from to k (drop (width c) line)) z
      ∙ b
