-- Bytes that are all zero, one by one and to the end.
use Prim.Native.Nat.{ℕ, zero, suc, ◌-◌, ◌≤◌, ◌<◌}
use mathlib.Core.Path.{◌≡◌, refl, sym, ◌∙◌, ap, ap₂}
use mathlib.Core.Bool.{Bool, true, false, ◌&&◌}
use mathlib.Core.List.{List, [], ◌∷◌, ◌++◌}
use native.Mathlib.Omega.{arith}
use borrow.Author.Tests.{ne_eqb, eqb-true}
use lib.Dec.{eqb}
use lib.ListN.{length, take, drop, get_or, replicate, length-drop}
use lib.Seq.{drop_at, take_all}
use Rattle.columns.specs.Answer.{pick}
use Rattle.columns.specs.Bytes.{same_bytes}
use Rattle.columns.proofs.laws.Bytes.{same_is, same_self, same_cons}
use Rattle.catalogue.specs.Zeros.{all_zero}
use Rattle.catalogue.proofs.laws.assoc.Tests.{and_both}

-- ---- bytes after a zero are all zero where each is as the one before it

shift_case : (x n : ℕ) (u : List ℕ) (t : Bool) → eqb 0 x ≡ t → eqb x 0 ≡ t → (x ≡ 0 → same_bytes (take n (x ∷ u)) (take n u) ≡ all_zero (take n u)) → pick t (same_bytes (take n (x ∷ u)) (take n u)) false ≡ t && all_zero (take n u)
shift_case x n u true e f h = h (eqb-true x 0 f)
shift_case x n u false e f h = refl

eqb_flip : (x : ℕ) → eqb 0 x ≡ eqb x 0
eqb_flip zero = refl
eqb_flip (suc x) = ne_eqb 0 (suc x) (λ e. omega arith) ∙ sym (ne_eqb (suc x) 0 (λ e. omega arith))

zero_shift : (n : ℕ) (l : List ℕ) → n ≤ length l → same_bytes (take n (0 ∷ l)) (take n l) ≡ all_zero (take n l)
unfolding all_zero
zero_shift zero l h = same_self []
zero_shift (suc n) [] h = let y : ⊥ = omega arith in absurd y
zero_shift (suc n) (x ∷ u) h = same_cons 0 x (take n (x ∷ u)) (take n u) ∙ shift_case x n u (eqb 0 x) refl (sym (eqb_flip x)) (λ e. rw e (zero_shift n u (omega arith))) ∙ rw (eqb_flip x)

pub zero_none : (s : List ℕ) → length s ≡ 0 → all_zero s ≡ true
unfolding all_zero
zero_none [] h = refl
zero_none (x ∷ u) h = absurd (omega arith)

pub zero_run : (s : List ℕ) → 0 < length s → get_or s 0 0 ≡ 0 → same_bytes (take (length s - 1) s) (take (length s - 1) (drop 1 s)) ≡ all_zero s
unfolding all_zero
zero_run [] h e = absurd (omega arith)
zero_run (x ∷ u) h e =
    let n : length (x ∷ u) - 1 ≡ length u = omega arith in
    rw (n, e) (zero_shift (length u) u (omega arith) ∙ ap all_zero (take_all (length u) u (omega arith)))

pub zero_stop : (s : List ℕ) → 0 < length s → (get_or s 0 0 ≡ 0 → ⊥) → all_zero s ≡ false
unfolding all_zero
zero_stop [] h e = absurd (omega arith)
zero_stop (x ∷ u) h e = rw (ne_eqb x 0 e)

zero_list : (l : List ℕ) → all_zero l ≡ true → l ≡ replicate (length l) 0
unfolding all_zero
zero_list [] h = refl
zero_list (x ∷ xs) h =
    let r = and_both (eqb x 0) (all_zero xs) h in
    ap₂ (λ (a : ℕ) (t : List ℕ). a ∷ t) (eqb-true x 0 r.0) (zero_list xs r.1)

list_zero : (k : ℕ) → all_zero (replicate k 0) ≡ true
unfolding all_zero
list_zero zero = refl
list_zero (suc k) = list_zero k

-- bytes that begin with x are x filled up with zeros where the rest is zero
module _ (x s : List ℕ) (front : x ++ drop (length x) s ≡ s) where
  filled : all_zero (drop (length x) s) ≡ true → x ++ replicate (length s - length x) 0 ≡ s
  filled z = ap (λ (t : List ℕ). x ++ t) (sym (zero_list (drop (length x) s) z ∙ ap (λ (k : ℕ). replicate k 0) (length-drop (length x) s))) ∙ front

  unfilled : x ++ replicate (length s - length x) 0 ≡ s → all_zero (drop (length x) s) ≡ true
  unfilled e =
      ap (λ (t : List ℕ). all_zero (drop (length x) t)) (sym e) ∙ ap all_zero (drop_at x (replicate (length s - length x) 0) (length x) refl) ∙ list_zero (length s - length x)

  pub zero_rest : same_bytes (x ++ replicate (length s - length x) 0) s ≡ all_zero (drop (length x) s)
  zero_rest = go (all_zero (drop (length x) s)) refl (same_bytes (x ++ replicate (length s - length x) 0) s) refl
    where
      go : (z : Bool) → all_zero (drop (length x) s) ≡ z → (t : Bool) → same_bytes (x ++ replicate (length s - length x) 0) s ≡ t → t ≡ z
      go true e t f = sym f ∙ ap (λ (l : List ℕ). same_bytes l s) (filled e) ∙ same_self s
      go false e true f = sym (unfilled (same_is (x ++ replicate (length s - length x) 0) s f)) ∙ e
      go false e false f = refl
