-- Laws of stretches of bytes: blanks, copies, barred bytes, letters of a set, equal bytes.
use mathlib.Core.Path.{◌≡◌, refl, sym, ap, ◌∙◌}
use mathlib.Core.Bool.{Bool, true, false, ◌&&◌, false≢true}
use mathlib.Core.List.{List, [], ◌∷◌, ◌++◌, append_assoc}
use Prim.Native.Nat.{ℕ, zero, suc, ◌+◌, ◌-◌, ◌≤◌, ◌<◌}
use native.Mathlib.Nat.{zero-add, suc-add}
use native.Mathlib.Numerals.{add-one}
use native.Mathlib.Omega.{arith}
use lib.ListN.{length, take, drop, get_or, set, replicate, length-drop, replicate-append-replicate, drop_of_length-le}
use lib.Seq.{slice, slice-cons, slice_empty, take-nil, drop-nil, take-take, drop-drop, take-suc, take-suc-set, take-add, drop-cons, take_all, set_at, length-take-le, take-length, get_or-take, get_or-drop}
use lib.Dec.{eqb, ltb}
use borrow.Author.Tests.{eq-eqb, ne_eqb, eqb-true, lt-leb, le-leb, ltb-true, ltb-false}
use Rattle.std.specs.Prelude.{Contains, IsTrue, ◌↔◌, Some, None, is_some}
use borrow.Author.Tests.{eqb-false}
use Rattle.columns.specs.Answer.{pick}
use Rattle.columns.specs.Bytes.{found, is_text, is_bracket, is_none, trim, all_blank, is_allowed, inside, Plain, Free, barred, member, same_bytes, skip}

-- ---- a stretch of a line

pub part_cons : (l : List ℕ) (i to : ℕ) → i < to → to ≤ length l → slice i to l ≡ get_or l i 0 ∷ slice (i + 1) to l
part_cons l i to h k = rw (add-one, slice-cons i to l 0)

pub part_none : (l : List ℕ) (i to : ℕ) → to ≤ i → i ≤ to → slice i to l ≡ []
part_none l i to h k = let e : i ≡ to = omega arith in rw e (slice_empty to l)

take_drop : (n m : ℕ) (l : List ℕ) → take m (drop n l) ≡ drop n (take (n + m) l)
take_drop zero m l = rw zero-add
take_drop (suc n) m [] = rw (take-nil {A = ℕ} m, take-nil {A = ℕ} (suc n + m), drop-nil {A = ℕ} (suc n))
take_drop (suc n) m (x ∷ l) = rw (suc-add) (take_drop n m l)

-- the w bytes after the first `at`
pub slice_is : (l : List ℕ) (at w : ℕ) → slice at (at + w) l ≡ take w (drop at l)
slice_is l at w = sym (take_drop at w l)

pub slice_take : (l : List ℕ) (a p e : ℕ) → a + p ≤ e → take p (slice a e l) ≡ slice a (a + p) l
slice_take l a p e h = take_drop a p (take e l) ∙ rw (take-take (a + p) e l h)

pub slice_drop : (l : List ℕ) (a p e : ℕ) → drop p (slice a e l) ≡ slice (a + p) e l
slice_drop l a p e = drop-drop p a (take e l)

-- ---- bytes of one code, blanks among them

-- what is left of a list, from a place on
pub drop_more : (l : List ℕ) (i : ℕ) → i < length l → drop i l ≡ get_or l i 0 ∷ drop (i + 1) l
drop_more l i h = rw (add-one, drop-cons l i 0)

pub drop_end : (l : List ℕ) (i : ℕ) → length l ≤ i → drop i l ≡ []
drop_end l i h = drop_of_length-le l {i = i} h

module _ (x : ℕ) (l : List ℕ) (i : ℕ) where
  module _ (h : i < length l) where
    pub skip_same : get_or l i 0 ≡ x → skip x (drop i l) ≡ skip x (drop (i + 1) l)
    unfolding skip
    skip_same e = rw (drop_more l i h) (rw (eq-eqb _ _ e))

    pub skip_other : (get_or l i 0 ≡ x → ⊥) → skip x (drop i l) ≡ drop i l
    unfolding skip
    skip_other e = rw (drop_more l i h) (rw (ne_eqb _ _ e))

  pub skip_none : length l ≤ i → skip x (drop i l) ≡ []
  unfolding skip
  skip_none h = rw (drop_end l i h)

pick_short : (t : Bool) (x y : List ℕ) (n : ℕ) → length x ≤ n → length y ≤ n → length (pick t x y) ≤ n
pick_short true x y n p q = p
pick_short false x y n p q = q

pub skip_short : (x : ℕ) (s : List ℕ) → length (skip x s) ≤ length s
unfolding skip
skip_short x [] = omega arith
skip_short x (b ∷ s) = pick_short (eqb b x) (skip x s) (b ∷ s) _ (omega (arith, skip_short x s)) (omega arith)

-- nothing else is left nothing
pub skip_all : (x w : ℕ) → skip x (replicate w x) ≡ []
unfolding skip
skip_all x zero = refl
skip_all x (suc w) = rw (eq-eqb x x refl) (skip_all x w)

-- nothing but blanks has no other byte
blank_head : (b : ℕ) (s : List ℕ) → all_blank (b ∷ s) ≡ true → (b ≡ 32) × (all_blank s ≡ true)
unfolding skip
blank_head b s e = by_test (eqb b 32) refl e
  where
    by_test : (t : Bool) → eqb b 32 ≡ t → is_none (pick t (trim s) (b ∷ s)) ≡ true → (b ≡ 32) × (all_blank s ≡ true)
    by_test true p q = (eqb-true b 32 p, q)
    by_test false p q = let z : ◌≡◌ {A = ℕ} 0 1 = cc in let y : ⊥ = omega arith in absurd y

pub blanks_only : (f : List ℕ) (i b : ℕ) → 32 < b → all_blank f ≡ true → get_or f i 0 ≡ b → ⊥
blanks_only [] i b h e g = omega arith
blanks_only (x ∷ s) zero b h e g = omega (arith, (blank_head x s e).0)
blanks_only (x ∷ s) (suc i) b h e g = blanks_only s i b h (blank_head x s e).1 g

module _ (b : ℕ) where
  pub fill_turn : (l : List ℕ) (i : ℕ) → i < length l → take i l ≡ replicate i b → take (i + 1) (set l i b) ≡ replicate (i + 1) b
  fill_turn l i h e = rw (add-one, take-suc-set l i b h, e) (replicate-append-replicate i 1 b ∙ rw add-one)

  pub fill_end : (l : List ℕ) (i n : ℕ) → i ≤ n → n ≤ i → length l ≡ n → take i l ≡ replicate i b → l ≡ replicate n b
  fill_end l i n h k e f = let z : i ≡ n = omega arith in sym (take_all i l (omega arith)) ∙ f ∙ rw z

  pub fill_one : (l : List ℕ) → length l ≡ 1 → set l 0 b ≡ replicate (length l) b
  fill_one [] e = absurd (omega arith)
  fill_one (x ∷ []) e = refl
  fill_one (x ∷ y ∷ l) e = absurd (omega arith)

-- ---- copies

pub copy_one : (l s : List ℕ) → length s ≡ 1 → length l ≡ length s → set l 0 (get_or s 0 0) ≡ s ++ drop (length s) l
copy_one l [] e f = absurd (omega arith)
copy_one [] (b ∷ []) e f = absurd (omega arith)
copy_one (x ∷ l) (b ∷ []) e f = refl
copy_one l (b ∷ d ∷ s) e f = absurd (omega arith)

pub copy_turn : (l s out : List ℕ) (i : ℕ) → i < length s → length s ≤ length l → out ≡ take i s ++ drop i l → set out i (get_or s i 0) ≡ take (i + 1) s ++ drop (i + 1) l
copy_turn l s out i h k e =
    rw (e, add-one, drop-cons l i 0 (omega arith), set_at (take i s) (get_or l i 0) (drop (suc i) l) (get_or s i 0) i (length-take-le i s (omega arith)), take-suc s i 0 h, append_assoc)

pub copy_end : (l s out : List ℕ) (i : ℕ) → i ≤ length s → length s ≤ i → out ≡ take i s ++ drop i l → out ≡ s ++ drop (length s) l
copy_end l s out i h k e = let z : i ≡ length s = omega arith in e ∙ rw (z, take-length)

-- ---- barred bytes

module _ (bars : Bool) (b : ℕ) where
  pub barred_low : b < 32 → true ≡ pick (is_allowed bars b) false true
  barred_low h = rw (lt-leb _ _ h)

  pub barred_high : 126 < b → true ≡ pick (is_allowed bars b) false true
  barred_high h = let l : 32 ≤ b = omega arith in rw (le-leb _ _ l, lt-leb _ _ h)

  module _ (l : 32 ≤ b) (h : b ≤ 126) where
    brackets : (x t : Bool) → is_bracket b ≡ t → pick (is_allowed x b) false true ≡ pick t x false
    brackets true true e = rw (le-leb _ _ l, le-leb _ _ h, e)
    brackets true false e = rw (le-leb _ _ l, le-leb _ _ h, e)
    brackets false true e = rw (le-leb _ _ l, le-leb _ _ h)
    brackets false false e = rw (le-leb _ _ l, le-leb _ _ h)

    pub barred_plain : is_bracket b ≡ false → false ≡ pick (is_allowed bars b) false true
    barred_plain e = sym (brackets bars false e)

    pub barred_bracket : is_bracket b ≡ true → bars ≡ pick (is_allowed bars b) false true
    barred_bracket e = sym (brackets bars true e)

pub allowed_of : (t : Bool) → pick t false true ≡ false → t ≡ true
allowed_of true e = refl
allowed_of false e = sym e

module _ (from to : ℕ) where
  module _ (s : List ℕ) (i k : ℕ) (h : i < length s) where
    rest_cons : drop i s ≡ get_or s i 0 ∷ drop (i + 1) s
    rest_cons = rw add-one (drop-cons s i 0 h)

    barred_of : (t : Bool) → pick t false true ≡ true → t ≡ false
    barred_of true e = sym e
    barred_of false e = refl

    pub barred_next : pick (is_allowed (inside from to k) (get_or s i 0)) false true ≡ false → barred from to k (drop i s) ≡ barred from to (k + 1) (drop (i + 1) s)
    unfolding barred
    barred_next e = rw rest_cons (rw (allowed_of (is_allowed (inside from to k) (get_or s i 0)) e))

    pub barred_here : pick (is_allowed (inside from to k) (get_or s i 0)) false true ≡ true → barred from to k (drop i s) ≡ k
    unfolding barred
    barred_here e = rw rest_cons (rw (barred_of (is_allowed (inside from to k) (get_or s i 0)) e))

  pub barred_none : (s : List ℕ) (i k : ℕ) → length s ≤ i → barred from to k (drop i s) ≡ 0
  unfolding barred
  barred_none s i k h = rw (drop_of_length-le s {i = i} h)

-- ---- bytes that may stand in any column

anywhere : (bars t u : Bool) → t && u ≡ true → t && pick bars u true ≡ true
anywhere true t u e = e
anywhere false true u e = refl
anywhere false false u e = e

pub plain_none : (from to k : ℕ) (s : List ℕ) → Plain (length s) s → barred from to k s ≡ 0
unfolding barred
plain_none from to k [] p = refl
plain_none from to k (b ∷ s) p =
    rw (anywhere (inside from to k) (is_text b) (pick (is_bracket b) false true) (p 0 (omega arith)))
    (plain_none from to (k + 1) s (λ j h. p (suc j) (omega arith)))

-- ---- barred bytes, part by part

module _ (from to : ℕ) where
  zero_case : (t : Bool) (x k : ℕ) → 1 ≤ k → pick t x k ≡ 0 → (t ≡ true) × (x ≡ 0)
  zero_case true x k h e = (refl, e)
  zero_case false x k h e = let y : ⊥ = omega arith in absurd y

  zero_free : (column : ℕ) (s : List ℕ) → 1 ≤ column → barred from to column s ≡ 0 → Free from to column (length s) s
  unfolding barred
  zero_free column [] h e j l = let y : ⊥ = omega arith in absurd y
  zero_free column (b ∷ s) h e zero l = let z : column + 0 ≡ column = omega arith in rw z (zero_case _ _ _ h e).0
  zero_free column (b ∷ s) h e (suc j) l =
      let z : column + 1 + j ≡ column + suc j = omega arith in
      rw z at (zero_free (column + 1) s (omega arith) (zero_case (is_allowed (inside from to column) b) _ _ h e).1 j (omega arith))

  -- the bytes from k on, where none before is barred
  free_rest : (column : ℕ) (s : List ℕ) (k : ℕ) → k ≤ length s → Free from to column k s → barred from to column s ≡ barred from to (column + k) (drop k s)
  free_rest column s zero h p = let z : column + 0 ≡ column = omega arith in rw z
  free_rest column s (suc k) h p =
      let z : column + k + 1 ≡ column + suc k = omega arith in
      free_rest column s k (omega arith) (λ j l. p j (omega arith))
      ∙ barred_next from to s k (column + k) (omega arith) (rw (p k (omega arith)))
      ∙ rw (z, add-one)

  front_case : (t : Bool) (x y k : ℕ) → (pick t x k ≡ 0 → ⊥) → ((x ≡ 0 → ⊥) → y ≡ x) → pick t y k ≡ pick t x k
  front_case true x y k n f = f n
  front_case false x y k n f = refl

  -- a part with a barred byte has the lowest of all
  front : (column w : ℕ) (s : List ℕ) → (barred from to column (take w s) ≡ 0 → ⊥) → barred from to column s ≡ barred from to column (take w s)
  unfolding barred
  front column zero s n = absurd (n refl)
  front column (suc w) [] n = refl
  front column (suc w) (b ∷ s) n =
      front_case (is_allowed (inside from to column) b) (barred from to (column + 1) (take w s)) (barred from to (column + 1) s) column n (front (column + 1) w s)

  -- the last part, which ends where s ends
  pub part_last : (column : ℕ) (s : List ℕ) (k : ℕ) → k ≤ length s → Free from to column k s → barred from to (column + k) (take (length s - k) (drop k s)) ≡ barred from to column s
  part_last column s k h p =
      rw (take_all (length s - k) (drop k s) (simp length-drop (omega arith))) (sym (free_rest column s k h p))

  -- the first i bytes, and then the w bytes from k on, which may begin before i
  module _ (column : ℕ) (s : List ℕ) (i k w : ℕ) (h : k ≤ i) (f : i ≤ length s) (p : Free from to column i s) where
    pub part_found : (n : ℕ) → n ≡ barred from to (column + k) (take w (drop k s)) → (n ≡ 0 → ⊥) → n ≡ barred from to column s
    part_found n e q =
        sym
        (free_rest column s k (omega arith) (λ j l. p j (omega arith))
        ∙ front (column + k) w (drop k s) (λ z. q (e ∙ z))
        ∙ sym e)

    module _ (l : 1 ≤ column) (b : k + w ≤ length s) (q : barred from to (column + k) (take w (drop k s)) ≡ 0) where
      by_place : (t : Bool) (j : ℕ) → ltb j i ≡ t → j < k + w → is_allowed (inside from to (column + j)) (get_or s j 0) ≡ true
      by_place true j e m = p j (ltb-true _ _ e)
      by_place false j e m =
          let later : i ≤ j = ltb-false _ _ e in
          let z : k + (j - k) ≡ j = omega arith in
          let y : column + k + (j - k) ≡ column + j = omega arith in
          let size = length-take-le w (drop k s) (simp length-drop (omega arith)) in
          rw (y, get_or-take w (drop k s) (j - k) 0 (omega arith), get_or-drop k s (j - k) 0, z) at (zero_free (column + k) (take w (drop k s)) (omega arith) q (j - k) (omega arith))

      pub part_free : Free from to column (k + w) s
      part_free j m = by_place (ltb j i) j refl m

-- the column, where there is one
pub found_some : (k : ℕ) → 1 ≤ k → found k ≡ Some k
found_some k h = rw (ne_eqb k 0 (λ e. omega arith))

found_test : (n : ℕ) (t : Bool) → eqb n 0 ≡ t → is_some (pick t None (Some n)) ≡ true → n ≡ 0 → ⊥
found_test n true e p q = absurd (false≢true p)
found_test n false e p q = eqb-false n 0 e q

pub found_there : (n : ℕ) → is_some (found n) ≡ true → n ≡ 0 → ⊥
found_there n p q = found_test n (eqb n 0) refl p q

none_test : (n : ℕ) (t : Bool) → eqb n 0 ≡ t → is_some (pick t None (Some n)) ≡ false → n ≡ 0
none_test n true e p = eqb-true n 0 e
none_test n false e p = absurd (false≢true (sym p))

pub found_none : (n : ℕ) → is_some (found n) ≡ false → n ≡ 0
found_none n p = none_test n (eqb n 0) refl p

is_test : (n k : ℕ) (t : Bool) → eqb n 0 ≡ t → pick t None (Some n) ≡ Some k → (n ≡ 0 → ⊥) × (n ≡ k)
is_test n k true e p = let z : ◌≡◌ {A = ℕ} 0 1 = cc in let y : ⊥ = omega arith in absurd y
is_test n k false e p = (eqb-false n 0 e, cc)

pub found_is : (n k : ℕ) → found n ≡ Some k → (n ≡ 0 → ⊥) × (n ≡ k)
found_is n k p = is_test n k (eqb n 0) refl p

zero_test : (n : ℕ) (t : Bool) → eqb n 0 ≡ t → pick t None (Some n) ≡ None → n ≡ 0
zero_test n true e p = eqb-true n 0 e
zero_test n false e p = let z : ◌≡◌ {A = ℕ} 0 1 = cc in let y : ⊥ = omega arith in absurd y

pub found_zero : (n : ℕ) → found n ≡ None → n ≡ 0
found_zero n p = zero_test n (eqb n 0) refl p

-- ---- letters of a set

member_next : (b x : ℕ) (s : List ℕ) (t : Bool) → member b s ≡ true → pick t true (member b s) ≡ true
member_next b x s true e = refl
member_next b x s false e = e

pub member_has : (b : ℕ) (s : List ℕ) → Contains s b → member b s ≡ true
unfolding member
member_has b [] (k, h, e) = absurd (omega arith)
member_has b (x ∷ s) (zero, h, e) = rw (eq-eqb b x (sym e))
member_has b (x ∷ s) (suc k, h, e) = member_next b x s (eqb b x) (member_has b s (k, omega arith, e))

has_next : (b x : ℕ) (s : List ℕ) (t : Bool) → eqb b x ≡ t → (member b s ≡ true → Contains s b) → pick t true (member b s) ≡ true → Contains (x ∷ s) b
has_next b x s true p r q = (0, omega arith, sym (eqb-true b x p))
has_next b x s false p r q = let z = r q in (suc z.0, omega arith, z.2)

pub has_member : (b : ℕ) (s : List ℕ) → member b s ≡ true → Contains s b
unfolding member
has_member b [] e = absurd (false≢true e)
has_member b (x ∷ s) e = has_next b x s (eqb b x) refl (has_member b s) e

not_member : (b : ℕ) (s : List ℕ) (u : Bool) → member b s ≡ u → (Contains s b → false ≡ true) → false ≡ u
not_member b s true e p = p (has_member b s e)
not_member b s false e p = refl

-- the test as the code makes it
pub member_is : (b : ℕ) (s : List ℕ) (t : Bool) → (IsTrue t ↔ Contains s b) → t ≡ member b s
member_is b s true p = sym (member_has b s (p.0 refl))
member_is b s false p = not_member b s (member b s) refl p.1

-- ---- equal bytes

not_first : (t x : Bool) → x ≡ false → pick t x false ≡ false
not_first true x e = e
not_first false x e = refl

pub same_none : (b : ℕ) (s : List ℕ) → same_bytes [] (b ∷ s) ≡ false
unfolding same_bytes
same_none b s = refl

pub same_cons : (x y : ℕ) (a b : List ℕ) → same_bytes (x ∷ a) (y ∷ b) ≡ pick (eqb x y) (same_bytes a b) false
unfolding same_bytes
same_cons x y a b = refl

pub same_length : (a b : List ℕ) → (length a ≡ length b → ⊥) → same_bytes a b ≡ false
unfolding same_bytes
same_length [] [] n = let y : ⊥ = n refl in absurd y
same_length [] (y ∷ b) n = refl
same_length (x ∷ a) [] n = refl
same_length (x ∷ a) (y ∷ b) n = not_first (eqb x y) (same_bytes a b) (same_length a b (λ e. n (ap suc e)))

module _ (a b : List ℕ) where
  module _ (i : ℕ) where
    pub same_end : length a ≤ i → length b ≤ i → same_bytes (drop i a) (drop i b) ≡ true
    unfolding same_bytes
    same_end h k = rw (drop_of_length-le a {i = i} h, drop_of_length-le b {i = i} k)

first_same : (x y : ℕ) (t u : Bool) → eqb x y ≡ t → pick t u false ≡ true → (x ≡ y) × (u ≡ true)
first_same x y true u e p = (eqb-true x y e, p)
first_same x y false u e p = let z : ◌≡◌ {A = ℕ} 0 1 = cc in let y : ⊥ = omega arith in absurd y

-- what is equal byte for byte is one list
pub same_is : (a b : List ℕ) → same_bytes a b ≡ true → a ≡ b
unfolding same_bytes
same_is [] [] e = refl
same_is [] (y ∷ b) e = let z : ◌≡◌ {A = ℕ} 0 1 = cc in let y : ⊥ = omega arith in absurd y
same_is (x ∷ a) [] e = let z : ◌≡◌ {A = ℕ} 0 1 = cc in let y : ⊥ = omega arith in absurd y
same_is (x ∷ a) (y ∷ b) e =
    let p = first_same x y (eqb x y) (same_bytes a b) refl e in
    rw (p.0, same_is a b p.1)

pub same_self : (a : List ℕ) → same_bytes a a ≡ true
unfolding same_bytes
same_self [] = refl
same_self (x ∷ a) = rw (eq-eqb x x refl) (same_self a)

as_and : (t x : Bool) → pick t x false ≡ t && x
as_and true x = refl
as_and false x = refl

module _ (a b : List ℕ) (i : ℕ) where
  pub same_turn : i < length a → i < length b → (ok : Bool)
      → ok && same_bytes (drop i a) (drop i b) ≡ ok && eqb (get_or a i 0) (get_or b i 0) && same_bytes (drop (i + 1) a) (drop (i + 1) b)
  unfolding same_bytes
  same_turn h k true = rw (drop-cons a i 0 h, drop-cons b i 0 k, add-one) (as_and (eqb (get_or a i 0) (get_or b i 0)) (same_bytes (drop (suc i) a) (drop (suc i) b)))
  same_turn h k false = refl

-- ---- the w bytes from k on differ

module _ (a b : List ℕ) (k w : ℕ) (q : same_bytes (take w (drop k a)) (take w (drop k b)) ≡ false) where
  by_whole : (t : Bool) → same_bytes a b ≡ t → t ≡ false
  by_whole true e = absurd (false≢true (sym q ∙ rw (same_is a b e) (same_self _)))
  by_whole false e = refl

  pub parts_apart : same_bytes a b ≡ false
  parts_apart = by_whole (same_bytes a b) refl

-- ---- the first i bytes are equal, and the w bytes from k on are looked at, which may begin before i

module _ (a b : List ℕ) (i k w : ℕ) (h : k ≤ i) (p : take i a ≡ take i b) where
  pub parts_more : same_bytes (take w (drop k a)) (take w (drop k b)) ≡ true → take (k + w) a ≡ take (k + w) b
  parts_more e =
      let first : take k a ≡ take k b = sym (take-take k i a h) ∙ ap (take k) p ∙ take-take k i b h in
      take-add k w a ∙ rw (first, same_is _ _ e) (sym (take-add k w b))

  module _ (f : length a ≤ k + w) (g : length b ≤ k + w) where
    by_part : (t : Bool) → same_bytes (take w (drop k a)) (take w (drop k b)) ≡ t → t ≡ same_bytes a b
    by_part true e =
        let whole : a ≡ b = sym (take_all (k + w) a f) ∙ parts_more e ∙ take_all (k + w) b g in
        rw whole (sym (same_self b))
    by_part false e = sym (parts_apart a b k w e)

    pub parts_last : same_bytes (take w (drop k a)) (take w (drop k b)) ≡ same_bytes a b
    parts_last = by_part _ refl
