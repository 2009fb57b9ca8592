-- The last received of a list's highest lines, of a kind and a key: what it is, and how one more line changes it.
use Prim.Native.Nat.{ℕ, ◌≤◌, ◌<◌}
use mathlib.Core.Path.{◌≡◌, refl, sym, ◌∙◌, ap, subst}
use mathlib.Core.Logic.{inl, inr}
use mathlib.Core.Bool.{Bool, true, false, ◌&&◌}
use mathlib.Core.List.Memᴰ
use mathlib.Core.List.{List, [], ◌∷◌, ◌++◌}
use mathlib.Core.Option.{Option, none, some}
use native.Mathlib.Omega.{arith}
use lib.Dec.{leb, eqb}
use lib.ListN.{get_or}
use borrow.Author.Tests.{leb-true, leb-false, eqb-true, le-leb, lt-leb, eq-eqb}
use Rattle.catalogue.specs.Line.{Kind, event, delete, blank, link, refused, kind, key_by, version_by}
use Rattle.catalogue.specs.FromSet.{Of}
use Rattle.catalogue.specs.Lists.{Occurs}
use Rattle.catalogue.specs.Last.{rank, same_kind, later, last_highest}
use Rattle.catalogue.proofs.laws.assoc.Tri.{le, gt, le?}
use Rattle.catalogue.proofs.laws.assoc.Tests.{and_both, pick_by}

-- ---- a line is of a kind and a key, or is not

-- the kind of a rank
kind_at : ℕ → Kind
kind_at n = get_or (event ∷ delete ∷ blank ∷ link ∷ []) n refused

ranked : (t : Kind) → t ≡ kind_at (rank t)
unfolding kind_at
ranked event = refl
ranked delete = refl
ranked blank = refl
ranked link = refl
ranked refused = refl

same_kind_true : (s t : Kind) → same_kind s t ≡ true → s ≡ t
unfolding same_kind
same_kind_true s t h = by_rank s t (eqb-true (rank s) (rank t) h)
  where
    by_rank : (s t : Kind) → rank s ≡ rank t → s ≡ t
    by_rank s t e = ranked s ∙ ap kind_at e ∙ sym (ranked t)

same_kind_self : (t : Kind) → same_kind t t ≡ true
unfolding same_kind
same_kind_self t = eq-eqb (rank t) (rank t) refl

data Of? (t : Kind) (k : ℕ) (x : List ℕ) : Type 0 where
  is : kind x ≡ t → key_by t x ≡ k → (same_kind (kind x) t && eqb (key_by t x) k) ≡ true → Of? t k x
  isnt : (kind x ≡ t → key_by t x ≡ k → ⊥) → (same_kind (kind x) t && eqb (key_by t x) k) ≡ false → Of? t k x

of? : (t : Kind) (k : ℕ) (x : List ℕ) → Of? t k x
of? t k x = go (same_kind (kind x) t && eqb (key_by t x) k) refl
  where
    go : (b : Bool) → (same_kind (kind x) t && eqb (key_by t x) k) ≡ b → Of? t k x
    go true e =
        let r = and_both (same_kind (kind x) t) (eqb (key_by t x) k) e in
        is (same_kind_true (kind x) t r.0) (eqb-true (key_by t x) k r.1) e
    go false e =
        isnt (λ (p : kind x ≡ t) (q : key_by t x ≡ k).
        let z : false ≡ true = sym e ∙ simp (p, same_kind_self t, eq-eqb (key_by t x) k q) in
        let u : ◌≡◌ {A = ℕ} 0 1 = cc in omega arith) e

module _ (t : Kind) (k : ℕ) (x : List ℕ) (xs : List (List ℕ)) where
  highest_of : kind x ≡ t → key_by t x ≡ k → last_highest t k (x ∷ xs) ≡ later t x (last_highest t k xs)
  unfolding last_highest
  highest_of p q = elim (of? t k x) [ is a b e ↦ rw e | isnt n e ↦ absurd (n p q) ]

  highest_other : (kind x ≡ t → key_by t x ≡ k → ⊥) → last_highest t k (x ∷ xs) ≡ last_highest t k xs
  unfolding last_highest
  highest_other n = elim (of? t k x) [ is a b e ↦ absurd (n a b) | isnt m e ↦ rw e ]

-- ---- of two lines

pub later_within : (t : Kind) (x y : List ℕ) → version_by t x ≤ version_by t y → later t x (some y) ≡ some y
unfolding later
later_within t x y h = rw (le-leb (version_by t x) (version_by t y) h)

pub later_above : (t : Kind) (x y : List ℕ) → version_by t y < version_by t x → later t x (some y) ≡ some x
unfolding later
later_above t x y h = rw (lt-leb (version_by t x) (version_by t y) h)

-- a line that is received after the chosen one
abbrev pub joined : Kind → Option (List ℕ) → List ℕ → Option (List ℕ)
joined t none l = some l
joined t (some x) l = later t x (some l)

later_joined : (t : Kind) (x l : List ℕ) (o : Option (List ℕ)) → later t x (joined t o l) ≡ joined t (later t x o) l
unfolding later
later_joined t x l none = refl
later_joined t x l (some y) =
    elim (le? (version_by t y) (version_by t l)) [
      | le p ↦ elim (le? (version_by t x) (version_by t y)) [
        | le q ↦ let r : version_by t x ≤ version_by t l = omega arith in simp (le-leb (version_by t y) (version_by t l) p, le-leb (version_by t x) (version_by t y) q, le-leb (version_by t x) (version_by t l) r)
        | gt q ↦ simp (le-leb (version_by t y) (version_by t l) p, lt-leb (version_by t x) (version_by t y) q)
      ]
      | gt p ↦ elim (le? (version_by t x) (version_by t y)) [
        | le q ↦ simp (lt-leb (version_by t y) (version_by t l) p, le-leb (version_by t x) (version_by t y) q)
        | gt q ↦ let r : version_by t l < version_by t x = omega arith in simp (lt-leb (version_by t y) (version_by t l) p, lt-leb (version_by t x) (version_by t y) q, lt-leb (version_by t x) (version_by t l) r)
      ]
    ]

-- ---- one more line

module _ (t : Kind) (k : ℕ) (l : List ℕ) where
  pub highest_snoc : kind l ≡ t → key_by t l ≡ k → (ls : List (List ℕ)) → last_highest t k (ls ++ (l ∷ [])) ≡ joined t (last_highest t k ls) l
  unfolding last_highest later
  highest_snoc p q [] = highest_of t k l [] p q
  highest_snoc p q (x ∷ xs) =
      elim (of? t k x) [
        | is a b e ↦
            highest_of t k x (xs ++ (l ∷ [])) a b ∙ ap (later t x) (highest_snoc p q xs) ∙ later_joined t x l (last_highest t k xs) ∙ ap (λ (o : Option (List ℕ)). joined t o l) (sym (highest_of t k x xs a b))
        | isnt n e ↦ highest_other t k x (xs ++ (l ∷ [])) n ∙ highest_snoc p q xs ∙ ap (λ (o : Option (List ℕ)). joined t o l) (sym (highest_other t k x xs n))
      ]

  pub highest_snoc_other : (kind l ≡ t → key_by t l ≡ k → ⊥) → (ls : List (List ℕ)) → last_highest t k (ls ++ (l ∷ [])) ≡ last_highest t k ls
  highest_snoc_other n [] = highest_other t k l [] n
  highest_snoc_other n (x ∷ xs) =
      elim (of? t k x) [
        | is a b e ↦ highest_of t k x (xs ++ (l ∷ [])) a b ∙ ap (later t x) (highest_snoc_other n xs) ∙ sym (highest_of t k x xs a b)
        | isnt m e ↦ highest_other t k x (xs ++ (l ∷ [])) m ∙ highest_snoc_other n xs ∙ sym (highest_other t k x xs m)
      ]

-- ---- what is chosen is a line of the list, and no other is above it

abbrev pub HighestIs : List (List ℕ) → Kind → ℕ → Option (List ℕ) → Type 0
HighestIs ls t k none = (x : List ℕ) → Of (Occurs ls) t k x → ⊥
HighestIs ls t k (some y) = Of (Occurs ls) t k y × ((x : List ℕ) → Of (Occurs ls) t k x → version_by t x ≤ version_by t y)

module _ (l : List ℕ) (ls : List (List ℕ)) (t : Kind) (k : ℕ) where
  tail_of : {x : List ℕ} → Of (Occurs ls) t k x → Of (Occurs (l ∷ ls)) t k x
  tail_of o = record { inside = Memᴰ.tail o.inside; is_kind = o.is_kind; is_key = o.is_key }

  -- a fact of the first line and of those received later
  either : (P : List ℕ → Type 0) → ((x : List ℕ) → Of (Occurs ls) t k x → P x) → (kind l ≡ t → key_by t l ≡ k → P l) → (x : List ℕ) → Of (Occurs (l ∷ ls)) t k x → P x
  either P f g x o =
      elim (Memᴰ.cases_cons o.inside) [
        | inl e ↦ subst P (sym e) (g (ap kind (sym e) ∙ o.is_kind) (ap (key_by t) (sym e) ∙ o.is_key))
        | inr m ↦ f x (record { inside = m; is_kind = o.is_kind; is_key = o.is_key })
      ]

  skip : (kind l ≡ t → key_by t l ≡ k → ⊥) → (o : Option (List ℕ)) → HighestIs ls t k o → HighestIs (l ∷ ls) t k o
  skip n none h = either (λ (x : List ℕ). ⊥) h n
  skip n (some y) h = (tail_of h.0, either (λ (x : List ℕ). version_by t x ≤ version_by t y) h.1 (λ (p : kind l ≡ t) (q : key_by t l ≡ k). absurd (n p q)))

  module _ (p : kind l ≡ t) (q : key_by t l ≡ k) where
    first : ((x : List ℕ) → Of (Occurs ls) t k x → version_by t x ≤ version_by t l) → HighestIs (l ∷ ls) t k (some l)
    first h = (
      record { inside = Memᴰ.head refl; is_kind = p; is_key = q },
      either (λ (x : List ℕ). version_by t x ≤ version_by t l) h (λ (a : kind l ≡ t) (b : key_by t l ≡ k). omega arith),
    )

    raise : (o : Option (List ℕ)) → HighestIs ls t k o → HighestIs (l ∷ ls) t k (later t l o)
    unfolding later
    raise none h = first (λ (x : List ℕ) (o : Of (Occurs ls) t k x). absurd (h x o))
    raise (some y) h =
        pick_by (HighestIs (l ∷ ls) t k) (leb (version_by t l) (version_by t y)) (some y) (some l)
        (λ e. (tail_of h.0, either (λ (x : List ℕ). version_by t x ≤ version_by t y) h.1 (λ (a : kind l ≡ t) (b : key_by t l ≡ k). leb-true (version_by t l) (version_by t y) e)))
        (λ e. first (λ (x : List ℕ) (o : Of (Occurs ls) t k x). omega (arith, h.1 x o, leb-false (version_by t l) (version_by t y) e)))

pub highest_is : (ls : List (List ℕ)) (t : Kind) (k : ℕ) → HighestIs ls t k (last_highest t k ls)
unfolding last_highest
highest_is [] t k = λ (x : List ℕ) (o : Of (Occurs []) t k x). Memᴰ.not-nil o.inside
highest_is (l ∷ ls) t k =
    elim (of? t k l) [
      | is p q e ↦ rw e (raise l ls t k p q (last_highest t k ls) (highest_is ls t k))
      | isnt n e ↦ rw e (skip l ls t k n (last_highest t k ls) (highest_is ls t k))
    ]

pub highest_found : (ls : List (List ℕ)) (t : Kind) (k : ℕ) (y : List ℕ) → last_highest t k ls ≡ some y → Of (Occurs ls) t k y
highest_found ls t k y e = let h : HighestIs ls t k (some y) = subst (HighestIs ls t k) e (highest_is ls t k) in h.0
