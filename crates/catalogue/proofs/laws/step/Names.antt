-- The pairs that a catalogue names: counted one by one, and as a list without repeats.
use Prim.Native.Nat.{ℕ, suc, ◌+◌, ◌≤◌, ◌<◌}
use mathlib.Core.Path.{◌≡◌, refl, sym, ◌∙◌, ap, subst}
use mathlib.Core.Logic.{◌⊎◌, inl, inr}
use mathlib.Core.List.{List, [], ◌∷◌, ◌++◌, map, Memᴰ}
use mathlib.Core.Option.{Option, none, some}
use native.Mathlib.Omega.{arith}
use lib.ListN.{length, length-append, length-map}
use Rattle.catalogue.specs.Assoc.{find, AscFrom}
use Rattle.catalogue.specs.Line.{key, deletion_key}
use Rattle.catalogue.specs.Catalogue.{Catalogue, only_held, named}
use Rattle.catalogue.proofs.laws.assoc.Tri.{eq, ne, eq?}
use Rattle.catalogue.proofs.laws.assoc.Assoc.{asc_weaken}
use Rattle.catalogue.proofs.laws.assoc.Distinct.{Distinct, pigeon, distinct_append}
use Rattle.catalogue.proofs.laws.assoc.Members.{keys_distinct, found, find_mem}

-- ---- the held lines whose pair no deletion names

module _ (deletions : List (List ℕ)) where
  module _ (h : List ℕ) where
    pub only_none : (hs : List (List ℕ)) → find deletion_key (key h) deletions ≡ none → only_held deletions (h ∷ hs) ≡ h ∷ only_held deletions hs
    unfolding only_held
    only_none hs e = rw (e, only_held)

    pub only_some : (hs : List (List ℕ)) (d : List ℕ) → find deletion_key (key h) deletions ≡ some d → only_held deletions (h ∷ hs) ≡ only_held deletions hs
    unfolding only_held
    only_some hs d e = rw (e, only_held)

    -- a pair's deletion is there or not
    abbrev Has : Type 0
    Has = (find deletion_key (key h) deletions ≡ none) ⊎ ((d : List ℕ) × (find deletion_key (key h) deletions ≡ some d))

    has : Has
    has = go (find deletion_key (key h) deletions) refl
      where
        go : (o : Option (List ℕ)) → find deletion_key (key h) deletions ≡ o → Has
        go none e = inl e
        go (some d) e = inr (d, e)

    pub only_cons : (hs : List (List ℕ)) → length (only_held deletions (h ∷ hs)) ≡ length (only_held deletions (h ∷ [])) + length (only_held deletions hs)
    unfolding only_held
    only_cons hs =
        elim has [
          | inl e ↦ rw (only_none hs e, only_none [] e) (omega arith)
          | inr r ↦ rw (only_some hs r.0 r.1, only_some [] r.0 r.1) (omega arith)
        ]

  only_asc : (hs : List (List ℕ)) (b : ℕ) → AscFrom key b hs → AscFrom key b (only_held deletions hs)
  unfolding only_held
  only_asc [] b s = tt
  only_asc (h ∷ hs) b s =
      elim (has h) [
        | inl e ↦ rw (only_none h hs e) (s.0, only_asc hs (suc (key h)) s.1)
        | inr r ↦ rw (only_some h hs r.0 r.1) (asc_weaken key (only_held deletions hs) (omega arith) (only_asc hs (suc (key h)) s.1))
      ]

  -- what is only held is held, and has no deletion
  only_mem : (hs : List (List ℕ)) (k : ℕ) → Memᴰ k (map key (only_held deletions hs)) → Memᴰ k (map key hs) × (find deletion_key k deletions ≡ none)
  unfolding only_held
  only_mem [] k m = absurd (mathlib.Core.List.Memᴰ.not-nil m)
  only_mem (h ∷ hs) k m =
      elim (has h) [
        | inl e ↦
            let m' : Memᴰ k (map key (h ∷ only_held deletions hs)) = subst (λ (l : List (List ℕ)). Memᴰ k (map key l)) (only_none h hs e) m in
            elim (mathlib.Core.List.Memᴰ.cases_cons m') [
              | inl p ↦ (mathlib.Core.List.Memᴰ.head p, ap (λ (j : ℕ). find deletion_key j deletions) p ∙ e)
              | inr t ↦ let r = only_mem hs k t in (mathlib.Core.List.Memᴰ.tail r.0, r.1)
            ]
        | inr d ↦
            let m' : Memᴰ k (map key (only_held deletions hs)) = subst (λ (l : List (List ℕ)). Memᴰ k (map key l)) (only_some h hs d.0 d.1) m in
            let r = only_mem hs k m' in
            (mathlib.Core.List.Memᴰ.tail r.0, r.1)
      ]

  only_back : (hs : List (List ℕ)) (k : ℕ) → find deletion_key k deletions ≡ none → Memᴰ k (map key hs) → Memᴰ k (map key (only_held deletions hs))
  only_back [] k e m = absurd (mathlib.Core.List.Memᴰ.not-nil m)
  only_back (h ∷ hs) k e m =
      elim (has h) [
        | inl n ↦ rw (only_none h hs n) (elim (mathlib.Core.List.Memᴰ.cases_cons m) [ inl p ↦ mathlib.Core.List.Memᴰ.head p | inr t ↦ mathlib.Core.List.Memᴰ.tail (only_back hs k e t) ])
        | inr d ↦ rw (only_some h hs d.0 d.1) (elim (mathlib.Core.List.Memᴰ.cases_cons m) [
          | inl p ↦ let u : ◌≡◌ {A = ℕ} 0 1 = cc (d.1, ap (λ (j : ℕ). find deletion_key j deletions) p) in absurd (omega arith)
          | inr t ↦ only_back hs k e t
        ])
      ]

-- ---- the pairs that are named

abbrev pub Names : Catalogue → ℕ → Type 0
Names c z = find deletion_key z c.deletions ≡ none → find key z c.held ≡ none → ⊥

pub held_named : (c : Catalogue) (k : ℕ) (h : List ℕ) → find key k c.held ≡ some h → Names c k
held_named c k h e p q = let z : ◌≡◌ {A = ℕ} 0 1 = cc in omega arith

pub deletion_named : (c : Catalogue) (k : ℕ) (d : List ℕ) → find deletion_key k c.deletions ≡ some d → Names c k
deletion_named c k d e p q = let z : ◌≡◌ {A = ℕ} 0 1 = cc in omega arith

pub names : Catalogue → List ℕ
names c = map deletion_key c.deletions ++ map key (only_held c.deletions c.held)

module _ (c : Catalogue) where
  pub names_length : length (names c) ≡ named c
  unfolding names named
  names_length = simp (length-append, length-map)

  pub names_mem : (z : ℕ) → Names c z → Memᴰ z (names c)
  unfolding names
  names_mem z n = go (find deletion_key z c.deletions) refl (find key z c.held) refl
    where
      go : (g : Option (List ℕ)) → find deletion_key z c.deletions ≡ g → (o : Option (List ℕ)) → find key z c.held ≡ o
          → Memᴰ z (map deletion_key c.deletions ++ map key (only_held c.deletions c.held))
      go (some d) p o q = mathlib.Core.List.Memᴰ.append_left (map key (only_held c.deletions c.held)) (find_mem deletion_key c.deletions z d p)
      go none p (some h) q = mathlib.Core.List.Memᴰ.append_right (map deletion_key c.deletions) (only_back c.deletions c.held z p (find_mem key c.held z h q))
      go none p none q = absurd (n p q)

  pub names_of : (z : ℕ) → Memᴰ z (names c) → Names c z
  unfolding names
  names_of z m p q =
      elim (mathlib.Core.List.Memᴰ.append_cases (map deletion_key c.deletions) m) [
        | inl g ↦ let r = found deletion_key c.deletions z g in let u : ◌≡◌ {A = ℕ} 0 1 = cc r.1 in omega arith
        | inr h ↦ let r = found key c.held z (only_mem c.deletions c.held z h).0 in let u : ◌≡◌ {A = ℕ} 0 1 = cc r.1 in omega arith
      ]

  module _ (s : AscFrom key 0 c.held) (t : AscFrom deletion_key 0 c.deletions) where
    pub names_distinct : Distinct (names c)
    unfolding names
    names_distinct =
        distinct_append (map deletion_key c.deletions) (map key (only_held c.deletions c.held)) (keys_distinct deletion_key c.deletions 0 t)
        (keys_distinct key (only_held c.deletions c.held) 0 (only_asc c.deletions c.held 0 s))
        (λ (z : ℕ) (a : Memᴰ z (map deletion_key c.deletions)) (b : Memᴰ z (map key (only_held c.deletions c.held))).
        let r = found deletion_key c.deletions z a in
        let u : ◌≡◌ {A = ℕ} 0 1 = cc (r.1, (only_mem c.deletions c.held z b).1) in
        omega arith)

    module _ (ks : List ℕ) (within : (z : ℕ) → Names c z → Memᴰ z ks) where
      names_within : (z : ℕ) → Memᴰ z (names c) → Memᴰ z ks
      names_within z m = within z (names_of z m)

      -- no more pairs are named than a list has that has them all
      pub named_within : named c ≤ length ks
      named_within = omega (arith, names_length, pigeon (names c) ks names_distinct names_within)

      -- fewer, where the list has one more
      pub named_below : (k : ℕ) → Memᴰ k ks → find deletion_key k c.deletions ≡ none → find key k c.held ≡ none → named c < length ks
      named_below k m p q =
          omega (
            arith,
            names_length,
            pigeon (k ∷ names c) ks (λ (a : Memᴰ k (names c)). names_of k a p q, names_distinct) (λ (z : ℕ) (a : Memᴰ z (k ∷ names c)). elim (mathlib.Core.List.Memᴰ.cases_cons a) [
              | inl e ↦ mathlib.Core.List.Memᴰ.cast e m
              | inr b ↦ names_within z b
            ]),
          )

      -- a pair of a short list that is not named finds room
      pub named_room : length ks ≤ 512 → (k : ℕ) → Memᴰ k ks → find deletion_key k c.deletions ≡ none → find key k c.held ≡ none → named c < 512
      named_room few k m p q = omega (arith, named_below k m p q)

-- ---- a catalogue d that names what c does, but for one pair at most

module _ (c d : Catalogue) (s : AscFrom key 0 d.held) (t : AscFrom deletion_key 0 d.deletions) (k : ℕ) (same : (z : ℕ) → (k ≡ z → ⊥) → Names d z → Names c z) where
  pub named_one_more : named d ≤ suc (named c)
  named_one_more =
      omega (
        arith,
        names_length c,
        named_within d s t (k ∷ names c) (λ (z : ℕ) (n : Names d z). elim (eq? k z) [ eq e ↦ mathlib.Core.List.Memᴰ.head (sym e) | ne u ↦ mathlib.Core.List.Memᴰ.tail (names_mem c z (same z u n)) ]),
      )

  pub named_no_more : (Names d k → Names c k) → named d ≤ named c
  named_no_more f =
      omega (
        arith,
        names_length c,
        named_within d s t (names c) (λ (z : ℕ) (n : Names d z). elim (eq? k z) [
          | eq e ↦ names_mem c z (subst (Names c) e (f (subst (Names d) (sym e) n)))
          | ne u ↦ names_mem c z (same z u n)
        ]),
      )
