-- A line's pair before and after the line is taken, where the highest lines so far say what is held and deleted.
use Prim.Native.Nat.{ℕ, ◌≤◌, ◌<◌}
use mathlib.Core.Path.{◌≡◌, refl, sym, ◌∙◌, ap}
use mathlib.Core.List.{List}
use mathlib.Core.Option.{Option, none, some}
use native.Mathlib.Omega.{arith}
use lib.Dec.{ltb, leb}
use borrow.Author.Tests.{ltb-true, ltb-false, leb-true, leb-false, lt-ltb, le-ltb}
use Rattle.columns.specs.Answer.{pick}
use Rattle.columns.specs.Bytes.{same_bytes}
use Rattle.columns.proofs.laws.Bytes.{same_is}
use Rattle.catalogue.specs.Answers.{Deed}
use Rattle.catalogue.specs.declared.decide.Deed.TheVariants.{Leave, Hold, Note, Wipe, Link}
use Rattle.catalogue.specs.declared.decide.Notice.TheVariants.{Event, Delete}
use Rattle.std.specs.Prelude.{Ok}
use Rattle.catalogue.specs.declared.Effect.TheVariants.{Replaced, Repeated, Outdated}
use Rattle.catalogue.specs.Line.{event, delete, link, kind, Acceptable, version, key, deletion, deletion_version, link_entry, link_version}
use Rattle.catalogue.specs.Taking.{covered, over_held, over_deleted, decide, over_link}
use Rattle.catalogue.specs.Last.{deletion_for, held_for, link_for}
use Rattle.catalogue.proofs.laws.assoc.Tri.{le, gt, le?}
use Rattle.catalogue.proofs.laws.assoc.Tests.{pick_by}
use Rattle.catalogue.proofs.laws.step.Line.{whole, deletion_version_lem, deletion_eq}
use Rattle.catalogue.proofs.laws.step.Link.{link_whole, entry_version}
use Rattle.catalogue.proofs.laws.step.Done.{held_after, deletion_after, link_after}
use Rattle.catalogue.proofs.laws.demand.Highest.{later_within, later_above, joined}

-- ---- what is held

pub held_none : (e : Option (List ℕ)) → held_for e none ≡ e
unfolding held_for
held_none none = refl
held_none (some e) = refl

pub held_nothing : (d : Option (List ℕ)) → held_for none d ≡ none
unfolding held_for
held_nothing d = refl

module _ (e d : List ℕ) where
  pub held_above : version d < version e → held_for (some e) (some d) ≡ some e
  unfolding held_for
  held_above h = rw (lt-ltb (version d) (version e) h)

  pub held_within : version e ≤ version d → held_for (some e) (some d) ≡ none
  unfolding held_for
  held_within h = rw (le-ltb (version d) (version e) h)

-- only the deleted version counts
pub held_version : (e : Option (List ℕ)) (d g : List ℕ) → version d ≡ version g → held_for e (some d) ≡ held_for e (some g)
unfolding held_for
held_version none d g v = refl
held_version (some e) d g v = rw v

-- the chosen delete, if there is one, is of this pair
abbrev pub Own : ℕ → Option (List ℕ) → Type 0
Own k none = Unit {0}
Own k (some y) = Acceptable y × (key y ≡ k)

own_version : (k : ℕ) (y : List ℕ) → Own k (some y) → deletion_version (deletion y (version y)) ≡ version y
own_version k y o = deletion_version_lem y (version y) (whole y o.0).long

-- what is held was chosen
pub held_chosen : (e d : Option (List ℕ)) (x : List ℕ) → held_for e d ≡ some x → e ≡ some x
unfolding held_for
held_chosen none d x q = let z : ◌≡◌ {A = ℕ} 0 1 = cc in absurd (omega arith)
held_chosen (some e) none x q = q
held_chosen (some e) (some d) x q =
    pick_by (λ (o : Option (List ℕ)). o ≡ some x → some e ≡ some x) (ltb (version d) (version e)) (some e) none (λ t. λ (p : some e ≡ some x). p)
    (λ t. λ (p : none ≡ some x). let z : ◌≡◌ {A = ℕ} 0 1 = cc in absurd (omega arith)) q

pub deletion_chosen : (d : Option (List ℕ)) (x : List ℕ) → deletion_for d ≡ some x → (y : List ℕ) × (d ≡ some y) × (x ≡ deletion y (version y))
unfolding deletion_for
deletion_chosen none x q = let z : ◌≡◌ {A = ℕ} 0 1 = cc in absurd (omega arith)
deletion_chosen (some y) x q = (y, refl, cc)

-- what is held goes by the deletion's bytes: they have the version
pub held_deletion : (k : ℕ) (e d g : Option (List ℕ)) → Own k d → Own k g → deletion_for d ≡ deletion_for g → held_for e d ≡ held_for e g
unfolding deletion_for
held_deletion k e none none a b q = refl
held_deletion k e none (some y) a b q = let z : ◌≡◌ {A = ℕ} 0 1 = cc in absurd (omega arith)
held_deletion k e (some x) none a b q = let z : ◌≡◌ {A = ℕ} 0 1 = cc in absurd (omega arith)
held_deletion k e (some x) (some y) a b q =
    let r : deletion x (version x) ≡ deletion y (version y) = cc in
    held_version e x y (sym (own_version k x a) ∙ ap deletion_version r ∙ own_version k y b)

-- the chosen delete, if there is one, is below v
abbrev Below : Option (List ℕ) → ℕ → Type 0
Below none v = Unit {0}
Below (some d) v = version d < v

module _ (l : List ℕ) where
  -- ---- an E line

  over_held_after : (d h : Option (List ℕ)) → (held_after (over_held l h) l h ≡ joined event h l) × (deletion_after (over_held l h) l d ≡ d)
  unfolding over_held
  over_held_after d none = (refl, refl)
  over_held_after d (some x) =
      pick_by (λ (e : Deed). (held_after e l (some x) ≡ joined event (some x) l) × (deletion_after e l d ≡ d)) (ltb (version l) (version x)) (Leave (Ok Outdated)) (pick (same_bytes l x) (Leave (Ok Repeated)) (Hold Replaced))
      (λ t. (sym (later_above event x l (ltb-true (version l) (version x) t)), refl))
      (λ t.
      let v : version x ≤ version l = ltb-false (version l) (version x) t in
      pick_by (λ (e : Deed). (held_after e l (some x) ≡ joined event (some x) l) × (deletion_after e l d ≡ d)) (same_bytes l x) (Leave (Ok Repeated)) (Hold Replaced)
      (λ s. (sym (later_within event x l v ∙ ap some (same_is l x s)), refl)) (λ s. (sym (later_within event x l v), refl)))

  -- where the line is above the deletes
  joined_above : (e d : Option (List ℕ)) → Below d (version l) → joined event (held_for e d) l ≡ held_for (joined event e l) d
  joined_above e none h = simp held_none
  joined_above none (some y) h = simp (held_nothing, held_above l y h)
  joined_above (some x) (some y) h =
      elim (le? (version x) (version y)) [
        | le p ↦ let q : version x ≤ version l = omega arith in simp (held_within x y p, later_within event x l q, held_above l y h)
        | gt p ↦ elim (le? (version x) (version l)) [
          | le q ↦ simp (held_above x y p, later_within event x l q, held_above l y h)
          | gt q ↦ simp (held_above x y p, later_above event x l q)
        ]
      ]

  -- and where it is not
  joined_within : (e : Option (List ℕ)) (y : List ℕ) → version l ≤ version y → held_for e (some y) ≡ held_for (joined event e l) (some y)
  joined_within none y h = simp (held_nothing, held_within l y h)
  joined_within (some x) y h =
      elim (le? (version x) (version l)) [
        | le p ↦ let q : version x ≤ version y = omega arith in simp (later_within event x l p, held_within x y q, held_within l y h)
        | gt p ↦ simp (later_above event x l p)
      ]

  -- ---- a DE line

  over_deleted_after : (d h : Option (List ℕ))
      → (held_after (over_deleted (version l) h) l h ≡ held_for h (some l)) × (deletion_after (over_deleted (version l) h) l d ≡ some (deletion l (version l)))
  unfolding over_deleted
  over_deleted_after d none = (sym (held_nothing (some l)), refl)
  over_deleted_after d (some x) =
      pick_by (λ (e : Deed). (held_after e l (some x) ≡ held_for (some x) (some l)) × (deletion_after e l d ≡ some (deletion l (version l)))) (leb (version x) (version l)) (Wipe (version l)) (Note (version l))
      (λ t. (sym (held_within x l (leb-true (version x) (version l) t)), refl)) (λ t. (sym (held_above x l (leb-false (version x) (version l) t)), refl))

  held_twice : (e d : Option (List ℕ)) → Below d (version l) → held_for (held_for e d) (some l) ≡ held_for e (some l)
  held_twice e none h = simp held_none
  held_twice none (some y) h = simp held_nothing
  held_twice (some x) (some y) h =
      elim (le? (version x) (version y)) [
        | le p ↦ let q : version x ≤ version l = omega arith in simp (held_within x y p, held_nothing, held_within x l q)
        | gt p ↦ simp (held_above x y p)
      ]

  joined_new : (d : Option (List ℕ)) → Below d (version l) → joined delete d l ≡ some l
  joined_new none h = refl
  joined_new (some y) h = later_within delete y l (omega arith)

  joined_held : (e : Option (List ℕ)) (y : List ℕ) → version l ≤ version y → held_for e (some y) ≡ held_for e (joined delete (some y) l)
  joined_held e y h =
      elim (le? (version y) (version l)) [
        | le p ↦ let v : version y ≡ version l = omega arith in held_version e y l v ∙ simp (later_within delete y l p)
        | gt p ↦ simp (later_above delete y l p)
      ]

  joined_deletion : Acceptable l → (y : List ℕ) → Own (key l) (some y) → version l ≤ version y → deletion_for (some y) ≡ deletion_for (joined delete (some y) l)
  unfolding deletion_for
  joined_deletion a y o h =
      elim (le? (version y) (version l)) [
        | le p ↦ let v : version y ≡ version l = omega arith in ap some (ap (deletion y) v ∙ deletion_eq y l o.0 a (version l) o.1) ∙ sym (ap deletion_for (later_within delete y l p))
        | gt p ↦ sym (ap deletion_for (later_above delete y l p))
      ]

-- ---- the pair after the line

-- after a deed the pair is as the highest lines e and d say, where x and y said it before
abbrev pub PairAfter : List ℕ → Deed → Option (List ℕ) → Option (List ℕ) → Option (List ℕ) → Option (List ℕ) → Type 0
PairAfter l deed x y e d = (held_after deed l (held_for x y) ≡ held_for e d) × (deletion_after deed l (deletion_for y) ≡ deletion_for d)

module _ (l : List ℕ) (e : Option (List ℕ)) where
  pub event_pair : (d : Option (List ℕ)) → Own (key l) d → PairAfter l (decide Event l (deletion_for d) (held_for e d)) e d (joined event e l) d
  unfolding decide covered deletion_for
  event_pair none o = let a = over_held_after l none (held_for e none) in (a.0 ∙ joined_above l e none tt, a.1)
  event_pair (some y) o =
      let v = own_version (key l) y o in
      pick_by (λ (t : Deed). PairAfter l t e (some y) (joined event e l) (some y)) (leb (version l) (deletion_version (deletion y (version y)))) (Leave (Ok Outdated)) (over_held l (held_for e (some y)))
      (λ t. (joined_within l e y (omega (arith, v, leb-true (version l) (deletion_version (deletion y (version y))) t)), refl))
      (λ t.
      let a = over_held_after l (some (deletion y (version y))) (held_for e (some y)) in
      (a.0 ∙ joined_above l e (some y) (omega (arith, v, leb-false (version l) (deletion_version (deletion y (version y))) t)), a.1))

  pub delete_pair : Acceptable l → (d : Option (List ℕ)) → Own (key l) d → PairAfter l (decide Delete l (deletion_for d) (held_for e d)) e d e (joined delete d l)
  unfolding decide covered deletion_for
  delete_pair a none o = let b = over_deleted_after l none (held_for e none) in (b.0 ∙ held_twice l e none tt, b.1)
  delete_pair a (some y) o =
      let v = own_version (key l) y o in
      pick_by (λ (t : Deed). PairAfter l t e (some y) e (joined delete (some y) l)) (leb (version l) (deletion_version (deletion y (version y)))) (Leave (Ok Outdated)) (over_deleted (version l) (held_for e (some y)))
      (λ t.
      let w : version l ≤ version y = omega (arith, v, leb-true (version l) (deletion_version (deletion y (version y))) t) in
      (joined_held l e y w, joined_deletion l a y o w))
      (λ t.
      let w : version y < version l = omega (arith, v, leb-false (version l) (deletion_version (deletion y (version y))) t) in
      let b = over_deleted_after l (some (deletion y (version y))) (held_for e (some y)) in
      (b.0 ∙ held_twice l e (some y) w ∙ sym (ap (held_for e) (joined_new l (some y) w)), b.1 ∙ sym (ap deletion_for (joined_new l (some y) w))))

-- ---- an LI line

-- the chosen link, if there is one, is an LI line
abbrev pub OwnLink : Option (List ℕ) → Type 0
OwnLink none = Unit {0}
OwnLink (some x) = kind x ≡ link

pub link_chosen : (o : Option (List ℕ)) (e : List ℕ) → link_for o ≡ some e → (x : List ℕ) × (o ≡ some x) × (e ≡ link_entry x)
unfolding link_for
link_chosen none e q = let z : ◌≡◌ {A = ℕ} 0 1 = cc in absurd (omega arith)
link_chosen (some x) e q = (x, refl, cc)

-- its triple after the line, where the chosen link says what stands there before
pub link_after_lem : (l : List ℕ) → kind l ≡ link → (o : Option (List ℕ)) → OwnLink o → link_after (over_link (link_entry l) (link_for o)) l (link_for o) ≡ link_for (joined link o l)
unfolding over_link link_for
link_after_lem l p none w = refl
link_after_lem l p (some x) w =
    let a = entry_version l (link_whole l p) in
    let b = entry_version x (link_whole x w) in
    pick_by (λ (e : Deed). link_after e l (some (link_entry x)) ≡ link_for (joined link (some x) l)) (ltb (link_version (link_entry l)) (link_version (link_entry x))) (Leave (Ok Outdated))
    (pick (same_bytes (link_entry l) (link_entry x)) (Leave (Ok Repeated)) (Link Replaced))
    (λ t. sym (ap link_for (later_above link x l (omega (arith, ltb-true (link_version (link_entry l)) (link_version (link_entry x)) t)))))
    (λ t.
    let e : joined link (some x) l ≡ some l = later_within link x l (omega (arith, ltb-false (link_version (link_entry l)) (link_version (link_entry x)) t)) in
    pick_by (λ (e : Deed). link_after e l (some (link_entry x)) ≡ link_for (joined link (some x) l)) (same_bytes (link_entry l) (link_entry x)) (Leave (Ok Repeated)) (Link Replaced)
    (λ s. ap some (sym (same_is (link_entry l) (link_entry x) s)) ∙ sym (ap link_for e)) (λ s. sym (ap link_for e)))
