-- The catalogue of a set of lines: the computed one is it, there is no other, and only the acceptable lines count. Demand 3, on catalogues.
use Prim.Native.Nat.{ℕ}
use mathlib.Core.Path.{◌≡◌, refl, sym, ◌∙◌, ap, subst}
use mathlib.Core.Logic.{◌↔◌}
use mathlib.Core.List.{List}
use mathlib.Core.Option.{Option, none, some}
use native.Mathlib.Omega.{arith}
use lib.Dec.{ltb}
use borrow.Author.Tests.{ltb-true, ltb-false}
use Rattle.catalogue.specs.Assoc.{find}
use Rattle.catalogue.specs.Line.{Kind, event, delete, blank, link, refused, kind, Acceptable, pair, version, key, deletion, deletion_key, triple, triple_key, wide_version, link_entry, link_key}
use Rattle.catalogue.specs.Catalogue.{Catalogue, empty}
use Rattle.catalogue.specs.Taking.{run}
use Rattle.catalogue.specs.FromSet.{Of, DeletionIs, HeldIs, LinkIs, IsCatalogueOf}
use Rattle.catalogue.specs.Lists.{Occurs, SameLines, Settled}
use Rattle.catalogue.specs.Last.{last_highest, deletion_for, held_for, link_for, last_catalogue}
use Rattle.catalogue.specs.Demand.{KeptBy, Kept}
use Rattle.catalogue.proofs.laws.assoc.Tests.{pick_by}
use Rattle.catalogue.proofs.laws.step.Line.{event_ok, delete_ok, blank_ok, key_inj, deletion_eq}
use Rattle.catalogue.proofs.laws.step.Link.{link_ok_lem, triple_inj}
use Rattle.catalogue.proofs.laws.demand.Highest.{HighestIs, highest_is}
use Rattle.catalogue.proofs.laws.demand.Follows.{found_ext, last_follows, run_last}

-- ---- the computed catalogue is that of the set

module _ (ls : List (List ℕ)) (k : ℕ) where
  deletion_from : (d : Option (List ℕ)) → HighestIs ls delete k d → DeletionIs (Occurs ls) k (deletion_for d)
  unfolding deletion_for
  deletion_from none h = h
  deletion_from (some d) h = (d, h.0, refl, h.1)

  held_from : (e d : Option (List ℕ)) → HighestIs ls event k e → HighestIs ls delete k d → HeldIs (Occurs ls) k (held_for e d)
  unfolding held_for
  held_from none d h g = λ (x : List ℕ) (o : Of (Occurs ls) event k x). absurd (h x o)
  held_from (some e) none h g = (h.0, h.1, λ (x : List ℕ) (o : Of (Occurs ls) delete k x). absurd (g x o))
  held_from (some e) (some d) h g =
      pick_by (HeldIs (Occurs ls) k) (ltb (version d) (version e)) (some e) none
      (λ t. (h.0, h.1, λ (x : List ℕ) (o : Of (Occurs ls) delete k x). omega (arith, g.1 x o, ltb-true (version d) (version e) t)))
      (λ t. λ (x : List ℕ) (o : Of (Occurs ls) event k x). (d, g.0, omega (arith, h.1 x o, ltb-false (version d) (version e) t)))

  link_from : (o : Option (List ℕ)) → HighestIs ls link k o → LinkIs (Occurs ls) k (link_for o)
  unfolding link_for
  link_from none h = h
  link_from (some l) h = (l, h.0, refl, h.1)

pub last_is : (ls : List (List ℕ)) → IsCatalogueOf (Occurs ls) (last_catalogue ls)
last_is ls =
    let F = last_follows ls in
    record {
      held_ascends = F.held_ascends;
      deletion_ascends = F.deletion_ascends;
      link_ascends = F.link_ascends;
      held_is =
          λ (k : ℕ). rw (F.held_found k) (held_from ls k (last_highest event k ls) (last_highest delete k ls) (highest_is ls event k) (highest_is ls delete k));
      deletion_is = λ (k : ℕ). rw (F.deletion_found k) (deletion_from ls k (last_highest delete k ls) (highest_is ls delete k));
      link_is = λ (k : ℕ). rw (F.link_found k) (link_from ls k (last_highest link k ls) (highest_is ls link k));
    }

-- ---- a set has one catalogue

module _ (S : List ℕ → Type 0) where
  deletion_one : (k : ℕ) (o p : Option (List ℕ)) → DeletionIs S k o → DeletionIs S k p → o ≡ p
  deletion_one k none none g h = refl
  deletion_one k none (some e) g h = absurd (g h.0 h.1)
  deletion_one k (some d) none g h = absurd (h g.0 g.1)
  deletion_one k (some d) (some e) g h =
      let v : version g.0 ≡ version h.0 = omega (arith, g.3 h.0 h.1, h.3 g.0 g.1) in
      let q : deletion g.0 (version h.0) ≡ deletion h.0 (version h.0) =
      deletion_eq g.0 h.0 (delete_ok g.0 g.1.is_kind) (delete_ok h.0 h.1.is_kind) (version h.0) (g.1.is_key ∙ sym h.1.is_key) in
      ap some (g.2 ∙ ap (deletion g.0) v ∙ q ∙ sym h.2)

  module _ (one : (x y : List ℕ) → S x → S y → kind x ≡ event → kind y ≡ event → pair x ≡ pair y → version x ≡ version y → x ≡ y) where
    held_one : (k : ℕ) (o p : Option (List ℕ)) → HeldIs S k o → HeldIs S k p → o ≡ p
    held_one k none none g h = refl
    held_one k none (some e) g h = let r = g e h.0 in absurd (omega (arith, r.2, h.2 r.0 r.1))
    held_one k (some d) none g h = let r = h d g.0 in absurd (omega (arith, r.2, g.2 r.0 r.1))
    held_one k (some d) (some e) g h =
        ap some
        (one d e g.0.inside h.0.inside g.0.is_kind h.0.is_kind
        (key_inj d e (event_ok d g.0.is_kind) (event_ok e h.0.is_kind) (g.0.is_key ∙ sym h.0.is_key))
        (omega (arith, g.1 e h.0, h.1 d g.0)))

    module _ (one_link : (x y : List ℕ) → S x → S y → kind x ≡ link → kind y ≡ link → triple x ≡ triple y → wide_version x ≡ wide_version y → x ≡ y) where
      link_one : (k : ℕ) (o p : Option (List ℕ)) → LinkIs S k o → LinkIs S k p → o ≡ p
      link_one k none none g h = refl
      link_one k none (some e) g h = absurd (g h.0 h.1)
      link_one k (some d) none g h = absurd (h g.0 g.1)
      link_one k (some d) (some e) g h =
          let x : List ℕ = g.0 in
          let y : List ℕ = h.0 in
          let q : x ≡ y =
          one_link x y g.1.inside h.1.inside g.1.is_kind h.1.is_kind (triple_inj x y g.1.is_kind h.1.is_kind (g.1.is_key ∙ sym h.1.is_key))
          (omega (arith, g.3 y h.1, h.3 x g.1)) in
          ap some (g.2 ∙ ap link_entry q ∙ sym h.2)

      pub unique : (c d : Catalogue) → IsCatalogueOf S c → IsCatalogueOf S d → c ≡ d
      unique c d I J =
          found_ext c d I.held_ascends J.held_ascends I.deletion_ascends J.deletion_ascends I.link_ascends J.link_ascends
          (λ (k : ℕ). held_one k (find key k c.held) (find key k d.held) (I.held_is k) (J.held_is k))
          (λ (k : ℕ). deletion_one k (find deletion_key k c.deletions) (find deletion_key k d.deletions) (I.deletion_is k) (J.deletion_is k))
          (λ (k : ℕ). link_one k (find link_key k c.links) (find link_key k d.links) (I.link_is k) (J.link_is k))

-- ---- only the acceptable lines count

carried : (S U : List ℕ → Type 0) → ((x : List ℕ) → Acceptable x → S x → U x) → {t : Kind} {k : ℕ} {x : List ℕ} → Acceptable x → Of S t k x → Of U t k x
carried S U f {x = x} a o = record { inside = f x a o.inside; is_kind = o.is_kind; is_key = o.is_key }

module _ (S U : List ℕ → Type 0) (same : (x : List ℕ) → Acceptable x → S x ↔ U x) where
  to : {t : Kind} {k : ℕ} {x : List ℕ} → Acceptable x → Of S t k x → Of U t k x
  to = carried S U (λ (x : List ℕ) (a : Acceptable x). (same x a).0)

  from_delete : {k : ℕ} (x : List ℕ) → Of U delete k x → Of S delete k x
  from_delete x o = carried U S (λ (x : List ℕ) (a : Acceptable x). (same x a).1) (delete_ok x o.is_kind) o

  from_event : {k : ℕ} (x : List ℕ) → Of U event k x → Of S event k x
  from_event x o = carried U S (λ (x : List ℕ) (a : Acceptable x). (same x a).1) (event_ok x o.is_kind) o

  from_link : {k : ℕ} (x : List ℕ) → Of U link k x → Of S link k x
  from_link x o = carried U S (λ (x : List ℕ) (a : Acceptable x). (same x a).1) (link_ok_lem x o.is_kind) o

  link_same : (k : ℕ) (o : Option (List ℕ)) → LinkIs S k o → LinkIs U k o
  link_same k none g = λ (x : List ℕ) (o : Of U link k x). g x (from_link x o)
  link_same k (some e) g = (g.0, to (link_ok_lem g.0 g.1.is_kind) g.1, g.2, λ (x : List ℕ) (o : Of U link k x). g.3 x (from_link x o))

  deletion_same : (k : ℕ) (o : Option (List ℕ)) → DeletionIs S k o → DeletionIs U k o
  deletion_same k none g = λ (x : List ℕ) (o : Of U delete k x). g x (from_delete x o)
  deletion_same k (some d) g = (g.0, to (delete_ok g.0 g.1.is_kind) g.1, g.2, λ (x : List ℕ) (o : Of U delete k x). g.3 x (from_delete x o))

  held_same : (k : ℕ) (o : Option (List ℕ)) → HeldIs S k o → HeldIs U k o
  held_same k none h = λ (x : List ℕ) (o : Of U event k x). let r = h x (from_event x o) in (r.0, to (delete_ok r.0 r.1.is_kind) r.1, r.2)
  held_same k (some e) h =
      (to (event_ok e h.0.is_kind) h.0, λ (x : List ℕ) (o : Of U event k x). h.1 x (from_event x o), λ (x : List ℕ) (o : Of U delete k x). h.2 x (from_delete x o))

  pub same_set : (c : Catalogue) → IsCatalogueOf S c → IsCatalogueOf U c
  same_set c I = record {
    held_ascends = I.held_ascends;
    deletion_ascends = I.deletion_ascends;
    link_ascends = I.link_ascends;
    held_is = λ (k : ℕ). held_same k (find key k c.held) (I.held_is k);
    deletion_is = λ (k : ℕ). deletion_same k (find deletion_key k c.deletions) (I.deletion_is k);
    link_is = λ (k : ℕ). link_same k (find link_key k c.links) (I.link_is k);
  }

-- and the premises speak of no others
pub settled_same : (ls ms : List (List ℕ)) → SameLines ls ms → Settled ls → Settled ms
settled_same ls ms e s = record {
  bounded = record {
    no_blank = λ (x : List ℕ) (m : Occurs ms x) (b : kind x ≡ blank). s.bounded.no_blank x ((e x (blank_ok x b)).1 m) b;
    pairs = s.bounded.pairs;
    few = s.bounded.few;
    named_there = λ (x : List ℕ) (m : Occurs ms x) (a : Acceptable x). s.bounded.named_there x ((e x a).1 m) a;
    triples = s.bounded.triples;
    few_triples = s.bounded.few_triples;
    triple_there = λ (x : List ℕ) (m : Occurs ms x) (p : kind x ≡ link). s.bounded.triple_there x ((e x (link_ok_lem x p)).1 m) p;
  };
  no_conflict =
      λ (x y : List ℕ) (m : Occurs ms x) (n : Occurs ms y) (p : kind x ≡ event) (q : kind y ≡ event).
      s.no_conflict x y ((e x (event_ok x p)).1 m) ((e y (event_ok y q)).1 n) p q;
  no_link_conflict =
      λ (x y : List ℕ) (m : Occurs ms x) (n : Occurs ms y) (p : kind x ≡ link) (q : kind y ≡ link).
      s.no_link_conflict x y ((e x (link_ok_lem x p)).1 m) ((e y (link_ok_lem y q)).1 n) p q;
}

-- ---- the laws

-- a pair or triple that an acceptable line names has an entry
pub kept : (S : List ℕ → Type 0) (c : Catalogue) → IsCatalogueOf S c → ((x : List ℕ) → S x → kind x ≡ blank → ⊥) → (l : List ℕ) → S l → Acceptable l → Kept c l
kept S c I b l m a = by_kind (kind l) refl
  where
    no_delete : find deletion_key (key l) c.deletions ≡ none → DeletionIs S (key l) none
    no_delete q = subst (DeletionIs S (key l)) q (I.deletion_is (key l))

    by_kind : (t : Kind) → kind l ≡ t → KeptBy t c l
    by_kind event e =
        λ (p : find key (key l) c.held ≡ none) (q : find deletion_key (key l) c.deletions ≡ none).
        let h : HeldIs S (key l) none = subst (HeldIs S (key l)) p (I.held_is (key l)) in
        let x = h l (record { inside = m; is_kind = e; is_key = refl }) in
        no_delete q x.0 x.1
    by_kind delete e =
        λ (p : find key (key l) c.held ≡ none) (q : find deletion_key (key l) c.deletions ≡ none). no_delete q l (record { inside = m; is_kind = e; is_key = refl })
    by_kind blank e = absurd (b l m e)
    by_kind link e =
        λ (p : find link_key (triple_key l) c.links ≡ none).
        let h : LinkIs S (triple_key l) none = subst (LinkIs S (triple_key l)) p (I.link_is (triple_key l)) in
        h l (record { inside = m; is_kind = e; is_key = refl })
    by_kind refused e = tt

-- whatever the order, the repeats and the refused lines
pub one_catalogue : (ls ms : List (List ℕ)) → SameLines ls ms → Settled ls
    → (run empty ls ≡ last_catalogue ls) × (run empty ms ≡ last_catalogue ls) × IsCatalogueOf (Occurs ls) (last_catalogue ls) × ((c : Catalogue) → IsCatalogueOf (Occurs ls) c → c ≡ last_catalogue ls)
one_catalogue ls ms e s =
    let only : (c : Catalogue) → IsCatalogueOf (Occurs ls) c → c ≡ last_catalogue ls =
    λ (c : Catalogue) (I : IsCatalogueOf (Occurs ls) c). unique (Occurs ls) s.no_conflict s.no_link_conflict c (last_catalogue ls) I (last_is ls) in
    let J : IsCatalogueOf (Occurs ls) (last_catalogue ms) =
    same_set (Occurs ms) (Occurs ls) (λ (x : List ℕ) (a : Acceptable x). ((e x a).1, (e x a).0)) (last_catalogue ms) (last_is ms) in
    (run_last ls s.bounded, run_last ms (settled_same ls ms e s).bounded ∙ only (last_catalogue ms) J, last_is ls, only)
