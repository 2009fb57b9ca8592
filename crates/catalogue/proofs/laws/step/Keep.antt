-- Taking a line keeps a catalogue in order, whatever the line is.
use Prim.Native.Nat.{ℕ, ◌<◌, zero-le}
use mathlib.Core.Path.{◌≡◌, refl, sym, ◌∙◌, ap, subst}
use mathlib.Core.Logic.{inl, inr}
use mathlib.Core.Bool.{true}
use mathlib.Core.List.{List}
use mathlib.Core.Option.{Option, none, some}
use native.Mathlib.Omega.{arith}
use Rattle.catalogue.specs.Answers.{Deed}
use Rattle.catalogue.specs.declared.Effect.{Effect}
use Rattle.catalogue.specs.declared.decide.Deed.TheVariants.{Leave, Hold, Note, Wipe, Link}
use Rattle.catalogue.specs.Assoc.{find, put, remove, AscFrom}
use Rattle.catalogue.specs.Line.{event, kind, version, key, deletion, deletion_key, deletion_version, triple_key, link_entry, link_key}
use Rattle.catalogue.specs.Catalogue.{Catalogue, with_held, with_links, named}
use Rattle.catalogue.specs.Good.{deletion_ok, link_ok}
use Rattle.catalogue.specs.Taking.{done, deed_of, step}
use Rattle.catalogue.proofs.laws.assoc.Tri.{eq, ne, eq?}
use Rattle.catalogue.proofs.laws.assoc.Assoc.{find_put_same, find_put_other, find_remove_same, find_remove_other, put_asc, put_length, put_length_found, remove_asc}
use Rattle.catalogue.proofs.laws.step.Line.{whole, event_ok, deletion_version_lem, deletion_ok_lem}
use Rattle.catalogue.proofs.laws.step.Link.{link_whole, entry_key, entry_ok}
use Rattle.catalogue.proofs.laws.step.Names.{Names, held_named, named_one_more, named_no_more}
use Rattle.catalogue.proofs.laws.step.Good.{Good}
use Rattle.catalogue.proofs.laws.step.Fair.{Roomy, Links, Fair, deed_fair}
use Rattle.catalogue.proofs.laws.step.Done.{held_after, deletion_after, done_held, done_held_other, done_held_ascends, done_deletion, done_deletion_other, done_deletion_ascends}

-- what is asked of a pair's held line, and of its deletion
abbrev pub PairFine : Option (List ℕ) → Option (List ℕ) → Type 0
PairFine h d = ((x : List ℕ) → h ≡ some x → (kind x ≡ event) × ((y : List ℕ) → d ≡ some y → deletion_version y < version x)) × ((y : List ℕ) → d ≡ some y → deletion_ok y ≡ true)

-- a catalogue that differs from c at one pair's key at most, and has its links
pub rebuild : (c : Catalogue) → Good c → (k : ℕ) (d : Catalogue) → AscFrom key 0 d.held → AscFrom deletion_key 0 d.deletions
    → ((z : ℕ) → (k ≡ z → ⊥) → find key z d.held ≡ find key z c.held)
    → ((z : ℕ) → (k ≡ z → ⊥) → find deletion_key z d.deletions ≡ find deletion_key z c.deletions)
    → PairFine (find key k d.held) (find deletion_key k d.deletions) → Roomy c k → d.links ≡ c.links → Good d
rebuild c G k d s t f g fine room links = record {
  held_ascends = s;
  deletion_ascends = t;
  held_fine = λ (z : ℕ). (at_key z).0;
  deletion_fine = λ (z : ℕ). (at_key z).1;
  few = elim room [
    | inl r ↦ omega (arith, named_one_more c d s t k same)
    | inr n ↦ omega (arith, named_no_more c d s t k same (λ (u : Names d k). n), G.few)
  ];
  link_ascends = rw links G.link_ascends;
  link_fine = rw links G.link_fine;
  few_links = rw links G.few_links;
}
  where
    at_key : (z : ℕ) → PairFine (find key z d.held) (find deletion_key z d.deletions)
    at_key z =
        elim (eq? k z) [
          | eq e ↦ subst (λ (j : ℕ). PairFine (find key j d.held) (find deletion_key j d.deletions)) e fine
          | ne n ↦ rw (f z n, g z n) (G.held_fine z, G.deletion_fine z)
        ]

    same : (z : ℕ) → (k ≡ z → ⊥) → Names d z → Names c z
    same z n u p q = u (g z n ∙ p) (f z n ∙ q)

module _ (c : Catalogue) (G : Good c) (l : List ℕ) where
  -- the pair after a deed
  after_fine : (e : Deed) → Fair c l e → PairFine (held_after e l (find key (key l) c.held)) (deletion_after e l (find deletion_key (key l) c.deletions))
  after_fine (Leave n) f = (G.held_fine (key l), G.deletion_fine (key l))
  after_fine (Hold n) f = (
    λ (x : List ℕ) (p : some l ≡ some x).
        let u : l ≡ x = cc in
        (ap kind (sym u) ∙ f.is_event_lem, λ (y : List ℕ) (q : find deletion_key (key l) c.deletions ≡ some y). omega (arith, f.above y q, ap version u)),
    G.deletion_fine (key l),
  )
  after_fine (Note v) f = (
    λ (x : List ℕ) (p : find key (key l) c.held ≡ some x). (
      (G.held_fine (key l) x p).0,
      λ (y : List ℕ) (q : some (deletion l v) ≡ some y).
          let u : deletion l v ≡ y = cc in omega (arith, f.under x p, ap deletion_version u, deletion_version_lem l v (whole l f.acceptable).long),
    ),
    λ (y : List ℕ) (q : some (deletion l v) ≡ some y). let u : deletion l v ≡ y = cc in ap deletion_ok (sym u ∙ ap (deletion l) f.own) ∙ deletion_ok_lem l l f.acceptable f.acceptable,
  )
  after_fine (Wipe v) f = (
    λ (x : List ℕ) (p : none ≡ some x). let z : ◌≡◌ {A = ℕ} 0 1 = cc in absurd (omega arith),
    λ (y : List ℕ) (q : some (deletion l v) ≡ some y). let u : deletion l v ≡ y = cc in ap deletion_ok (sym u) ∙ elim f.version_of [
      | inl e ↦ ap (λ (w : ℕ). deletion_ok (deletion l w)) e ∙ deletion_ok_lem l l f.acceptable f.acceptable
      | inr e ↦
          ap (λ (w : ℕ). deletion_ok (deletion l w)) e ∙ deletion_ok_lem l f.gone f.acceptable (event_ok f.gone (G.held_fine (key l) f.gone f.is_held).0)
    ],
  )
  after_fine (Link n) f = (G.held_fine (key l), G.deletion_fine (key l))

  changed_good : (e : Deed) → Fair c l e → Roomy c (key l) → (done e c l).after.links ≡ c.links → Good (done e c l).after
  changed_good e f room links =
      rebuild c G (key l) (done e c l).after (done_held_ascends c l e G.held_ascends) (done_deletion_ascends c l e G.deletion_ascends)
      (done_held_other c l e) (done_deletion_other c l e f) (rw (done_held c l e, done_deletion c l e f) (after_fine e f)) room links

  -- a link stored
  linked_good : {n : Effect} → Links c l n → Good (with_links c (put link_key (link_entry l) c.links))
  unfolding named
  linked_good f =
      let ks : List (List ℕ) = put link_key (link_entry l) c.links in
      let at : link_key (link_entry l) ≡ triple_key l = entry_key l (link_whole l f.is_link_lem) in
      record {
        held_ascends = G.held_ascends;
        deletion_ascends = G.deletion_ascends;
        held_fine = G.held_fine;
        deletion_fine = G.deletion_fine;
        few = G.few;
        link_ascends = put_asc link_key (link_entry l) c.links 0 zero-le G.link_ascends;
        link_fine = λ (k : ℕ) (e : List ℕ) (q : find link_key k ks ≡ some e). elim (eq? (triple_key l) k) [
          | eq u ↦
              let r : link_entry l ≡ e = cc (find_put_same link_key (link_entry l) c.links k (at ∙ u)) in
              ap link_ok (sym r) ∙ entry_ok l f.is_link_lem
          | ne u ↦ G.link_fine k e (sym (find_put_other link_key (link_entry l) c.links k (λ (v : link_key (link_entry l) ≡ k). u (sym at ∙ v))) ∙ q)
        ];
        few_links = elim f.room [
          | inl h ↦ omega (arith, put_length link_key (link_entry l) c.links)
          | inr r ↦
              omega (arith, put_length_found link_key (link_entry l) c.links 0 r.0 G.link_ascends (ap (λ (k : ℕ). find link_key k c.links) at ∙ r.1), G.few_links)
        ];
      }

  done_good : (e : Deed) → Fair c l e → Good (done e c l).after
  unfolding done
  done_good (Leave n) f = G
  done_good (Hold n) f = changed_good (Hold n) f f.room refl
  done_good (Note v) f = changed_good (Note v) f f.room refl
  done_good (Wipe v) f = changed_good (Wipe v) f (inr (held_named c (key l) f.gone f.is_held)) refl
  done_good (Link n) f = linked_good f

  pub step_good : Good (step c l).after
  unfolding step
  step_good = done_good (deed_of c l) (deed_fair c l)

-- a held line is removed: the catalogue between the two moves of a Wipe
pub removed_good : (c : Catalogue) → Good c → (k : ℕ) (h : List ℕ) → find key k c.held ≡ some h → Good (with_held c (remove key k c.held))
removed_good c G k h e =
    rebuild c G k (with_held c (remove key k c.held)) (remove_asc key k c.held 0 G.held_ascends) G.deletion_ascends
    (λ (z : ℕ) (q : k ≡ z → ⊥). find_remove_other key k z c.held q) (λ (z : ℕ) (q : k ≡ z → ⊥). refl) (
      λ (x : List ℕ) (p : find key k (remove key k c.held) ≡ some x). let z : ◌≡◌ {A = ℕ} 0 1 = cc (find_remove_same key k c.held) in absurd (omega arith),
      G.deletion_fine k,
    )
    (inr (held_named c k h e)) refl
