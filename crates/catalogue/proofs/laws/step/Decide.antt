-- The deed of a line, by what is found of its pair: one equation for each branch.
use Prim.Native.Nat.{ℕ, ◌<◌}
use mathlib.Core.Path.{◌≡◌, refl, ◌∙◌}
use mathlib.Core.List.{List}
use mathlib.Core.Option.{Option, none, some}
use native.Mathlib.Omega.{arith}
use lib.Dec.{ltb}
use Rattle.columns.specs.Answer.{pick}
use borrow.Author.Tests.{lt-ltb, le-leb, lt-leb}
use Rattle.formats.specs.Cube.{read_line}
use Rattle.columns.specs.Bytes.{same_bytes}
use Rattle.catalogue.specs.Answers.{Deed}
use Rattle.catalogue.specs.declared.decide.Deed.{Deed as DeedOf}
use Rattle.catalogue.specs.declared.decide.Deed.TheVariants.{Leave, Hold, Note, Wipe, Link}
use Rattle.catalogue.specs.declared.decide.Notice.{Notice}
use Rattle.catalogue.specs.declared.decide.Notice.TheVariants.{Event, Delete, Blank}
use Rattle.std.specs.Prelude.{Ok, Err}
use Rattle.catalogue.specs.declared.Effect.TheVariants.{Replaced, Repeated, Outdated}
use Rattle.catalogue.specs.Assoc.{find}
use Rattle.catalogue.specs.Line.{event, link, refused, kind, refusal_in, version, key, deletion_key, deletion_version}
use Rattle.catalogue.specs.Catalogue.{Catalogue, named}
use Rattle.catalogue.specs.Taking.{covered, over_held, decide, limited, pair_deed, limited_link, link_deed, deed_of}
use Rattle.catalogue.specs.Findings.{notice_kind}
use Rattle.catalogue.proofs.laws.assoc.Tri.{le, gt, le?}
use Rattle.catalogue.proofs.laws.assoc.Tests.{pick_by}
use Rattle.catalogue.proofs.laws.step.Good.{Good}

-- an E line never deletes
abbrev pub Plain : Deed → Type 0
Plain (Leave n) = Unit {0}
Plain (Hold n) = Unit {0}
Plain (Note v) = ⊥
Plain (Wipe v) = ⊥
Plain (Link n) = ⊥

pub over_held_plain : (l : List ℕ) (o : Option (List ℕ)) → Plain (over_held l o)
unfolding over_held
over_held_plain l none = tt
over_held_plain l (some h) =
    pick_by Plain (ltb (version l) (version h)) (Leave (Ok Outdated)) (pick (same_bytes l h) (Leave (Ok Repeated)) (Hold Replaced)) (λ b. tt)
    (λ b. pick_by Plain (same_bytes l h) (Leave (Ok Repeated)) (Hold Replaced) (λ t. tt) (λ t. tt))

-- a pair that is known, or finds room
pub limited_open : {E : Type 0} (n : ℕ) (e : DeedOf E) (d h : Option (List ℕ)) → (d ≡ none → h ≡ none → n < 512) → limited n d h e ≡ e
unfolding limited
limited_open n e none none f = rw (lt-leb 512 n (f refl refl))
limited_open n e none (some h) f = refl
limited_open n e (some d) h f = refl

pub limited_link_open : {E : Type 0} (n : ℕ) (e : DeedOf E) (o : Option (List ℕ)) → (o ≡ none → n < 64) → limited_link n o e ≡ e
unfolding limited_link
limited_link_open n e none f = rw (lt-leb 64 n (f refl))
limited_link_open n e (some x) f = refl

-- ---- the deed

module _ (c : Catalogue) (l : List ℕ) where
  -- an E or a DE line
  pub deed_pair : (t : Notice) → kind l ≡ notice_kind t → deed_of c l ≡ pair_deed t c l
  unfolding deed_of
  deed_pair Event p = rw p
  deed_pair Delete p = rw p
  deed_pair Blank p = rw p

  pub deed_of_lem : (t : Notice) (d h : Option (List ℕ)) → kind l ≡ notice_kind t → find deletion_key (key l) c.deletions ≡ d → find key (key l) c.held ≡ h
      → deed_of c l ≡ limited (named c) d h (decide t l d h)
  unfolding pair_deed
  deed_of_lem t d h p q r = deed_pair t p ∙ rw (q, r)

  pub deed_link : kind l ≡ link → deed_of c l ≡ link_deed c l
  unfolding deed_of
  deed_link p = rw p

  pub deed_refused : kind l ≡ refused → deed_of c l ≡ Leave (Err (refusal_in (read_line l)))
  unfolding deed_of
  deed_refused p = rw p

  -- a held version is above its deletion, so the deletions need no look
  pub held_decides : Good c → (h : List ℕ) → kind l ≡ event → find key (key l) c.held ≡ some h → deed_of c l ≡ over_held l (some h)
  unfolding limited decide covered over_held
  held_decides G h p r = go (find deletion_key (key l) c.deletions) refl
    where
      go : (d : Option (List ℕ)) → find deletion_key (key l) c.deletions ≡ d → deed_of c l ≡ over_held l (some h)
      go none q = deed_of_lem Event none (some h) p q r
      go (some d) q =
          deed_of_lem Event (some d) (some h) p q r
          ∙ elim (le? (version l) (deletion_version d)) [
            | le v ↦ rw (le-leb (version l) (deletion_version d) v, lt-ltb (version l) (version h) (omega (arith, (G.held_fine (key l) h r).1 d q)))
            | gt v ↦ rw (lt-leb (version l) (deletion_version d) v)
          ]
