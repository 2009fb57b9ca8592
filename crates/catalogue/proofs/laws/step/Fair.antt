-- What is true of the deed of a line, by the deed.
use Prim.Native.Nat.{ℕ, ◌<◌}
use mathlib.Core.Path.{◌≡◌, refl, sym, ◌∙◌, ap}
use mathlib.Core.Logic.{◌⊎◌, inl, inr}
use mathlib.Core.Bool.{false}
use mathlib.Core.List.{List}
use mathlib.Core.Option.{Option, none, some}
use native.Mathlib.Omega.{arith}
use lib.Dec.{ltb, leb}
use lib.ListN.{length}
use borrow.Author.Tests.{leb-false}
use Rattle.columns.specs.Answer.{pick}
use Rattle.columns.specs.Bytes.{same_bytes}
use Rattle.catalogue.specs.Answers.{Deed, links_full, declined_as}
use Rattle.catalogue.specs.declared.decide.Deed.TheVariants.{Leave, Hold, Note, Wipe, Link}
use Rattle.catalogue.specs.declared.decide.Notice.{Notice}
use Rattle.catalogue.specs.declared.decide.Notice.TheVariants.{Event, Delete, Blank}
use Rattle.std.specs.Prelude.{Ok}
use Rattle.catalogue.specs.declared.Effect.{Effect}
use Rattle.catalogue.specs.declared.Effect.TheVariants.{Stored, Replaced, Repeated, Outdated}
use Rattle.catalogue.specs.Assoc.{find}
use Rattle.catalogue.specs.Line.{Kind, event, delete, blank, link, refused, kind, Acceptable, version, key, deletion_key, deletion_version, triple_key, link_entry, link_key, link_version}
use Rattle.catalogue.specs.Catalogue.{Catalogue, named}
use Rattle.catalogue.specs.Taking.{covered, over_held, over_deleted, over_blank, decide, declined, limited, pair_deed, over_link, limited_link, link_deed, deed_of}
use Rattle.catalogue.specs.Findings.{notice_kind}
use Rattle.catalogue.proofs.laws.assoc.Tests.{pick_by}
use Rattle.catalogue.proofs.laws.step.Line.{delete_ok, blank_ok}
use Rattle.catalogue.proofs.laws.step.Names.{Names, held_named, deletion_named}
use Rattle.catalogue.proofs.laws.step.Decide.{deed_pair, deed_link, deed_refused}

-- the pair finds room
abbrev pub Roomy : Catalogue → ℕ → Type 0
Roomy c k = (named c < 512) ⊎ Names c k

-- an E line is held: the answer is 20 or 21, and its version is above the deleted one
pub record Holds (c : Catalogue) (l : List ℕ) (n : Effect) : Type 0 where
  pub answers : (n ≡ Stored) ⊎ (n ≡ Replaced)
  pub is_event_lem : kind l ≡ event
  pub above : (d : List ℕ) → find deletion_key (key l) c.deletions ≡ some d → deletion_version d < version l
  pub room : Roomy c (key l)

-- the deletion becomes the line's version, and a held line is above it
pub record Notes (c : Catalogue) (l : List ℕ) (v : ℕ) : Type 0 where
  pub acceptable : Acceptable l
  pub about_pair : kind l ≡ link → ⊥
  pub own : v ≡ version l
  pub under : (h : List ℕ) → find key (key l) c.held ≡ some h → v < version h
  pub room : Roomy c (key l)

-- a held line goes, and the deletion becomes the line's version or the held one's
pub record Wipes (c : Catalogue) (l : List ℕ) (v : ℕ) : Type 0 where
  pub acceptable : Acceptable l
  pub about_pair : kind l ≡ link → ⊥
  pub gone : List ℕ
  pub is_held : find key (key l) c.held ≡ some gone
  pub version_of : (v ≡ version l) ⊎ (v ≡ version gone)

-- an LI line is stored: the answer is 20 or 21, and there is room for it
pub record Links (c : Catalogue) (l : List ℕ) (n : Effect) : Type 0 where
  pub answers : (n ≡ Stored) ⊎ (n ≡ Replaced)
  pub is_link_lem : kind l ≡ link
  pub room : (length c.links < 64) ⊎ ((e : List ℕ) × (find link_key (triple_key l) c.links ≡ some e))

abbrev pub Fair : Catalogue → List ℕ → Deed → Type 0
Fair c l (Leave n) = Unit {0}
Fair c l (Hold n) = Holds c l n
Fair c l (Note v) = Notes c l v
Fair c l (Wipe v) = Wipes c l v
Fair c l (Link n) = Links c l n

declined_fair : (c : Catalogue) (l : List ℕ) (e : Deed) → Fair c l (declined e)
unfolding declined
declined_fair c l (Leave n) = tt
declined_fair c l (Hold n) = tt
declined_fair c l (Note v) = tt
declined_fair c l (Wipe v) = tt
declined_fair c l (Link n) = tt

-- a DE line is no link
delete_apart : (l : List ℕ) → kind l ≡ delete → kind l ≡ link → ⊥
delete_apart l p q = let z : ◌≡◌ {A = ℕ} 0 1 = cc in omega arith

blank_apart : (l : List ℕ) → kind l ≡ blank → kind l ≡ link → ⊥
blank_apart l p q = let z : ◌≡◌ {A = ℕ} 0 1 = cc in omega arith

covered_false : (o : Option (List ℕ)) (v : ℕ) → covered o v ≡ false → (d : List ℕ) → o ≡ some d → deletion_version d < v
unfolding covered
covered_false none v e d q = let z : ◌≡◌ {A = ℕ} 0 1 = cc in absurd (omega arith)
covered_false (some x) v e d q = let u : x ≡ d = cc in omega (arith, leb-false v (deletion_version x) e, ap deletion_version u)

module _ (c : Catalogue) (l : List ℕ) where
  limited_fair : (d h : Option (List ℕ)) → find deletion_key (key l) c.deletions ≡ d → find key (key l) c.held ≡ h → (e : Deed) → (Roomy c (key l) → Fair c l e)
      → Fair c l (limited (named c) d h e)
  unfolding limited
  limited_fair none none p q e f = pick_by (Fair c l) (leb 512 (named c)) (declined e) e (λ t. declined_fair c l e) (λ t. f (inl (leb-false 512 (named c) t)))
  limited_fair none (some h) p q e f = f (inr (held_named c (key l) h q))
  limited_fair (some d) h p q e f = f (inr (deletion_named c (key l) d p))

  module _ (room : Roomy c (key l)) where
    held_fair : kind l ≡ event → ((d : List ℕ) → find deletion_key (key l) c.deletions ≡ some d → deletion_version d < version l) → (h : Option (List ℕ)) → Fair c l (over_held l h)
    unfolding over_held
    held_fair p f none = record { answers = inl refl; is_event_lem = p; above = f; room = room }
    held_fair p f (some h) =
        pick_by (Fair c l) (ltb (version l) (version h)) (Leave (Ok Outdated)) (pick (same_bytes l h) (Leave (Ok Repeated)) (Hold Replaced)) (λ t. tt)
        (λ t. pick_by (Fair c l) (same_bytes l h) (Leave (Ok Repeated)) (Hold Replaced) (λ u. tt) (λ u. record { answers = inr refl; is_event_lem = p; above = f; room = room }))

    deleted_fair : kind l ≡ delete → (h : Option (List ℕ)) → find key (key l) c.held ≡ h → Fair c l (over_deleted (version l) h)
    unfolding over_deleted
    deleted_fair p none q = record {
      acceptable = delete_ok l p;
      about_pair = delete_apart l p;
      own = refl;
      under = λ (x : List ℕ) (r : find key (key l) c.held ≡ some x). let z : ◌≡◌ {A = ℕ} 0 1 = cc in absurd (omega arith);
      room = room;
    }
    deleted_fair p (some h) q =
        pick_by (Fair c l) (leb (version h) (version l)) (Wipe (version l)) (Note (version l)) (λ t. record { acceptable = delete_ok l p; about_pair = delete_apart l p; gone = h; is_held = q; version_of = inl refl })
        (λ t. record {
          acceptable = delete_ok l p;
          about_pair = delete_apart l p;
          own = refl;
          under = λ (x : List ℕ) (r : find key (key l) c.held ≡ some x). let u : h ≡ x = cc in omega (arith, leb-false (version h) (version l) t, ap version u);
          room = room;
        })

    decide_fair : (t : Notice) → kind l ≡ notice_kind t → (d h : Option (List ℕ)) → find deletion_key (key l) c.deletions ≡ d → find key (key l) c.held ≡ h → Fair c l (decide t l d h)
    unfolding decide over_blank
    decide_fair Event p d h q r =
        pick_by (Fair c l) (covered d (version l)) (Leave (Ok Outdated)) (over_held l h) (λ t. tt)
        (λ t. held_fair p (λ (x : List ℕ) (u : find deletion_key (key l) c.deletions ≡ some x). covered_false d (version l) t x (sym q ∙ u)) h)
    decide_fair Delete p d h q r = pick_by (Fair c l) (covered d (version l)) (Leave (Ok Outdated)) (over_deleted (version l) h) (λ t. tt) (λ t. deleted_fair p h r)
    decide_fair Blank p d none q r = tt
    decide_fair Blank p d (some h) q r = record { acceptable = blank_ok l p; about_pair = blank_apart l p; gone = h; is_held = r; version_of = inr refl }

  pair_fair : (t : Notice) → kind l ≡ notice_kind t → Fair c l (pair_deed t c l)
  unfolding pair_deed
  pair_fair t p =
      limited_fair (find deletion_key (key l) c.deletions) (find key (key l) c.held) refl refl
      (decide t l (find deletion_key (key l) c.deletions) (find key (key l) c.held))
      (λ (room : Roomy c (key l)). decide_fair room t p (find deletion_key (key l) c.deletions) (find key (key l) c.held) refl refl)

  limited_link_fair : kind l ≡ link → (o : Option (List ℕ)) → find link_key (triple_key l) c.links ≡ o → Fair c l (limited_link (length c.links) o (over_link (link_entry l) o))
  unfolding limited_link over_link
  limited_link_fair p none q =
      pick_by (Fair c l) (leb 64 (length c.links)) (Leave (declined_as links_full)) (Link Stored) (λ t. tt)
      (λ t. record { answers = inl refl; is_link_lem = p; room = inl (leb-false 64 (length c.links) t) })
  limited_link_fair p (some x) q =
      pick_by (Fair c l) (ltb (link_version (link_entry l)) (link_version x)) (Leave (Ok Outdated)) (pick (same_bytes (link_entry l) x) (Leave (Ok Repeated)) (Link Replaced)) (λ t. tt)
      (λ t. pick_by (Fair c l) (same_bytes (link_entry l) x) (Leave (Ok Repeated)) (Link Replaced) (λ u. tt) (λ u. record { answers = inr refl; is_link_lem = p; room = inr (x, q) }))

  pub deed_fair : Fair c l (deed_of c l)
  unfolding link_deed
  deed_fair = by_kind (kind l) refl
    where
      by_kind : (t : Kind) → kind l ≡ t → Fair c l (deed_of c l)
      by_kind event p = rw (deed_pair c l Event p) (pair_fair Event p)
      by_kind delete p = rw (deed_pair c l Delete p) (pair_fair Delete p)
      by_kind blank p = rw (deed_pair c l Blank p) (pair_fair Blank p)
      by_kind link p = rw (deed_link c l p) (limited_link_fair p (find link_key (triple_key l) c.links) refl)
      by_kind refused p = rw (deed_refused c l p) tt
