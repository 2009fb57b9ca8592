-- A catalogue in order: document 01's test, and what it says of what is found.
use Prim.Native.Nat.{ℕ, ◌≤◌, ◌<◌}
use mathlib.Core.Path.{◌≡◌, refl, ◌∙◌, ap}
use mathlib.Core.Bool.{true, ◌&&◌}
use mathlib.Core.List.{List, [], map, Memᴰ}
use mathlib.Core.Option.{Option, none, some}
use native.Mathlib.Omega.{arith}
use lib.Dec.{leb, eqb}
use lib.ListN.{length, length-map}
use borrow.Author.Tests.{ltb-true, leb-true, eqb-true, le-leb, lt-ltb}
use Rattle.columns.specs.Bytes.{barred}
use Rattle.catalogue.specs.Assoc.{find, AscFrom}
use Rattle.catalogue.specs.Line.{Kind, event, delete, blank, link, refused, kind, version, key, deletion_key, deletion_version, link_key}
use Rattle.catalogue.specs.Catalogue.{Catalogue, empty, parts, only_held, named}
use Rattle.catalogue.specs.Good.{ascends, every, is_event, above_deletion, held_ok, deletion_ok, link_ok, good_pairs, good_links, good}
use Rattle.catalogue.proofs.laws.assoc.Assoc.{find_key}
use Rattle.catalogue.proofs.laws.assoc.Distinct.{pigeon}
use Rattle.catalogue.proofs.laws.assoc.Members.{keys_distinct, found, found_self}
use Rattle.catalogue.proofs.laws.assoc.Tests.{and_both, asc_of, ascends_true, every_true, every_find}
use Rattle.catalogue.proofs.laws.section.Wide.{Fits, wide}
use Rattle.catalogue.proofs.laws.step.Line.{event_length}
use Rattle.catalogue.proofs.laws.step.Link.{ok_wide}
use Rattle.catalogue.proofs.laws.step.Names.{names, names_length, names_mem}

pub record Good (c : Catalogue) : Type 0 where
  pub held_ascends : AscFrom key 0 c.held
  pub deletion_ascends : AscFrom deletion_key 0 c.deletions
  pub held_fine : (k : ℕ) (h : List ℕ) → find key k c.held ≡ some h
      → (kind h ≡ event) × ((d : List ℕ) → find deletion_key k c.deletions ≡ some d → deletion_version d < version h)
  pub deletion_fine : (k : ℕ) (d : List ℕ) → find deletion_key k c.deletions ≡ some d → deletion_ok d ≡ true
  pub few : named c ≤ 512
  pub link_ascends : AscFrom link_key 0 c.links
  pub link_fine : (k : ℕ) (e : List ℕ) → find link_key k c.links ≡ some e → link_ok e ≡ true
  pub few_links : length c.links ≤ 64

-- ---- the test, taken apart and put together

event_of : (t : Kind) → is_event t ≡ true → t ≡ event
unfolding is_event
event_of event h = refl
event_of delete h = let z : ◌≡◌ {A = ℕ} 0 1 = cc in absurd (omega arith)
event_of blank h = let z : ◌≡◌ {A = ℕ} 0 1 = cc in absurd (omega arith)
event_of link h = let z : ◌≡◌ {A = ℕ} 0 1 = cc in absurd (omega arith)
event_of refused h = let z : ◌≡◌ {A = ℕ} 0 1 = cc in absurd (omega arith)

above_of : (o : Option (List ℕ)) (h : List ℕ) → above_deletion o h ≡ true → (d : List ℕ) → o ≡ some d → deletion_version d < version h
unfolding above_deletion
above_of none h e d q = let z : ◌≡◌ {A = ℕ} 0 1 = cc in absurd (omega arith)
above_of (some x) h e d q = let u : x ≡ d = cc in omega (arith, ltb-true (deletion_version x) (version h) e, ap deletion_version u)

above_true : (o : Option (List ℕ)) (h : List ℕ) → ((d : List ℕ) → o ≡ some d → deletion_version d < version h) → above_deletion o h ≡ true
unfolding above_deletion
above_true none h f = refl
above_true (some d) h f = lt-ltb (deletion_version d) (version h) (f d refl)

module _ (deletions : List (List ℕ)) (h : List ℕ) where
  held_ok_parts : (k : ℕ) → key h ≡ k → held_ok deletions h ≡ true → (kind h ≡ event) × ((d : List ℕ) → find deletion_key k deletions ≡ some d → deletion_version d < version h)
  unfolding held_ok
  held_ok_parts k e o =
      let r = and_both (is_event (kind h)) (above_deletion (find deletion_key (key h) deletions) h) o in
      (event_of (kind h) r.0, λ (d : List ℕ) (q : find deletion_key k deletions ≡ some d). above_of (find deletion_key (key h) deletions) h r.1 d (ap (λ (j : ℕ). find deletion_key j deletions) e ∙ q))

  held_ok_join : kind h ≡ event → ((d : List ℕ) → find deletion_key (key h) deletions ≡ some d → deletion_version d < version h) → held_ok deletions h ≡ true
  unfolding held_ok is_event
  held_ok_join e f = simp (e, above_true (find deletion_key (key h) deletions) h f)

-- the eight tests
pub record Tests (c : Catalogue) : Type 0 where
  pub held_ascends : ascends key 0 c.held ≡ true
  pub deletions_ascend : ascends deletion_key 0 c.deletions ≡ true
  pub held_fine : every (held_ok c.deletions) c.held ≡ true
  pub deletions_fine : every deletion_ok c.deletions ≡ true
  pub few_named : named c ≤ 512
  pub links_ascend : ascends link_key 0 c.links ≡ true
  pub links_fine : every link_ok c.links ≡ true
  pub few_links : length c.links ≤ 64

pub tests_of : (c : Catalogue) → good c ≡ true → Tests c
unfolding good good_pairs good_links
tests_of c g =
    let p = and_both (good_pairs c) (good_links c.links) g in
    let r = and_both (ascends key 0 c.held && ascends deletion_key 0 c.deletions) ((every (held_ok c.deletions) c.held && every deletion_ok c.deletions) && leb (named c) 512) p.0 in
    let a = and_both (ascends key 0 c.held) (ascends deletion_key 0 c.deletions) r.0 in
    let s = and_both (every (held_ok c.deletions) c.held && every deletion_ok c.deletions) (leb (named c) 512) r.1 in
    let e = and_both (every (held_ok c.deletions) c.held) (every deletion_ok c.deletions) s.0 in
    let k = and_both (ascends link_key 0 c.links) (every link_ok c.links && leb (length c.links) 64) p.1 in
    let m = and_both (every link_ok c.links) (leb (length c.links) 64) k.1 in
    record {
      held_ascends = a.0;
      deletions_ascend = a.1;
      held_fine = e.0;
      deletions_fine = e.1;
      few_named = leb-true (named c) 512 s.1;
      links_ascend = k.0;
      links_fine = m.0;
      few_links = leb-true (length c.links) 64 m.1;
    }

pub tests_good : (c : Catalogue) → Tests c → good c ≡ true
unfolding good good_pairs good_links
tests_good c t =
    simp (t.held_ascends, t.deletions_ascend, t.held_fine, t.deletions_fine, le-leb (named c) 512 t.few_named, t.links_ascend, t.links_fine, le-leb (length c.links) 64 t.few_links)

pub good_of : (c : Catalogue) → good c ≡ true → Good c
good_of c g =
    let t = tests_of c g in
    record {
      held_ascends = asc_of key 0 c.held t.held_ascends;
      deletion_ascends = asc_of deletion_key 0 c.deletions t.deletions_ascend;
      held_fine =
          λ (k : ℕ) (h : List ℕ) (q : find key k c.held ≡ some h).
          held_ok_parts c.deletions h k (find_key key c.held k h q) (every_find (held_ok c.deletions) key c.held k h t.held_fine q);
      deletion_fine = λ (k : ℕ) (d : List ℕ) (q : find deletion_key k c.deletions ≡ some d). every_find deletion_ok deletion_key c.deletions k d t.deletions_fine q;
      few = t.few_named;
      link_ascends = asc_of link_key 0 c.links t.links_ascend;
      link_fine = λ (k : ℕ) (e : List ℕ) (q : find link_key k c.links ≡ some e). every_find link_ok link_key c.links k e t.links_fine q;
      few_links = t.few_links;
    }

-- ---- a catalogue in order

deletion_wide : (d : List ℕ) → deletion_ok d ≡ true → length d ≡ 11
unfolding deletion_ok
deletion_wide d h = eqb-true (length d) 11 (and_both (eqb (length d) 11) (eqb (barred 1 11 1 d) 0) h).0

module _ (c : Catalogue) (G : Good c) where
  held_at_lem : (h : List ℕ) → Memᴰ h c.held → (kind h ≡ event) × ((d : List ℕ) → find deletion_key (key h) c.deletions ≡ some d → deletion_version d < version h)
  held_at_lem h m = G.held_fine (key h) h (found_self key c.held 0 h G.held_ascends m).1

  deletion_at : (d : List ℕ) → Memᴰ d c.deletions → deletion_ok d ≡ true
  deletion_at d m = G.deletion_fine (deletion_key d) d (found_self deletion_key c.deletions 0 d G.deletion_ascends m).1

  link_at : (e : List ℕ) → Memᴰ e c.links → link_ok e ≡ true
  link_at e m = G.link_fine (link_key e) e (found_self link_key c.links 0 e G.link_ascends m).1

  pub good_back : good c ≡ true
  good_back =
      tests_good c (record {
        held_ascends = ascends_true key 0 c.held G.held_ascends;
        deletions_ascend = ascends_true deletion_key 0 c.deletions G.deletion_ascends;
        held_fine = every_true (held_ok c.deletions) c.held (λ (h : List ℕ) (m : Memᴰ h c.held). let w = held_at_lem h m in held_ok_join c.deletions h w.0 w.1);
        deletions_fine = every_true deletion_ok c.deletions deletion_at;
        few_named = G.few;
        links_ascend = ascends_true link_key 0 c.links G.link_ascends;
        links_fine = every_true link_ok c.links link_at;
        few_links = G.few_links;
      })

  held_few : length c.held ≤ named c
  held_few =
      omega (
        arith,
        names_length c,
        simp length-map at (pigeon (map key c.held) (names c) (keys_distinct key c.held 0 G.held_ascends)
            (λ (z : ℕ) (m : Memᴰ z (map key c.held)). names_mem c z (λ (p : find deletion_key z c.deletions ≡ none) (q : find key z c.held ≡ none).
            let r = found key c.held z m in let u : ◌≡◌ {A = ℕ} 0 1 = cc r.1 in omega arith))),
      )

  pub good_fits : Fits (parts c)
  unfolding named
  good_fits = (
    (wide 80 c.held (λ (h : List ℕ) (m : Memᴰ h c.held). event_length h (held_at_lem h m).0), omega (arith, held_few, G.few)),
    (
      (wide 11 c.deletions (λ (d : List ℕ) (m : Memᴰ d c.deletions). deletion_wide d (deletion_at d m)), omega (arith, G.few)),
      ((wide 256 c.links (λ (e : List ℕ) (m : Memᴰ e c.links). ok_wide e (link_at e m)), G.few_links), tt),
    ),
  )

pub empty_good : Good empty
unfolding find named only_held
empty_good = record {
  held_ascends = tt;
  deletion_ascends = tt;
  held_fine = λ (k : ℕ) (h : List ℕ) (e : find key k [] ≡ some h). let z : ◌≡◌ {A = ℕ} 0 1 = cc in absurd (omega arith);
  deletion_fine = λ (k : ℕ) (d : List ℕ) (e : find deletion_key k [] ≡ some d). let z : ◌≡◌ {A = ℕ} 0 1 = cc in absurd (omega arith);
  few = omega arith;
  link_ascends = tt;
  link_fine = λ (k : ℕ) (e : List ℕ) (q : find link_key k [] ≡ some e). let z : ◌≡◌ {A = ℕ} 0 1 = cc in absurd (omega arith);
  few_links = omega arith;
}
