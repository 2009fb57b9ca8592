-- What a line does to the catalogue. Document 01, "The catalogue"; document 02, "Take the links".
use Rattle.std.specs.Prelude.{ℕ, Ok, Err, Bool, false, List, [], ◌∷◌, ltb, leb, length}
use Rattle.std.proofs.Math.Option.{Option, none, some}
use Rattle.columns.specs.Answer.{pick}
use Rattle.formats.specs.Cube.{read_line}
use Rattle.columns.specs.Bytes.{same_bytes}
use Rattle.catalogue.specs.declared.decide.Deed.{Deed as DeedOf}
use Rattle.catalogue.specs.declared.decide.Deed.TheVariants.{Leave, Hold, Note, Wipe, Link}
use Rattle.catalogue.specs.declared.decide.Notice.{Notice}
use Rattle.catalogue.specs.declared.decide.Notice.TheVariants.{Event, Delete, Blank}
use Rattle.catalogue.specs.declared.Effect.TheVariants.{Stored, Replaced, Repeated, Outdated, NothingHeld}
use Rattle.catalogue.specs.Answers.{full, links_full, Call, Deed, declined_as, answered}
use Rattle.catalogue.specs.Assoc.{find, put, remove}
use Rattle.catalogue.specs.Line.{Kind, event, delete, blank, link, refused, kind, refusal_in, version, key, deletion, deletion_key, deletion_version, triple_key, link_entry, link_key, link_version}
use Rattle.catalogue.specs.Catalogue.{Catalogue, with_held, with_deletions, with_links, named}

-- the deleted version is at or above v
unfoldable pub covered : Option (List ℕ) → ℕ → Bool
covered none v = false
covered (some d) v = leb v (deletion_version d)

-- E, not covered: nothing held 20; held version above it 23; equal bytes 22; otherwise replaced, 21
unfoldable pub over_held : List ℕ → Option (List ℕ) → Deed
over_held l none = Hold Stored
over_held l (some h) = pick (ltb (version l) (version h)) (Leave (Ok Outdated)) (pick (same_bytes l h) (Leave (Ok Repeated)) (Hold Replaced))

-- DE, not covered: the deletion becomes its version; a held line at or below it is removed, or none is
unfoldable pub over_deleted : ℕ → Option (List ℕ) → Deed
over_deleted v none = Note v
over_deleted v (some h) = pick (leb (version h) v) (Wipe v) (Note v)

-- DE with a blank version: a held line is removed and its version becomes the deleted one; nothing held 26
unfoldable pub over_blank : Option (List ℕ) → Deed
over_blank none = Leave (Ok NothingHeld)
over_blank (some h) = Wipe (version h)

-- an E or a DE line, by its pair's deletion and held line: covered 23
unfoldable pub decide : Notice → List ℕ → Option (List ℕ) → Option (List ℕ) → Deed
decide Event l d h = pick (covered d (version l)) (Leave (Ok Outdated)) (over_held l h)
decide Delete l d h = pick (covered d (version l)) (Leave (Ok Outdated)) (over_deleted (version l) h)
decide Blank l d h = over_blank h

-- a pair that would be new where 512 are named: 12, not where 26 answers
unfoldable pub declined : {E : Type 0} → DeedOf E → DeedOf E
declined (Leave n) = Leave n
declined (Hold n) = Leave (declined_as full)
declined (Note v) = Leave (declined_as full)
declined (Wipe v) = Leave (declined_as full)
declined (Link n) = Leave (declined_as full)

unfoldable pub limited : {E : Type 0} → ℕ → Option (List ℕ) → Option (List ℕ) → DeedOf E → DeedOf E
limited n none none e = pick (leb 512 n) (declined e) e
limited n none (some h) e = e
limited n (some d) h e = e

unfoldable pub pair_deed : Notice → Catalogue → List ℕ → Deed
pair_deed t c l =
    limited (named c) (find deletion_key (key l) c.deletions) (find key (key l) c.held)
    (decide t l (find deletion_key (key l) c.deletions) (find key (key l) c.held))

-- LI, by its entry and that of its triple: none there 20; version above it 23; equal bytes 22; otherwise replaced, 21
unfoldable pub over_link : List ℕ → Option (List ℕ) → Deed
over_link e none = Link Stored
over_link e (some x) = pick (ltb (link_version e) (link_version x)) (Leave (Ok Outdated)) (pick (same_bytes e x) (Leave (Ok Repeated)) (Link Replaced))

-- a triple that would be new where there are 64: 16
unfoldable pub limited_link : {E : Type 0} → ℕ → Option (List ℕ) → DeedOf E → DeedOf E
limited_link n none e = pick (leb 64 n) (Leave (declined_as links_full)) e
limited_link n (some x) e = e

unfoldable pub link_deed : Catalogue → List ℕ → Deed
link_deed c l =
    limited_link (length c.links) (find link_key (triple_key l) c.links) (over_link (link_entry l) (find link_key (triple_key l) c.links))

-- by the line's kind; a refused line is answered with its refusal
abbrev pub deed_by : Kind → Catalogue → List ℕ → Deed
deed_by event c l = pair_deed Event c l
deed_by delete c l = pair_deed Delete c l
deed_by blank c l = pair_deed Blank c l
deed_by link c l = link_deed c l
deed_by refused c l = Leave (Err (refusal_in (read_line l)))

unfoldable pub deed_of : Catalogue → List ℕ → Deed
deed_of c l = deed_by (kind l) c l

-- what a call answers, and the catalogue after it
pub record Taken : Type 0 where
  pub answer : Call
  pub after : Catalogue

-- the deed done
abbrev pub changed : Deed → Catalogue → List ℕ → Catalogue
changed (Leave n) c l = c
changed (Hold n) c l = with_held c (put key l c.held)
changed (Note v) c l = with_deletions c (put deletion_key (deletion l v) c.deletions)
changed (Wipe v) c l = with_deletions (with_held c (remove key (key l) c.held)) (put deletion_key (deletion l v) c.deletions)
changed (Link n) c l = with_links c (put link_key (link_entry l) c.links)

unfoldable pub done : Deed → Catalogue → List ℕ → Taken
done e c l = record { answer = answered e; after = changed e c l }

unfoldable pub step : Catalogue → List ℕ → Taken
step c l = done (deed_of c l) c l

-- the lines one by one
unfoldable pub run : Catalogue → List (List ℕ) → Catalogue
run c [] = c
run c (l ∷ ls) = run (step c l).after ls
