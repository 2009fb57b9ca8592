-- What a catalogue in order says, by document 01's clauses. Document 01, "The catalogue", in order; document 02, "Take the links".
use Rattle.std.specs.Prelude.{ℕ, suc, Bool, true, false, ◌&&◌, List, [], ◌∷◌, ltb, leb, eqb, length}
use Rattle.std.proofs.Math.Option.{Option, none, some}
use Rattle.columns.specs.Bytes.{barred, same_bytes}
use Rattle.catalogue.specs.Assoc.{find}
use Rattle.catalogue.specs.Line.{Kind, event, delete, blank, link, refused, kind, version, key, deletion_key, deletion_version, link_entry, link_line, link_key}
use Rattle.catalogue.specs.Catalogue.{Catalogue, named}

-- a section ascends strictly by its key
unfoldable pub ascends : {E : Type 0} (key : E → ℕ) → ℕ → List E → Bool
ascends key b [] = true
ascends key b (x ∷ xs) = leb b (key x) && ascends key (suc (key x)) xs

unfoldable pub every : (List ℕ → Bool) → List (List ℕ) → Bool
every p [] = true
every p (x ∷ xs) = p x && every p xs

-- each held line is acceptable as an E line
unfoldable pub is_event : Kind → Bool
is_event event = true
is_event delete = false
is_event blank = false
is_event link = false
is_event refused = false

-- a held version is above its pair's deleted version
unfoldable pub above_deletion : Option (List ℕ) → List ℕ → Bool
above_deletion none h = true
above_deletion (some d) h = ltb (deletion_version d) (version h)

unfoldable pub held_ok : List (List ℕ) → List ℕ → Bool
held_ok deletions h = is_event (kind h) && above_deletion (find deletion_key (key h) deletions) h

-- each deletion is of allowed bytes: text, no brackets
unfoldable pub deletion_ok : List ℕ → Bool
deletion_ok d = eqb (length d) 11 && eqb (barred 1 11 1 d) 0

-- each link's line is acceptable as an LI line, and its entry is laid out so
unfoldable pub is_link : Kind → Bool
is_link event = false
is_link delete = false
is_link blank = false
is_link link = true
is_link refused = false

unfoldable pub link_ok : List ℕ → Bool
link_ok e = is_link (kind (link_line e)) && same_bytes (link_entry (link_line e)) e

-- the held lines and deletions: each section ascends, each entry is as it should be, at most 512 pairs are named
unfoldable pub good_pairs : Catalogue → Bool
good_pairs c =
    (ascends key 0 c.held && ascends deletion_key 0 c.deletions) && ((every (held_ok c.deletions) c.held && every deletion_ok c.deletions) && leb (named c) 512)

-- the links: they ascend, each is as it should be, there are at most 64
unfoldable pub good_links : List (List ℕ) → Bool
good_links ks = ascends link_key 0 ks && (every link_ok ks && leb (length ks) 64)

unfoldable pub good : Catalogue → Bool
good c = good_pairs c && good_links c.links
