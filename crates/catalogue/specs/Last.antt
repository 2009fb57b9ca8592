-- The catalogue of a list of lines, computed: for each pair the highest of its DE lines and the last received of its highest E lines, for
-- each triple the last received of its highest LI lines. Document 01, "The catalogue": "From a set", and taking E, where a held line of
-- equal version is replaced; document 02, "Take the links".
use Rattle.std.specs.Prelude.{ℕ, Bool, ◌&&◌, List, [], ◌∷◌, ltb, leb, eqb}
use Rattle.std.proofs.Math.Option.{Option, none, some}
use Rattle.columns.specs.Answer.{pick}
use Rattle.catalogue.specs.Assoc.{put}
use Rattle.catalogue.specs.Line.{Kind, event, delete, blank, link, refused, kind, version, deletion, link_entry, key_by, version_by}
use Rattle.catalogue.specs.Catalogue.{Catalogue}

-- kinds, numbered, to compare them
abbrev pub rank : Kind → ℕ
rank event = 0
rank delete = 1
rank blank = 2
rank link = 3
rank refused = 4

unfoldable pub same_kind : Kind → Kind → Bool
same_kind s t = eqb (rank s) (rank t)

-- of two lines of kind t the one with the higher version; x arrives first, so where the versions are equal the other was received later
-- and wins
unfoldable pub later : Kind → List ℕ → Option (List ℕ) → Option (List ℕ)
later t x none = some x
later t x (some y) = pick (leb (version_by t x) (version_by t y)) (some y) (some x)

-- of the lines of kind t and key k, the last received of the highest version
unfoldable pub last_highest : Kind → ℕ → List (List ℕ) → Option (List ℕ)
last_highest t k [] = none
last_highest t k (x ∷ xs) = pick (same_kind (kind x) t && eqb (key_by t x) k) (later t x (last_highest t k xs)) (last_highest t k xs)

-- a DE line's deletion
unfoldable pub deletion_for : Option (List ℕ) → Option (List ℕ)
deletion_for none = none
deletion_for (some d) = some (deletion d (version d))

-- the E line, if it is above the DE line or there is none
unfoldable pub held_for : Option (List ℕ) → Option (List ℕ) → Option (List ℕ)
held_for none d = none
held_for (some e) none = some e
held_for (some e) (some d) = pick (ltb (version d) (version e)) (some e) none

-- an LI line's entry
unfoldable pub link_for : Option (List ℕ) → Option (List ℕ)
link_for none = none
link_for (some l) = some (link_entry l)

-- the keys that lines name, read as lines of kind t, ascending
unfoldable pub keys : Kind → List (List ℕ) → List ℕ
keys t [] = []
keys t (x ∷ xs) = put (λ (k : ℕ). k) (key_by t x) (keys t xs)

unfoldable pub collect_at : Option (List ℕ) → List (List ℕ) → List (List ℕ)
collect_at none xs = xs
collect_at (some x) xs = x ∷ xs

unfoldable pub collect : (ℕ → Option (List ℕ)) → List ℕ → List (List ℕ)
collect f [] = []
collect f (k ∷ ks) = collect_at (f k) (collect f ks)

unfoldable pub last_catalogue : List (List ℕ) → Catalogue
last_catalogue ls = record {
  held = collect (λ (k : ℕ). held_for (last_highest event k ls) (last_highest delete k ls)) (keys event ls);
  deletions = collect (λ (k : ℕ). deletion_for (last_highest delete k ls)) (keys delete ls);
  links = collect (λ (k : ℕ). link_for (last_highest link k ls)) (keys link ls);
}
