-- The catalogue: its sections, and the pairs that it names. Document 01, "The catalogue"; document 02, "Take the links".
use Rattle.std.specs.Prelude.{ℕ, ◌+◌, List, [], ◌∷◌, length, get_or}
use Rattle.std.proofs.Math.Option.{none, some}
use Rattle.catalogue.specs.Assoc.{find}
use Rattle.catalogue.specs.Line.{key, deletion_key}
use Rattle.catalogue.specs.Section.{Part, part}

-- the held E lines, the deletions' bytes, and the links'
pub record Catalogue : Type 0 where
  pub held : List (List ℕ)
  pub deletions : List (List ℕ)
  pub links : List (List ℕ)

abbrev pub empty : Catalogue
empty = record { held = []; deletions = []; links = [] }

-- its sections in their order: at most 512 held E lines of 80 bytes; at most 512 deletions of 11 bytes (source, identifier, version); at
-- most 64 links of 256 bytes (length, line, zeros)
abbrev pub parts : Catalogue → List Part
parts c = part 80 512 c.held ∷ part 11 512 c.deletions ∷ part 256 64 c.links ∷ []

-- the catalogue of such sections
abbrev pub from_parts : List Part → Catalogue
from_parts ps =
    record {
      held = (get_or ps 0 (part 0 0 [])).entries;
      deletions = (get_or ps 1 (part 0 0 [])).entries;
      links = (get_or ps 2 (part 0 0 [])).entries;
    }

-- the catalogue with another section
abbrev pub with_held : Catalogue → List (List ℕ) → Catalogue
with_held c hs = record { held = hs; deletions = c.deletions; links = c.links }

abbrev pub with_deletions : Catalogue → List (List ℕ) → Catalogue
with_deletions c ds = record { held = c.held; deletions = ds; links = c.links }

abbrev pub with_links : Catalogue → List (List ℕ) → Catalogue
with_links c ks = record { held = c.held; deletions = c.deletions; links = ks }

-- the held lines whose pair no deletion names
unfoldable pub only_held : List (List ℕ) → List (List ℕ) → List (List ℕ)
only_held deletions [] = []
only_held deletions (h ∷ hs) = elim (find deletion_key (key h) deletions) [ none ↦ h ∷ only_held deletions hs | some d ↦ only_held deletions hs ]

-- how many pairs are named; links do not count
unfoldable pub named : Catalogue → ℕ
named c = length c.deletions + length (only_held c.deletions c.held)
