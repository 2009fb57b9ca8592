-- Rooms that desks saved before there were links: 46,596 bytes, held lines and deletions. Document 01, "The catalogue"; document 02, "Take
-- the links".
use Rattle.std.specs.Prelude.{ℕ, ◌-◌, ◌≡◌, true, List, [], ◌∷◌, ◌++◌, replicate}
use Rattle.catalogue.specs.Section.{Part, part, capacity}
use Rattle.catalogue.specs.Catalogue.{Catalogue, empty}
use Rattle.catalogue.specs.Good.{good}
use Rattle.catalogue.specs.Room.{room_of, room_size, encode, contents}
use Rattle.catalogue.specs.Ordered.{Ordered}

-- the sections that there were
abbrev pub old_parts : Catalogue → List Part
old_parts c = part 80 512 c.held ∷ part 11 512 c.deletions ∷ []

unfoldable pub old_size : ℕ
old_size = capacity (old_parts empty)

unfoldable pub old_room : Catalogue → List ℕ
old_room c = room_of old_size (old_parts c)

-- filled with zeros to the room's size
abbrev pub grown : List ℕ → List ℕ
grown r = r ++ replicate (room_size - old_size) 0

-- the old room of a catalogue, grown, is its room, and so in order and the same catalogue
pub record Saved (c : Catalogue) : Type 0 where
  pub layout : grown (old_room c) ≡ encode c
  pub ordered : Ordered (grown (old_room c))
  pub same : contents (grown (old_room c)) ≡ c

abbrev pub SavedRooms : Type 0
SavedRooms = (c : Catalogue) → good c ≡ true → c.links ≡ [] → Saved c
