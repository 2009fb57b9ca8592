-- Demand 3: two desks that took the same acceptable lines, in any order and with any repeats, have equal rooms. It is one claim about
-- two whole lists of any length; its premises are SameLines and Settled (Lists.antt). Document 01, "The catalogue"; document 02,
-- "Take the links".
use Rattle.std.specs.Prelude.{ℕ, ◌≡◌, List, ◌++◌, replicate}
use Rattle.std.proofs.Math.Option.{none}
use Rattle.catalogue.specs.Assoc.{find}
use Rattle.catalogue.specs.Line.{Kind, event, delete, blank, link, refused, kind, Acceptable, key, deletion_key, triple_key, link_key}
use Rattle.catalogue.specs.Catalogue.{Catalogue}
use Rattle.catalogue.specs.FromSet.{IsCatalogueOf}
use Rattle.catalogue.specs.Lists.{Occurs, SameLines, Settled}
use Rattle.catalogue.specs.Room.{room_size, encode, feed}

-- a zeroed room, and the bytes past it
abbrev pub zeroed : List ℕ → List ℕ
zeroed past = replicate room_size 0 ++ past

-- what a line names has an entry: a pair a held line, a deletion, or both; a link's triple a link
abbrev pub PairKept : Catalogue → List ℕ → Type 0
PairKept c l = find key (key l) c.held ≡ none → find deletion_key (key l) c.deletions ≡ none → ⊥

abbrev pub KeptBy : Kind → Catalogue → List ℕ → Type 0
KeptBy event c l = PairKept c l
KeptBy delete c l = PairKept c l
KeptBy blank c l = PairKept c l
KeptBy link c l = find link_key (triple_key l) c.links ≡ none → ⊥
KeptBy refused c l = Unit {0}

abbrev pub Kept : Catalogue → List ℕ → Type 0
Kept c l = KeptBy (kind l) c l

-- c is the catalogue that document 01 defines from the lines of a list, and the only one; each pair or triple named by an acceptable line
-- keeps an entry
pub record TheCatalogue (ls : List (List ℕ)) (c : Catalogue) : Type 0 where
  pub defined : IsCatalogueOf (Occurs ls) c
  pub only : (d : Catalogue) → IsCatalogueOf (Occurs ls) d → d ≡ c
  pub kept : (l : List ℕ) → Occurs ls l → Acceptable l → Kept c l

-- two lists, each taken into a zeroed room of its own length, with bytes of its own past it: both rooms are the layout of that
-- catalogue, and the bytes past them are untouched
pub record TwoDesks (ls ms : List (List ℕ)) (p q : List ℕ) (c : Catalogue) : Type 0 where
  pub first : feed (zeroed p) ls ≡ encode c ++ p
  pub second : feed (zeroed q) ms ≡ encode c ++ q
  pub catalogue : TheCatalogue ls c

abbrev pub Demand3 : Type 0
Demand3 = (ls ms : List (List ℕ)) (p q : List ℕ) → SameLines ls ms → Settled ls → (c : Catalogue) × TwoDesks ls ms p q c
