-- The look-up by halving. Document 02, "Look up without walking the catalogue".
use Rattle.std.specs.Prelude.{ℕ, Some, Result, Ok, Err, ◌-◌, ◌^◌, ◌≤◌, ◌<◌, ◌≡◌, ◌&&◌, List, [], ◌++◌, ltb, eqb, length, get_or}
use Rattle.columns.specs.Answer.{pick, too_short, wrong_length}
use Rattle.catalogue.specs.declared.Searched.{Searched}
use Rattle.columns.specs.declared.Reason.{Reason}
use Rattle.catalogue.specs.Answers.{not_in_order}
use Rattle.catalogue.specs.Line.{pair, key_of, key}
use Rattle.catalogue.specs.Section.{number}
use Rattle.catalogue.specs.Room.{room_size, contents}
use Rattle.catalogue.specs.Ordered.{Ordered}
use Rattle.catalogue.specs.LookUp.{Looked, look_up}
use Rattle.catalogue.specs.Entries.{Inside}
use Rattle.catalogue.specs.Places.{held_in}
use Rattle.catalogue.specs.Halving.{examine, key_at, halve_in, SameAt, binary_digits}

-- the count that a room begins with, that of its held lines
abbrev pub held_count : List ℕ → ℕ
held_count room = number room

-- 11; 13 only for a held count above 512; 1 for a source not of 2 bytes or an identifier not of 8; else by halving among the held lines,
-- whatever they are. A refusal has examined no entry
unfoldable pub quick_look_up : List ℕ → List ℕ → List ℕ → Result Searched Reason
quick_look_up room source identifier =
    pick (ltb (length room) room_size) (Err too_short)
    (pick (ltb 512 (held_count room)) (Err not_in_order)
    (pick (eqb (length source) 2 && eqb (length identifier) 8) (Ok (halve_in key (contents room).held (key_of (source ++ identifier) [])))
    (Err wrong_length)))

-- its place, and how many entries it examined
abbrev pub place_in : Result Searched Reason → Looked
place_in (Ok x) = Ok x.place
place_in (Err n) = Err n

abbrev pub examined_in : Result Searched Reason → ℕ
examined_in (Ok x) = x.examined
examined_in (Err n) = 0

-- ---- what holds of it, for any contents

-- it examines no more entries than the held count has binary digits
abbrev pub FewExamined : Type 0
FewExamined = (room source identifier : List ℕ) → examined_in (quick_look_up room source identifier) ≤ binary_digits (held_count room)

-- it reads nothing of the room but the held count and the entries examined: a room with the same count, and with the same pairs at the
-- places examined, has the same answer
abbrev pub held_key : List ℕ → ℕ → ℕ
held_key room = key_at key (contents room).held

abbrev pub places_examined : List ℕ → List ℕ → List ℕ → List ℕ
places_examined room source identifier = examine (held_key room) (key_of (source ++ identifier) []) (held_count room) 0 (held_count room)

abbrev pub ReadsNothingElse : Type 0
ReadsNothingElse =
    (room other source identifier : List ℕ) → room_size ≤ length room → room_size ≤ length other → held_count room ≡ held_count other
    → SameAt (held_key room) (held_key other) (places_examined room source identifier) → quick_look_up room source identifier ≡ quick_look_up other source identifier

-- a place that is answered shows an entry with that pair, at that place. Of bytes, as all that a call is lent: numbers above them could write one key twice
abbrev pub AllBytes : List ℕ → Type 0
AllBytes s = (i : ℕ) → get_or s i 0 < 256

abbrev pub ShowsThePair : Type 0
ShowsThePair =
    (room source identifier : List ℕ) → AllBytes room → AllBytes source → AllBytes identifier → (i : ℕ) → place_in (quick_look_up room source identifier) ≡ Ok (Some i)
    → (i < held_count room) × (pair (get_or (contents room).held i []) ≡ source ++ identifier)

-- on a catalogue in order its answer and place are those of the full look-up
abbrev pub AsFullLookUp : Type 0
AsFullLookUp =
    (room source identifier : List ℕ) → Ordered room → place_in (quick_look_up room source identifier) ≡ look_up room source identifier

-- ---- as the code searches: the stretch lies in the held lines of the room, and as many entries as may still be examined are enough for it

pub record Searchable (room : List ℕ) (first end left : ℕ) : Type 0 where
  pub inside : Inside (held_in room) room
  pub within : end ≤ held_count room
  pub low : end ≤ 512
  pub enough : end - first < 2 ^ left
