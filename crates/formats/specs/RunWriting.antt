-- A run of lines by their first letter, as it is written: record by record, each through the part of the caller's buffer that starts
-- after the line before it, as in the block. Document 01, "The block"; document 02, Wish 5.
use Rattle.std.specs.Prelude.{Ok, ◌≡◌, ℕ, ◌-◌, ◌≤◌, Bool, true, ◌&&◌, List, [], ◌∷◌, length, take, drop, get_or, T, leb}
use Rattle.columns.specs.Answer.{Answer}
use Rattle.formats.specs.Lines.{lines_of}
use Rattle.formats.specs.BlockWriting.{record_call, ReadBack, written}
use Rattle.formats.specs.Lettered.{at_start, Lettered, kind_in, record_format}
use Rattle.formats.specs.Run.{events_of, counts_size, read_run}

-- a call from a place of an output of a size
unfoldable pub lettered_call : Lettered → List ℕ → ℕ → ℕ → Answer (List ℕ)
lettered_call L r at size = record_call (record_format L r) r at size

-- records whose kinds may come in that order: the writer does not ask for it
unfoldable pub is_in_order : Lettered → ℕ → List (List ℕ) → Bool
is_in_order L before [] = true
is_in_order L before (r ∷ rs) = leb before (kind_in L r).after && is_in_order L (kind_in L r).rank rs

-- the letters of records' kinds, in order
unfoldable pub letters_in : Lettered → List (List ℕ) → List ℕ
letters_in L [] = []
letters_in L (r ∷ rs) = (kind_in L r).letter ∷ letters_in L rs

-- the first bytes of lines, in order
unfoldable pub first_bytes : List (List ℕ) → List ℕ
first_bytes [] = []
first_bytes (l ∷ ls) = get_or l 0 0 ∷ first_bytes ls

-- what calls wrote, one for each record, each from the place that the call before answered, none refused; and how it is read
pub record WrittenRun (L : Lettered) (rs : List (List ℕ)) (at : ℕ) (out : List ℕ) (end : ℕ) (to : List ℕ) : Type 0 where
  -- other bytes stay
  pub size : length to ≡ length out
  pub before : take at to ≡ take at out
  pub after : drop end to ≡ drop end out
  -- a line for each record, in order: it begins with its kind's letter and is read as that record
  pub rows : List (List ℕ)
  pub lines : lines_of (written at end to) ≡ rows
  pub letters : first_bytes rows ≡ letters_in L rs
  pub records : ReadBack (record_format L) rs rows
  -- read as a run, it is accepted, with as many events as there are records that open one
  pub run : T (is_in_order L at_start rs) → end - at ≤ 65536 → (room : ℕ) → counts_size L ≤ room → read_run L (written at end to) room ≡ Ok (events_of L rows)
