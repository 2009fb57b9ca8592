-- The one number that a call returns: answer, column and length in fixed parts. Document 01, its opening: the C relay calls through
-- plain numbers and byte buffers; include/rotmibel.h.
use Rattle.std.specs.Prelude.{◌≡◌, Result, Ok, Err, List, ℕ, ◌+◌, ◌*◌, ◌/◌, ◌%◌, ◌≤◌, ◌<◌, length, eqb}
use Rattle.columns.specs.Answer.{pick, Answer}
use Rattle.columns.specs.Table.{laid}
use Rattle.columns.specs.declared.Reason.{Reason}
use Rattle.catalogue.specs.declared.Searched.{Searched}
use Rattle.catalogue.specs.LookUp.{Looked, look_number, look_place}
use Rattle.catalogue.specs.QuickLookUp.{place_in as searched_place, examined_in}
use Rattle.formats.specs.Record.{Reply, reply_of}
use Rattle.formats.specs.Block.{Block}
use Rattle.formats.specs.BlockWriting.{from_place, laid_from}
use Rattle.formats.specs.BlockWalk.{first_line, next_line}
use Rattle.formats.specs.Numbers.{reply_number, reply_column, reply_length, block_number, block_column, block_line, block_rows, block_comments, block_used, run_number, run_column, run_line}
use Rattle.formats.specs.Cards.{cards}
use Rattle.formats.specs.Run.{Run, counts_size, read_run, counts_after}
use Rattle.formats.specs.RunWalk.{first_told, next_told}
use Rattle.formats.specs.declared.block_walk.BlockLine.{BlockLine}

-- the answer in the lowest 8 bits, the column in the next 16, the length in the 40 after them
abbrev pub parts : ℕ → ℕ → ℕ → ℕ
parts answer column len = answer + 256 * column + 16777216 * len

-- a reply: 0 with the number of bytes written, or a refusal with its column
abbrev pub number_in : Reply → ℕ
number_in r = parts (reply_number r) (reply_column r) (reply_length r)

-- a reply whose length and column fit their parts
abbrev pub IsSmall : Reply → Type 0
IsSmall r = (reply_length r < 1099511627776) × (reply_column r < 65536)

-- what a call returns, and the lent bytes: what was written over the first of them, or nothing changed
pub record Answered (a : Answer (List ℕ)) (r : ℕ) (from to : List ℕ) : Type 0 where
  pub answer : r ≡ number_in (reply_of a)
  pub bytes : to ≡ laid a from

-- a look-up's answer, with the place of the held line where a length stands
abbrev pub looked_number : Looked → ℕ
looked_number x = parts (look_number x) 0 (look_place x)

-- the same of a look-up by halving, with how many entries it examined where a column stands
abbrev pub searched_number : Result Searched Reason → ℕ
searched_number x = parts (look_number (searched_place x)) (examined_in x) (look_place (searched_place x))

-- ---- blocks

-- on 0 the count of rows stands where a column does; the comment count (16 bits) and the bytes used where a length does
abbrev pub block_read : Block → ℕ
block_read b = parts (block_number b) (block_rows b) (block_comments b + 65536 * block_used b)

-- a refusal has its column, and its line where a length stands
abbrev pub block_refused : Block → ℕ
block_refused b = parts (block_number b) (block_column b) (block_line b)

abbrev pub block_answer : Block → ℕ
block_answer (Ok c) = block_read (Ok c)
block_answer (Err e) = block_refused (Err e)

-- a line's kind; the number of its row where a column stands; its end (20 bits) and the place after it where a length does
abbrev pub line_number : BlockLine → ℕ
line_number x = parts x.kind x.number (x.end + 1048576 * x.next)

-- the line that such a number tells of
abbrev pub line_in : ℕ → BlockLine
line_in n =
    record {
      kind = n % 256;
      number = n / 256 % 65536;
      end = n / 16777216 % 1048576;
      next = n / 17592186044416;
    }

-- a line whose numbers fit their parts
abbrev pub IsSmallLine : BlockLine → Type 0
IsSmallLine x = (x.number < 65536) × ((x.end ≤ 65536) × (x.next ≤ 65536))

-- the first line where the number handed in is 0, else the line after the one that it tells of
abbrev pub met_by : BlockLine → (BlockLine → BlockLine) → ℕ → BlockLine
met_by first next before = pick (eqb before 0) first (next (line_in before))

abbrev pub met_line : List ℕ → List ℕ → ℕ → BlockLine
met_line header b before = met_by (first_line header b) (next_line b) before

-- ---- runs of cards

-- on 0 the number of events stands where a column does, and the bytes of the counts where a length does; a refusal has its column,
-- and its line where a length stands
abbrev pub run_answer : Run → ℕ
run_answer (Ok events) = parts 0 events (counts_size cards)
run_answer (Err e) = parts (run_number (Err e)) (run_column (Err e)) (run_line (Err e))

-- what the call returns, and the lent bytes: the counts over the first of them, or nothing changed
pub record AnsweredRun (b : List ℕ) (r : ℕ) (from to : List ℕ) : Type 0 where
  pub answer : r ≡ run_answer (read_run cards b (length from))
  pub bytes : to ≡ counts_after cards b (read_run cards b (length from)) from

-- a line of a walk of a run of cards: as a line of a block, with its letter as its kind and its event's number in place of a row's
abbrev pub met_card : List ℕ → ℕ → BlockLine
met_card b before = met_by (first_told cards b) (next_told cards b) before

-- a reply to a call from a place: the place after what was written, modulo 2^40, where a length stands
abbrev pub place_in : Reply → ℕ
place_in r = parts (reply_number r) (reply_column r) (reply_length r % 1099511627776)

-- a reply whose column fits its part
abbrev pub HasLowColumn : Reply → Type 0
HasLowColumn r = reply_column r < 65536

-- what a call from a place returns, and the lent bytes: what was written there, or nothing changed
pub record AnsweredFrom (at : ℕ) (a : Answer (List ℕ)) (r : ℕ) (from to : List ℕ) : Type 0 where
  pub answer : r ≡ place_in (from_place at (reply_of a))
  pub bytes : to ≡ laid_from at a from
