-- A block of rows, as it is written. Document 01, "The block": header and lines are laid into successive parts of the caller's
-- buffer, a newline after each, each from a given place and answering the place after it; other bytes stay.
use Rattle.std.specs.Prelude.{◌≡◌, ℕ, ◌+◌, ◌-◌, ◌*◌, ◌≤◌, List, [], ◌∷◌, ◌++◌, length, take, drop, Ok, Err}
use Rattle.columns.specs.Answer.{Answer, ok, refusal}
use Rattle.columns.specs.Column.{Rec, widths}
use Rattle.columns.specs.Table.{placed}
use Rattle.columns.specs.Writing.{in_place}
use Rattle.formats.specs.Lines.{newline, lines_of}
use Rattle.formats.specs.Record.{Reply, reply_of}
use Rattle.formats.specs.Row.{RowFormat, read_row, read_row_record, write_row_from}
use Rattle.formats.specs.Block.{BlockFormat, read_as, read_block}

-- a written line with its newline
abbrev pub ended : Answer (List ℕ) → Answer (List ℕ)
ended (ok l) = ok (l ++ newline ∷ [])
ended (refusal n k) = refusal n k

-- the header, 11 where it does not fit
abbrev pub write_header : List ℕ → ℕ → Answer (List ℕ)
write_header header room = in_place room (length header) (ok header)

-- the room for a line: the bytes from a place on but one, which is for the newline
abbrev pub room_from : ℕ → ℕ → ℕ
room_from at size = size - at - 1

-- a call from a place of an output of a size: the header; a record
unfoldable pub header_call : List ℕ → ℕ → ℕ → Answer (List ℕ)
header_call header at size = ended (write_header header (room_from at size))

unfoldable pub record_call : RowFormat → List ℕ → ℕ → ℕ → Answer (List ℕ)
record_call F from at size = ended (write_row_from F from (room_from at size))

-- the reply to what was written from a place on: the place after it, or the refusal
abbrev pub from_place : ℕ → Reply → Reply
from_place at (Ok n) = Ok (at + n)
from_place at (Err e) = Err e

-- the lent bytes after a call from a place: what was written there, or nothing changed
abbrev pub laid_from : ℕ → Answer (List ℕ) → List ℕ → List ℕ
laid_from at (ok ys) out = placed at ys out
laid_from at (refusal n k) out = out

-- the reply, and the lent bytes
pub record RepliedFrom (at : ℕ) (a : Answer (List ℕ)) (r : Reply) (from to : List ℕ) : Type 0 where
  pub answer : r ≡ from_place at (reply_of a)
  pub bytes : to ≡ laid_from at a from

-- ---- one call for the header, then one for each record, each from the place that the call before answered, on the output as
-- that call left it; none is refused

-- each record by the format that its bytes go by: in a block by the one of its rows
-- records' bytes, the first place, the output before; the last place, the output after
pub data RecordCalls (form : List ℕ → RowFormat) : List (List ℕ) → ℕ → List ℕ → ℕ → List ℕ → Type 0 where
  no_calls : {at : ℕ} {out : List ℕ} → RecordCalls form [] at out at out
  call : {r : List ℕ} {rs : List (List ℕ)} {at next end : ℕ} {out mid to : List ℕ} → RepliedFrom at (record_call (form r) r at (length out)) (Ok next) out mid → RecordCalls form rs next mid end to → RecordCalls form (r ∷ rs) at out end to

pub record BlockCalls (F : BlockFormat) (rs : List (List ℕ)) (at : ℕ) (out : List ℕ) (end : ℕ) (to : List ℕ) : Type 0 where
  pub next : ℕ
  pub headed : List ℕ
  pub header : RepliedFrom at (header_call F.header at (length out)) (Ok next) out headed
  pub records : RecordCalls (λ r. F.row) rs next headed end to

-- the bytes from the first place to the last
abbrev pub written : ℕ → ℕ → List ℕ → List ℕ
written at end to = take (end - at) (drop at to)

-- one line for each record, in order, of its full width, which is read as the record that the bytes name
pub data ReadBack (form : List ℕ → RowFormat) : List (List ℕ) → List (List ℕ) → Type 0 where
  no_lines : ReadBack form [] []
  line : {r l : List ℕ} {rs ls : List (List ℕ)} {m : Rec} → read_row_record (form r) r ≡ ok m → read_row (form r).columns l ≡ ok m → length l ≡ widths (form r).columns → ReadBack form rs ls → ReadBack form (r ∷ rs) (l ∷ ls)

-- what those calls wrote, and how it is read
pub record WrittenBlock (F : BlockFormat) (rs : List (List ℕ)) (at : ℕ) (out : List ℕ) (end : ℕ) (to : List ℕ) : Type 0 where
  -- the header's length and the full width for each record, and a newline after each
  pub place : end ≡ at + (length F.header + 1) + (widths F.row.columns + 1) * length rs
  -- other bytes stay
  pub size : length to ≡ length out
  pub before : take at to ≡ take at out
  pub after : drop end to ≡ drop end out
  -- the lines: the header, then the records' own, in order
  pub rows : List (List ℕ)
  pub lines : lines_of (written at end to) ≡ F.header ∷ rows
  pub records : ReadBack (λ r. F.row) rs rows
  -- the count of rows is the number of records, there are no comments, and all bytes are used
  pub block : end - at ≤ 65536 → read_block F (written at end to) ≡ read_as (length rs) 0 (end - at)
