-- Document 01's number, column and values for each case of what the formats' calls answer ("Numbers answered"): 0 and 0 where a
-- call read or wrote; other results of a refusal are zero.
use Rattle.std.specs.Prelude.{ℕ, Result, Ok, Err}
use Rattle.columns.specs.Answer.{number_of}
use Rattle.columns.specs.declared.Refusal.{Refusal}
use Rattle.formats.specs.Record.{Reply}
use Rattle.formats.specs.Cube.{event_kind, delete_kind, link_kind}
use Rattle.formats.specs.Block.{Block}
use Rattle.formats.specs.Run.{Run}
use Rattle.formats.specs.declared.cube.Parts.{Parts}
use Rattle.formats.specs.declared.cube.Parts.TheVariants as P

-- ---- a CUBE line that is read

abbrev pub number_of_read : Result Parts Refusal → ℕ
number_of_read (Ok x) = 0
number_of_read (Err e) = number_of e.reason

abbrev pub read_column : Result Parts Refusal → ℕ
read_column (Ok x) = 0
read_column (Err e) = e.column

-- the kind of its record, and the lengths of a link's type and address and of a link's or a delete's text
abbrev pub read_kind : Result Parts Refusal → ℕ
read_kind (Ok P.Event) = event_kind
read_kind (Ok (P.Delete text)) = delete_kind
read_kind (Ok (P.Link type address text)) = link_kind
read_kind (Err e) = 0

abbrev pub read_type_length : Result Parts Refusal → ℕ
read_type_length (Ok P.Event) = 0
read_type_length (Ok (P.Delete text)) = 0
read_type_length (Ok (P.Link type address text)) = type
read_type_length (Err e) = 0

abbrev pub read_address_length : Result Parts Refusal → ℕ
read_address_length (Ok P.Event) = 0
read_address_length (Ok (P.Delete text)) = 0
read_address_length (Ok (P.Link type address text)) = address
read_address_length (Err e) = 0

abbrev pub read_text_length : Result Parts Refusal → ℕ
read_text_length (Ok P.Event) = 0
read_text_length (Ok (P.Delete text)) = text
read_text_length (Ok (P.Link type address text)) = text
read_text_length (Err e) = 0

-- ---- a call that writes into a lent place, and the bytes that it wrote or the place after them

abbrev pub reply_number : Reply → ℕ
reply_number (Ok len) = 0
reply_number (Err e) = number_of e.reason

abbrev pub reply_column : Reply → ℕ
reply_column (Ok len) = 0
reply_column (Err e) = e.column

abbrev pub reply_length : Reply → ℕ
reply_length (Ok len) = len
reply_length (Err e) = 0

-- ---- a block: a refusal adds its line's number from 1, 0 for the block's length

abbrev pub block_number : Block → ℕ
block_number (Ok c) = 0
block_number (Err e) = number_of e.reason

abbrev pub block_column : Block → ℕ
block_column (Ok c) = 0
block_column (Err e) = e.column

abbrev pub block_line : Block → ℕ
block_line (Ok c) = 0
block_line (Err e) = e.line

-- the count of rows, the comment count and the bytes used
abbrev pub block_rows : Block → ℕ
block_rows (Ok c) = c.rows
block_rows (Err e) = 0

abbrev pub block_comments : Block → ℕ
block_comments (Ok c) = c.comments
block_comments (Err e) = 0

abbrev pub block_used : Block → ℕ
block_used (Ok c) = c.used
block_used (Err e) = 0

-- ---- a run: a refusal adds its line's number from 1, 0 for the run's length and for the place of the counts

abbrev pub run_number : Run → ℕ
run_number (Ok events) = 0
run_number (Err e) = number_of e.reason

abbrev pub run_column : Run → ℕ
run_column (Ok events) = 0
run_column (Err e) = e.column

abbrev pub run_line : Run → ℕ
run_line (Ok events) = 0
run_line (Err e) = e.line

-- the number of events
abbrev pub run_events : Run → ℕ
run_events (Ok events) = events
run_events (Err e) = 0
