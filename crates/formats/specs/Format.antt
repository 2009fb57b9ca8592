-- The row formats by the number of their record's kind, the headers of their blocks, and what the code's place for each says of it.
-- Document 01, "The phase line", "The block"; the kinds are those of docs/RECORDS.md.
use Rattle.std.specs.Prelude.{◌≡◌, List, [], ◌∷◌, ◌++◌, ℕ, ◌+◌, ◌≤◌, length, eqb}
use Rattle.columns.specs.Answer.{pick}
use Rattle.columns.specs.Column.{Col, widths, all_slots, all_texts}
use Rattle.columns.specs.Row.{Fits}
use Rattle.columns.specs.Table.{over}
use Rattle.formats.specs.Row.{RowFormat}
use Rattle.formats.specs.Phase.{phase_columns}
use Rattle.formats.specs.Arrival.{arrival_columns}
use Rattle.formats.specs.Calnet.{identification_columns, location_columns, error_columns, magnitude_columns, pick_columns, amplitude_columns, remark_columns}
use Rattle.formats.specs.Block.{BlockFormat}
use Rattle.formats.specs.Header.{phase_header, arrival_header}
use Rattle.formats.specs.declared.format.Format.{Format}

-- the phase line
abbrev pub phase_format : RowFormat
phase_format = record { columns = phase_columns; kind = 3 }

-- the arrival line. Document 02, Wish 2
abbrev pub arrival_format : RowFormat
arrival_format = record { columns = arrival_columns; kind = 5 }

-- the Calnet cards by their key letters. Document 02, Wish 5
abbrev pub card_i : RowFormat
card_i = record { columns = identification_columns; kind = 6 }

abbrev pub card_l : RowFormat
card_l = record { columns = location_columns; kind = 7 }

abbrev pub card_e : RowFormat
card_e = record { columns = error_columns; kind = 8 }

abbrev pub card_m : RowFormat
card_m = record { columns = magnitude_columns; kind = 9 }

abbrev pub card_p : RowFormat
card_p = record { columns = pick_columns; kind = 10 }

abbrev pub card_a : RowFormat
card_a = record { columns = amplitude_columns; kind = 11 }

abbrev pub card_r : RowFormat
card_r = record { columns = remark_columns; kind = 12 }

-- the row formats beside the phase line, in the order of the code's table
abbrev pub other_formats : List RowFormat
other_formats = arrival_format ∷ card_i ∷ card_l ∷ card_e ∷ card_m ∷ card_p ∷ card_a ∷ card_r ∷ []

-- the blocks of phase lines and of arrival lines
abbrev pub phase_block : BlockFormat
phase_block = record { row = phase_format; header = phase_header }

abbrev pub arrival_block : BlockFormat
arrival_block = record { row = arrival_format; header = arrival_header }

-- ---- helping definitions about the code: where its table holds each format, and what it says of them

-- the columns of formats, one after the other
abbrev pub all_columns : List RowFormat → List Col
all_columns [] = []
all_columns (F ∷ Fs) = F.columns ++ all_columns Fs

-- the columns that the code's table holds
abbrev pub table_columns : List Col
table_columns = phase_columns ++ all_columns other_formats

-- a format with its first row there
pub record Place : Type 0 where
  pub format : RowFormat
  pub first : ℕ

abbrev pub place_at : RowFormat → ℕ → Place
place_at F first = record { format = F; first = first }

-- the format of a kind, of those from a row on; any number that names none is taken for the phase line's kind, 3
abbrev pub place_in : ℕ → ℕ → List RowFormat → Place
place_in kind first [] = place_at phase_format 0
place_in kind first (F ∷ Fs) =
    pick (eqb kind F.kind) (place_at F first) (place_in kind (first + length F.columns) Fs)

abbrev pub place_of : ℕ → Place
place_of kind = place_in kind (length phase_columns) other_formats

unfoldable pub format_of : ℕ → RowFormat
format_of kind = (place_of kind).format

-- the row of the code's table where a format begins
unfoldable pub first_row : ℕ → ℕ
first_row kind = (place_of kind).first

-- the header of a kind's blocks; any number that names none is taken for the phase line's kind
unfoldable pub header_of : ℕ → List ℕ
header_of kind = pick (eqb kind 5) arrival_header phase_header

-- the blocks of a kind
abbrev pub block_of : ℕ → BlockFormat
block_of kind = record { row = format_of kind; header = header_of kind }

-- a header over the first bytes of a place, and its length
pub record HeaderPut (kind n : ℕ) (from to : List ℕ) : Type 0 where
  pub size : n ≡ length (header_of kind)
  pub room : n ≤ length to
  pub bytes : to ≡ over (header_of kind) from

-- a format as the code has it: its place in the table, and its sizes, which fit the code's arrays
pub record Formed (kind : ℕ) (f : Format) : Type 0 where
  pub name : f.kind ≡ (format_of kind).kind
  pub first : f.first ≡ first_row kind
  pub rows : f.rows ≡ length (format_of kind).columns
  pub width : f.width ≡ widths (format_of kind).columns
  pub numbers : f.numbers ≡ all_slots (format_of kind).columns
  pub texts : f.texts ≡ all_texts (format_of kind).columns
  pub fits : Fits (format_of kind).columns
