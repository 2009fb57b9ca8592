-- A row of a file format, as it is read and written, and the bytes of its record, over its list of columns. Document 01, "The
-- phase line", whose size, blank-filling, full written width and order the formats added later follow; docs/RECORDS.md.
use Rattle.std.specs.Prelude.{ℕ, ◌+◌, ◌*◌, ◌≤◌, ◌<◌, ◌≡◌, Ok, Err, List, [], ◌&&◌, length, take, drop, replicate, ltb}
use Rattle.columns.specs.Answer.{pick, Answer, ok, refusal, refusal_at, unless, differs, wrong_length, barred_byte, bad_form}
use Rattle.columns.specs.Bytes.{barred, same_bytes}
use Rattle.columns.specs.Column.{Rec, Col, widths, all_slots, all_texts}
use Rattle.columns.specs.Reading.{nothing, read_columns, read_part}
use Rattle.columns.specs.Writing.{in_place, write_line}
use Rattle.columns.specs.Table.{Outcome, flags_of, values_of, over}
use Rattle.columns.specs.Row.{whole, row_size}
use Rattle.formats.specs.Record.{packed, slots_in}

-- a format is its columns and the number of its record's kind
pub record RowFormat : Type 0 where
  pub columns : List Col
  pub kind : ℕ

-- ---- the line

-- the lowest barred byte; brackets are text here
abbrev pub lowest_barred_byte : List ℕ → ℕ
lowest_barred_byte l = barred 0 0 1 l

-- a shorter line is read as if blank-filled to the full width
abbrev pub blank_filled : ℕ → List ℕ → List ℕ
blank_filled width l = over l (replicate width 32)

-- what is asked of a line before anything else: over the full width 1; the lowest barred byte 2
abbrev pub well_made : List Col → List ℕ → Answer Rec → Answer Rec
well_made cs l rest =
    unless (ltb (widths cs) (length l)) wrong_length 0
    (unless (differs (lowest_barred_byte l) 0) barred_byte (lowest_barred_byte l) rest)

-- what that comes to for a line
pub data Made (cs : List Col) (l : List ℕ) : Outcome → Type 0 where
  too_long : widths cs < length l → Made cs l (Err (refusal_at wrong_length 0))
  has_barred : length l ≤ widths cs → (lowest_barred_byte l ≡ 0 → ⊥) → Made cs l (Err (refusal_at barred_byte (lowest_barred_byte l)))
  well : length l ≤ widths cs → lowest_barred_byte l ≡ 0 → Made cs l (Ok tt)

-- the columns of a line, left to right, 4 to 8
abbrev pub read_filled : List Col → List ℕ → Answer Rec
read_filled cs l = read_columns cs [] 0 (blank_filled (widths cs) l)

-- a line: 1, 2, then its columns
unfoldable pub read_row : List Col → List ℕ → Answer Rec
read_row cs l = well_made cs l (read_filled cs l)

-- what stands in the lent record: nothing where the length or a byte is refused, else what was read before the first refusal
unfoldable pub row_part : List Col → List ℕ → Rec
row_part cs l =
    pick (ltb (widths cs) (length l)) nothing
    (pick (differs (lowest_barred_byte l) 0) nothing (read_part cs [] 0 (blank_filled (widths cs) l)))

-- 11 where the place is short of the full width; then columns left to right, each 5, 2, 10, 7, 8
abbrev pub write_row : List Col → Rec → ℕ → Answer (List ℕ)
write_row cs m room = write_line cs m.numbers m.chars room

-- ---- the record's bytes: its kind, its flags, its numbers, its text

abbrev pub row_bytes : RowFormat → Rec → List ℕ
row_bytes F m = packed F.kind (flags_of m.numbers) (values_of m.numbers) m.chars

-- the record that some bytes name
abbrev pub row_in : List Col → List ℕ → Rec
row_in cs r =
    record {
      numbers = slots_in (all_slots cs) (drop 1 r) (drop (1 + all_slots cs) r);
      chars = take (all_texts cs) (drop (1 + all_slots cs + 8 * all_slots cs) r);
    }

-- bytes are a record when they are those of the record that they name, and that is whole; else 6 at column 0
unfoldable pub named_row : RowFormat → List ℕ → Answer Rec
named_row F r =
    pick (same_bytes (row_bytes F (row_in F.columns r)) r && whole F.columns (flags_of (row_in F.columns r).numbers))
    (ok (row_in F.columns r)) (refusal bad_form 0)

-- only the first bytes, as many as a record has, count
unfoldable pub read_row_record : RowFormat → List ℕ → Answer Rec
read_row_record F r =
    unless (ltb (length r) (row_size F.columns)) bad_form 0 (named_row F (take (row_size F.columns) r))

-- ---- a line read into a record: 11 first where the place for it is short, then the line's refusals

abbrev pub row_answer : RowFormat → Answer Rec → Answer (List ℕ)
row_answer F (ok m) = ok (row_bytes F m)
row_answer F (refusal n k) = refusal n k

unfoldable pub read_row_into : RowFormat → List ℕ → ℕ → Answer (List ℕ)
read_row_into F l room =
    in_place room (row_size F.columns) (row_answer F (read_row F.columns l))

-- ---- a line written from a record: 6 where there is none, then as the record is written

abbrev pub row_line_answer : List Col → Answer Rec → ℕ → Answer (List ℕ)
row_line_answer cs (ok m) room = write_row cs m room
row_line_answer cs (refusal n k) room = refusal n k

unfoldable pub write_row_from : RowFormat → List ℕ → ℕ → Answer (List ℕ)
write_row_from F r room = row_line_answer F.columns (read_row_record F r) room
