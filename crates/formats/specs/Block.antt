-- A block of rows, as it is read, over its header and the reader of its lines. Document 01, "The block".
use Rattle.std.specs.Prelude.{ℕ, suc, ◌+◌, List, [], ◌∷◌, Bool, true, false, length, get_or, eqb, ltb, Result, Ok, Err}
use Rattle.columns.specs.Answer.{pick, Answer, ok, refusal, barred_byte}
use Rattle.columns.specs.Bytes.{is_none}
use Rattle.columns.specs.Column.{Rec}
use Rattle.columns.specs.Answer.{unless, differs, wrong_length}
use Rattle.formats.specs.Lines.{lines_of}
use Rattle.formats.specs.Row.{RowFormat, lowest_barred_byte, read_row}
use Rattle.columns.specs.Bytes.{same_bytes}
use Rattle.columns.specs.declared.Reason.{Reason}
use Rattle.columns.specs.declared.Reason.TheVariants as Why
use Rattle.formats.specs.Refused.{refused_at}
use Rattle.formats.specs.declared.LineRefusal.{LineRefusal}
use Rattle.formats.specs.declared.block.Counts.{Counts}

-- first line not the header, or comment before any row
abbrev pub out_of_place : Reason
out_of_place = Why.OutOfPlace

abbrev pub not_closed : Reason
not_closed = Why.NotClosed

-- ---- a line by itself

-- a byte before bytes whose trailing blanks are removed
abbrev pub before_trimmed : ℕ → List ℕ → List ℕ
before_trimmed b [] = pick (eqb b 32) [] (b ∷ [])
before_trimmed b (x ∷ s) = b ∷ x ∷ s

-- trailing blanks removed
unfoldable pub trim_end : List ℕ → List ℕ
trim_end [] = []
trim_end (b ∷ s) = before_trimmed b (trim_end s)

-- the last byte, 0 where there is none
unfoldable pub last_byte : List ℕ → ℕ
last_byte [] = 0
last_byte (b ∷ []) = b
last_byte (b ∷ x ∷ s) = last_byte (x ∷ s)

-- the first line, trailing blanks removed, is the header
abbrev pub is_header : List ℕ → List ℕ → Bool
is_header header l = same_bytes (trim_end l) header

-- after the header, a line of blanks only (or of no bytes) closes the block; a comment begins with a blank and `(`; every
-- other line is read as a row of the format, as a phase line in a phase block
pub data Kind : Type 0 where
  closing : Kind
  comment : Kind
  row : Kind

abbrev pub begins_comment : List ℕ → Bool
begins_comment l = pick (eqb (get_or l 0 0) 32) (eqb (get_or l 1 0) 40) false

abbrev pub kind_of : List ℕ → Kind
kind_of l = pick (is_none (trim_end l)) closing (pick (begins_comment l) comment row)

-- a comment has at most 1,024 bytes and its last non-blank is `)`; it stands after a row, where one was `seen`
-- order: 1, 2, 15, 14
unfoldable pub read_comment : Bool → List ℕ → Answer (List ℕ)
read_comment seen l =
    unless (ltb 1024 (length l)) wrong_length 0
    (unless (differs (lowest_barred_byte l) 0) barred_byte (lowest_barred_byte l)
    (unless (differs (last_byte (trim_end l)) 41) not_closed 0
    (pick seen (ok l) (refusal out_of_place 0))))

-- ---- the lines of a block: the answer has the count of rows, the comment count and the bytes used; or a refusal's number,
-- column and line

abbrev pub Block : Type 0
Block = Result Counts LineRefusal

abbrev pub read_as : ℕ → ℕ → ℕ → Block
read_as rows comments used = Ok (record { rows = rows; comments = comments; used = used })

-- a line that was read adds to what is answered for the lines after it
abbrev pub plus : ℕ → ℕ → ℕ → Block → Block
plus p k u (Ok c) = read_as (p + c.rows) (k + c.comments) (u + c.used)
plus p k u (Err e) = Err e

-- the answer for line n: its refusal, or what is answered with the lines after it
abbrev pub on_line : {A : Type 0} → ℕ → Answer A → Block → Block
on_line n (refusal number column) rest = refused_at number column n
on_line n (ok x) rest = rest

-- a line and its newline
abbrev pub with_newline : List ℕ → ℕ
with_newline l = length l + 1

-- line n, a line of the given kind; `rest` is what is answered for the lines after it, by whether a row was seen
abbrev pub read_line : (List ℕ → Answer Rec) → Kind → ℕ → Bool → List ℕ → (Bool → Block) → Block
read_line read closing n seen l rest = read_as 0 0 (with_newline l)
read_line read comment n seen l rest = on_line n (read_comment seen l) (plus 0 1 (with_newline l) (rest seen))
read_line read row n seen l rest = on_line n (read l) (plus 1 0 (with_newline l) (rest true))

-- the lines from line n on, until a closing line or the end
unfoldable pub read_lines : (List ℕ → Answer Rec) → ℕ → Bool → List (List ℕ) → Block
read_lines read n seen [] = read_as 0 0 0
read_lines read n seen (l ∷ ls) = read_line read (kind_of l) n seen l (λ s. read_lines read (suc n) s ls)

-- the first line is the header, or 14 alone
unfoldable pub read_headed : List ℕ → (List ℕ → Answer Rec) → List (List ℕ) → Block
read_headed header read [] = refused_at out_of_place 0 1
read_headed header read (l ∷ ls) =
    pick (is_header header l) (plus 0 0 (with_newline l) (read_lines read 2 false ls)) (refused_at out_of_place 0 1)

-- the block's last line may have no newline: no more bytes are used than there are
abbrev pub at_most : ℕ → Block → Block
at_most size (Ok c) = read_as c.rows c.comments (pick (ltb size c.used) size c.used)
at_most size (Err e) = Err e

-- at most 65,536 bytes
unfoldable pub read_block_by : List ℕ → (List ℕ → Answer Rec) → List ℕ → Block
read_block_by header read b =
    pick (ltb 65536 (length b)) (refused_at wrong_length 0 0) (at_most (length b) (read_headed header read (lines_of b)))

-- the blocks of a row format, under their header
pub record BlockFormat : Type 0 where
  pub row : RowFormat
  pub header : List ℕ

abbrev pub read_block : BlockFormat → List ℕ → Block
read_block F b = read_block_by F.header (read_row F.row.columns) b
