-- Lines by their first letter: a list of kinds of lines, and which may come where. Document 01, "The block", its last paragraph, where
-- a first letter names the kind of line; the Calnet cards of document 02, Wish 5, are the first such lines.
use Rattle.std.specs.Prelude.{ℕ, Bool, not, List, [], ◌∷◌, get_or, eqb, leb}
use Rattle.columns.specs.Answer.{pick, Answer, ok, refusal, unless, wrong_length}
use Rattle.columns.specs.Column.{Rec, Col}
use Rattle.columns.specs.Writing.{in_place}
use Rattle.formats.specs.Cube.{wrong_type}
use Rattle.formats.specs.Row.{RowFormat, well_made, read_filled, read_row_into, write_row_from}
use Rattle.formats.specs.Block.{out_of_place}
use Rattle.formats.specs.Format.{format_of}
use Rattle.formats.specs.declared.lettered.LineKind.{LineKind}

-- ---- kinds: each has a letter; the number of its record's kind, by which its columns are found; its rank, and the highest rank of a
-- line that it may follow

-- what stands before the first line: above every rank, so that only a kind that may follow it begins
abbrev pub at_start : ℕ
at_start = 9

abbrev pub format_for : LineKind → RowFormat
format_for k = format_of k.kind

-- the kind whose lines open an event, and the others
pub record Lettered : Type 0 where
  pub opener : LineKind
  pub others : List LineKind

abbrev pub kinds_of : Lettered → List LineKind
kinds_of L = L.opener ∷ L.others

-- the kind that a letter names, else 3 at column 1
unfoldable pub named : List LineKind → ℕ → Answer LineKind
named [] b = refusal wrong_type 1
named (k ∷ ks) b = pick (eqb b k.letter) (ok k) (named ks b)

-- the kind of a line: an empty line 1; another letter 3
unfoldable pub leading : List LineKind → List ℕ → Answer LineKind
leading ks [] = refusal wrong_length 0
leading ks (b ∷ l) = named ks b

-- ---- a line of a run, after a line of rank `before`

-- 1 and 2 as for any row; 14 where it may not come there; then its columns
unfoldable pub read_placed : Bool → List Col → List ℕ → Answer Rec
read_placed placed cs l = well_made cs l (unless (not placed) out_of_place 0 (read_filled cs l))

abbrev pub read_as : Answer LineKind → ℕ → List ℕ → Answer Rec
read_as (ok k) before l = read_placed (leb before k.after) (format_for k).columns l
read_as (refusal n c) before l = refusal n c

-- an empty line 1; another letter 3; then as above
abbrev pub read_lettered : List LineKind → ℕ → List ℕ → Answer Rec
read_lettered ks before l = read_as (leading ks l) before l

-- ---- a line alone, read into a record: 11 where the place is short of `most` bytes, the largest record; an empty line 1; another
-- letter 3; then as a row of its kind

abbrev pub into_record : Answer LineKind → List ℕ → ℕ → Answer (List ℕ)
into_record (ok k) l room = read_row_into (format_for k) l room
into_record (refusal n c) l room = refusal n c

unfoldable pub read_lettered_into : List LineKind → ℕ → List ℕ → ℕ → Answer (List ℕ)
read_lettered_into ks most l room = in_place room most (into_record (leading ks l) l room)

-- ---- a line written from a record, whose first byte is its kind's number: bytes that begin with no kind's number are taken for the
-- opener's, of which they are no record (6)

-- the kind of a number, else the one given
unfoldable pub numbered : LineKind → List LineKind → ℕ → LineKind
numbered x [] b = x
numbered x (k ∷ ks) b = pick (eqb b k.kind) k (numbered x ks b)

abbrev pub kind_in : Lettered → List ℕ → LineKind
kind_in L r = numbered L.opener (kinds_of L) (get_or r 0 0)

abbrev pub record_format : Lettered → List ℕ → RowFormat
record_format L r = format_for (kind_in L r)

unfoldable pub write_lettered : Lettered → List ℕ → ℕ → Answer (List ℕ)
write_lettered L r room = write_row_from (record_format L r) r room

-- ---- helping definition about the code: the kinds that its opener and its others are

abbrev pub lettered_of : LineKind → List LineKind → Lettered
lettered_of opener others = record { opener = opener; others = others }
