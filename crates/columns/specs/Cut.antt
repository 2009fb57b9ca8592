-- A list of columns cut at a place: lines that end before some columns of their record, which are left out of them. Document 02,
-- Wish 7.
use Rattle.std.specs.Prelude.{ℕ, ◌+◌, ◌-◌, ◌≤◌, ◌≡◌, List, [], ◌∷◌, ◌++◌, Bool, true, not, ◌&&◌, length, take, drop, replicate, eqb}
use Rattle.columns.specs.Answer.{pick, Answer, ok, refusal, unless, differs, bad_form}
use Rattle.columns.specs.Bytes.{all_blank, member}
use Rattle.columns.specs.Column.{Slot, missing, Rec, joined, Col, numeric, text, letter, group, printed, width, slots, texts, widths, all_slots, all_texts}
use Rattle.columns.specs.Writing.{in_place, write_columns}
use Rattle.columns.specs.Row.{all_same, whole, fills_text}
use Rattle.columns.specs.Table.{columns_of, Table}
use Rattle.columns.specs.declared.Reason.{Reason}
use Rattle.columns.specs.declared.Reason.TheVariants as R
use Rattle.columns.specs.declared.column.Layout.{Layout}
use Rattle.columns.specs.declared.row.Past.{Past}

-- a filled field that a line has no columns for
abbrev pub field_dropped : Reason
field_dropped = R.Dropped

-- ---- read: what the columns left out have in the record, numbers missing and text blank

abbrev pub left_out : List Col → Rec
left_out bs = record { numbers = replicate (all_slots bs) missing; chars = replicate (all_texts bs) 32 }

abbrev pub with_left_out : List Col → Answer Rec → Answer Rec
with_left_out bs (ok m) = ok (joined m (left_out bs))
with_left_out bs (refusal n k) = refusal n k

-- ---- written: a field is filled where a number is not missing or a text is not all blank, before its bytes are looked at

-- a column with these flags and this text is not filled
abbrev pub not_filled : List ℕ → List ℕ → Bool
not_filled fs t = all_same 0 fs && all_blank t

-- the first column of the first filled field, after the first `at` bytes; 0 where none is filled
unfoldable pub first_filled : List Col → ℕ → List ℕ → List ℕ → ℕ
first_filled [] at fs t = 0
first_filled (c ∷ cs) at fs t =
    pick (not_filled (take (slots c) fs) (take (texts c) t))
    (first_filled cs (at + width c) (drop (slots c) fs) (drop (texts c) t))
    (at + 1)

-- the same of the columns bs, left out of a line of the columns cs
abbrev pub filled_past : List Col → List Col → List ℕ → List ℕ → ℕ
filled_past cs bs fs t = first_filled bs (widths cs) (drop (all_slots cs) fs) (drop (all_texts cs) t)

-- a line of the columns cs: 11; 17 at the first filled field that it would drop; then its columns
unfoldable pub write_cut : List Col → List Col → List ℕ → List Slot → List ℕ → ℕ → Answer (List ℕ)
write_cut cs bs fs ns t room =
    in_place room (widths cs)
    (unless (differs (filled_past cs bs fs t) 0) field_dropped (filled_past cs bs fs t) (write_columns cs [] 0 ns t))

-- a line of its own from a record that is whole, else 6 at column 0: bytes that are no record, in document 01's opening
abbrev pub write_cut_whole : List Col → List Col → List ℕ → List Slot → List ℕ → ℕ → Answer (List ℕ)
write_cut_whole cs bs fs ns t room = pick (whole (cs ++ bs) fs) (write_cut cs bs fs ns t room) (refusal bad_form 0)

-- ---- columns that may be blank, and so be left out of a line

abbrev pub may_be_blank : Col → Bool
may_be_blank (numeric m q g) = not q
may_be_blank (text w x) = not (fills_text x)
may_be_blank (letter s) = member 32 s
may_be_blank (group g) = true
may_be_blank (printed b w) = eqb b 32

abbrev pub all_may_be_blank : List Col → Bool
all_may_be_blank [] = true
all_may_be_blank (c ∷ cs) = may_be_blank c && all_may_be_blank cs

-- ---- helping definitions about the code

-- the columns bs past those of a line's, in numbers
abbrev pub past_of : List Col → List Col → Past
past_of cs bs = record { rows = length bs; numbers = all_slots cs; texts = all_texts cs }

-- of a table with rows for both, the columns of the line, and those past its end
abbrev pub line_part : Layout → Past → List Col
line_part x past = columns_of (take (length x.rows.now - past.rows) x.rows.now) x.ranges.now x.letters.now

abbrev pub past_part : Layout → Past → List Col
past_part x past = columns_of (drop (length x.rows.now - past.rows) x.rows.now) x.ranges.now x.letters.now

-- a table of some rows for both, and a record of nf numbers and nt text bytes with room for both
pub record Writable (cs bs : List Col) (past : Past) (rows width nf nv nt : ℕ) : Type 0 where
  pub table : Table (cs ++ bs) 0 512 0 nf nv 0 nt
  pub past_is : past ≡ past_of cs bs
  pub inside : past.rows ≤ rows
  pub wide : width ≡ widths cs
