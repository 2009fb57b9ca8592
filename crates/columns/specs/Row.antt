-- What a row of a file format asks of its list of columns: whole records, lines that are neither blank nor comments, sizes that fit.
-- Document 01, "The phase line", which the formats added later follow ("The block").
use Rattle.std.specs.Prelude.{ℕ, ◌+◌, ◌*◌, ◌≤◌, ◌<◌, List, [], ◌∷◌, Bool, true, false, ◌&&◌, nat_abs, take, drop, T, eqb, leb, ltb}
use Rattle.columns.specs.Answer.{pick, Answer, refusal, bad_form}
use Rattle.columns.specs.declared.column.Rule.TheVariants as U
use Rattle.columns.specs.Column.{Slot, missing, given, Rule, Col, numeric, text, letter, group, printed, slots, widths, all_slots, all_texts}
use Rattle.columns.specs.Writing.{write_line}
use Rattle.columns.specs.Table.{sizes_of, sound, Sound}

-- ---- whole records: the numbers of one column are there together or missing together. Document 01, "The phase line": a time is
-- blank, or none of its three is missing

unfoldable pub all_same : ℕ → List ℕ → Bool
all_same f [] = true
all_same f (x ∷ fs) = pick (eqb x f) (all_same f fs) false

unfoldable pub alike : List ℕ → Bool
alike [] = true
alike (f ∷ fs) = all_same f fs

-- the flags of each column's numbers are alike
unfoldable pub whole : List Col → List ℕ → Bool
whole [] fs = true
whole (c ∷ cs) fs = alike (take (slots c) fs) && whole cs (drop (slots c) fs)

-- a line of its own from a record that is whole, else 6 at column 0: bytes that are no record, in document 01's opening
abbrev pub write_whole : List Col → List ℕ → List Slot → List ℕ → ℕ → Answer (List ℕ)
write_whole cs fs ns t room = pick (whole cs fs) (write_line cs ns t room) (refusal bad_form 0)

-- ---- numbers that 64 bits hold, with either sign: a helping definition about the code

abbrev pub SmallSlot : Slot → Type 0
SmallSlot missing = Unit {0}
SmallSlot (given v) = nat_abs v < 9223372036854775808

abbrev pub SmallSlots : List Slot → Type 0
SmallSlots [] = Unit {0}
SmallSlots (x ∷ ns) = SmallSlot x × SmallSlots ns

-- ---- a line that is read is neither blank nor a comment. Document 01, "The phase line", "The block"

-- a text of w bytes whose first is no blank, or whose first two are both blanks
abbrev pub opens_text : ℕ → Rule → Bool
opens_text w U.AnyText = false
opens_text w U.NoBrackets = false
opens_text w U.NotBlankFirst = true
opens_text w U.NotAllBlank = false
opens_text w U.BlankOrFilled = leb 2 w

abbrev pub opens : Col → Bool
opens (numeric m q g) = false
opens (text w x) = opens_text w x
opens (letter s) = false
opens (group g) = false
opens (printed b w) = leb 1 w && ltb 32 b

-- the first column keeps the line from beginning with a blank and `(`
abbrev pub opens_row : List Col → Bool
opens_row [] = false
opens_row (c ∷ cs) = opens c

-- a column that may not be blank
abbrev pub fills_text : Rule → Bool
fills_text U.AnyText = false
fills_text U.NoBrackets = false
fills_text U.NotBlankFirst = true
fills_text U.NotAllBlank = true
fills_text U.BlankOrFilled = false

abbrev pub fills : Col → Bool
fills (numeric m q g) = q
fills (text w x) = fills_text x
fills (letter s) = false
fills (group g) = false
fills (printed b w) = leb 1 w && ltb 32 b

-- some column may not be blank
abbrev pub some_filled : List Col → Bool
some_filled [] = false
some_filled (c ∷ cs) = pick (fills c) true (some_filled cs)

-- ---- sizes: helping definitions about the code

-- the bytes of a record: its kind, a flag and eight bytes for each number, and its text
abbrev pub row_size : List Col → ℕ
row_size cs = 1 + all_slots cs + 8 * all_slots cs + all_texts cs

-- the room of the code's arrays: for a line, for a record's numbers, its text and its bytes
abbrev pub line_room : ℕ
line_room = 256

abbrev pub number_room : ℕ
number_room = 40

abbrev pub text_room : ℕ
text_room = 160

abbrev pub record_room : ℕ
record_room = 512

-- a list of columns that can be a row format: well-formed, no bracket barred, and within the sizes of the code's arrays
abbrev pub fits : List Col → Bool
fits cs =
    sound cs 0 0 0
    && (opens_row cs
    && (some_filled cs
    && (leb (sizes_of cs).width line_room
    && (leb (sizes_of cs).numbers number_room
    && (leb (sizes_of cs).chars text_room
    && leb (1 + (sizes_of cs).numbers + 8 * (sizes_of cs).numbers + (sizes_of cs).chars) record_room)))))

-- what that test says
pub record Fits (cs : List Col) : Type 0 where
  pub sound : Sound cs 0 0 0
  pub opened : T (opens_row cs)
  pub filled : T (some_filled cs)
  pub wide : widths cs ≤ line_room
  pub numbers : all_slots cs ≤ number_room
  pub chars : all_texts cs ≤ text_room
  pub bytes : row_size cs ≤ record_room
