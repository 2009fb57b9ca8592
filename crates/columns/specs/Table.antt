-- A list of columns as a table of flat numbers, a record as flat arrays, and what the table's reader and writers owe. The table and
-- the arrays are helping definitions about the code; what a call owes is document 01's, "Numbers answered", "What each call owes".
use Rattle.std.specs.Prelude.{ℕ, ◌+◌, ◌/◌, ◌%◌, ◌≤◌, ◌<◌, ◌≡◌, List, [], ◌∷◌, ◌++◌, Bool, true, ◌&&◌, ℤ, pos, length, take, drop, get_or, T, eqb, leb, Result, Ok, Err, ⊤}
use Rattle.std.proofs.Math.Seq.{slice}
use Rattle.columns.specs.Answer.{pick, Answer, ok, refusal, refusal_at}
use Rattle.columns.specs.Number.{form_width}
use Rattle.columns.specs.declared.column.Rule.TheVariants as U
use Rattle.columns.specs.Column.{Slot, missing, given, Rec, Range, as_held, not_negative, calendar_day, span, Rule, clock_time, calendar_date, group_width, Col, numeric, text, letter, group, printed, width, slots, texts, good_col, good, widths, all_slots, all_texts, in_stretch, brackets_in}
use Rattle.columns.specs.declared.number.Form.TheVariants as N
use Rattle.columns.specs.declared.group.Group.{Group}
use Rattle.columns.specs.declared.column.Column.{Column}
use Rattle.columns.specs.declared.column.Column.TheVariants as K
use Rattle.columns.specs.declared.column.Layout.{Layout}
use Rattle.columns.specs.declared.Refusal.{Refusal}

-- a range by its number: 0 as held, 1 not negative, 2 a day, else the span whose ends stand at that place of the ranges
abbrev pub range_at : List ℤ → ℕ → Range
range_at rs k =
    pick (eqb k 0) as_held
    (pick (eqb k 1) not_negative
    (pick (eqb k 2) calendar_day (span (get_or rs k (pos 0)) (get_or rs (k + 1) (pos 0)))))

-- a text's rule by its number
abbrev pub rule_at : ℕ → Rule
rule_at k =
    pick (eqb k 0) U.AnyText
    (pick (eqb k 1) U.NoBrackets (pick (eqb k 2) U.NotBlankFirst (pick (eqb k 3) U.NotAllBlank U.BlankOrFilled)))

-- a group by its number: 0 the clock time, else the date
abbrev pub group_at : ℕ → Group
group_at k = pick (eqb k 0) clock_time calendar_date

-- ---- the table: one number a column, its parts from the highest: kind, place, width, required, last

-- kinds 0 and 1 are numbers, iW of its width W and fW.D of its place D (the last part is the range), 2 text (its rule), 3 a letter of a
-- set (as many letters from its place), 4 a group (which), any other a printed byte (its code)
abbrev pub column_by : ℕ → ℕ → ℕ → Bool → ℕ → Column
column_by kind place width required last =
    pick (eqb kind 0) (K.Number (N.Integer width) required last)
    (pick (eqb kind 1) (K.Number (N.Decimal width place) required last)
    (pick (eqb kind 2) (K.Text width (rule_at last))
    (pick (eqb kind 3) (K.Letter place last)
    (pick (eqb kind 4) (K.Group last) (K.Printed width last)))))

abbrev pub column_in : ℕ → Column
column_in row =
    column_by (row / 16777216) (row / 32768 % 512) (row / 256 % 128) (leb 128 (row % 256)) (row % 128)

-- a column whose letters are from a place below p on, and whose last part is below l; a text's rule is one of its own
abbrev pub Within : ℕ → ℕ → Column → Type 0
Within p l (K.Number m q k) = k < l
Within p l (K.Text w x) = Unit {0}
Within p l (K.Letter i n) = (i < p) × (n < l)
Within p l (K.Group k) = k < l
Within p l (K.Printed w b) = b < l

-- the decimals of a column: those of a decimal's
abbrev pub decimals_by : Column → ℕ
decimals_by (K.Number (N.Integer w) q k) = 0
decimals_by (K.Number (N.Decimal w d) q k) = d
decimals_by (K.Text w x) = 0
decimals_by (K.Letter i n) = 0
decimals_by (K.Group k) = 0
decimals_by (K.Printed w b) = 0

-- the column that a row stands for, with the ranges and the letters of its table
abbrev pub col_of : Column → List ℤ → List ℕ → Col
col_of (K.Number m q k) rs ls = numeric m q (range_at rs k)
col_of (K.Text w x) rs ls = text w x
col_of (K.Letter i n) rs ls = letter (slice i (i + n) ls)
col_of (K.Group k) rs ls = group (group_at k)
col_of (K.Printed w b) rs ls = printed b w

-- the columns of a table's rows
abbrev pub columns_of : List ℕ → List ℤ → List ℕ → List Col
columns_of [] rs ls = []
columns_of (row ∷ s) rs ls = col_of (column_in row) rs ls ∷ columns_of s rs ls

abbrev pub columns_in : Layout → List Col
columns_in x = columns_of x.rows.now x.ranges.now x.letters.now

-- ---- helping definitions: what is computed of a written-out list of columns, one test and the sizes

-- what the columns of a list take
pub record Sizes : Type 0 where
  pub width : ℕ
  pub numbers : ℕ
  pub chars : ℕ

abbrev pub sizes_of : List Col → Sizes
sizes_of [] = record { width = 0; numbers = 0; chars = 0 }
sizes_of (c ∷ cs) =
    record {
      width = width c + (sizes_of cs).width;
      numbers = slots c + (sizes_of cs).numbers;
      chars = texts c + (sizes_of cs).chars;
    }

-- the first column comes after `at` bytes; each is well-formed, and brackets are barred in the columns `from` to `to` and no other
abbrev pub sound : List Col → ℕ → ℕ → ℕ → Bool
sound [] at from to = true
sound (c ∷ cs) at from to = (good_col c && in_stretch c at from to) && sound cs (at + width c) from to

-- what that test says, and the sizes
pub record Sound (cs : List Col) (at from to : ℕ) : Type 0 where
  pub fine : T (good cs)
  pub brackets : T (brackets_in cs at from to)
  pub wide : widths cs ≡ (sizes_of cs).width
  pub numbers : all_slots cs ≡ (sizes_of cs).numbers
  pub chars : all_texts cs ≡ (sizes_of cs).chars

-- bytes of the line, numbers and text bytes that a row's column takes: a letter has 1 byte, a group those of its parts
abbrev pub width_by : Column → ℕ
width_by (K.Number m q k) = form_width m
width_by (K.Text w x) = w
width_by (K.Letter i n) = 1
width_by (K.Group k) = group_width (group_at k)
width_by (K.Printed w b) = w

abbrev pub slots_by : Column → ℕ
slots_by (K.Number m q k) = 1
slots_by (K.Text w x) = 0
slots_by (K.Letter i n) = 0
slots_by (K.Group k) = 3
slots_by (K.Printed w b) = 0

abbrev pub texts_by : Column → ℕ
texts_by (K.Number m q k) = 0
texts_by (K.Text w x) = w
texts_by (K.Letter i n) = 1
texts_by (K.Group k) = 0
texts_by (K.Printed w b) = 0

-- ---- the record: a flag that is 0 says that the number is missing, and then the number is 0. Document 01, "Numbers in columns":
-- a missing number carries no number

abbrev pub slot_of : ℕ → ℤ → Slot
slot_of f v = pick (eqb f 0) missing (given v)

unfoldable pub slots_of : List ℕ → List ℤ → List Slot
slots_of [] vs = []
slots_of (f ∷ fs) [] = []
slots_of (f ∷ fs) (v ∷ vs) = slot_of f v ∷ slots_of fs vs

abbrev pub flag_of : Slot → ℕ
flag_of missing = 0
flag_of (given v) = 1

abbrev pub value_of : Slot → ℤ
value_of missing = pos 0
value_of (given v) = v

unfoldable pub flags_of : List Slot → List ℕ
flags_of [] = []
flags_of (x ∷ ns) = flag_of x ∷ flags_of ns

unfoldable pub values_of : List Slot → List ℤ
values_of [] = []
values_of (x ∷ ns) = value_of x ∷ values_of ns

-- ---- what a call owes. Document 01, "Numbers answered": a refusal changes nothing lent, and bytes past a written line stay

-- xs over the first places of l
abbrev pub over : {A : Type 0} → List A → List A → List A
over xs l = xs ++ drop (length xs) l

-- xs over the places of l from place k on
abbrev pub placed : {A : Type 0} → ℕ → List A → List A → List A
placed k xs l = take k l ++ over xs (drop k l)

-- an answer as the code gives it, without what was asked for
abbrev pub Outcome : Type 0
Outcome = Result ⊤ Refusal

abbrev pub outcome_of : {A : Type 0} → Answer A → Outcome
outcome_of (ok x) = Ok tt
outcome_of (refusal n k) = Err (refusal_at n k)

-- the lent bytes after an answer: the line over the first of them, or nothing changed
abbrev pub laid : Answer (List ℕ) → List ℕ → List ℕ
laid (ok ys) out = over ys out
laid (refusal n k) out = out

-- a column's answer, and the bytes lent for it: nothing is changed where it is refused
pub record Wrote (a : Answer (List ℕ)) (r : Outcome) (from to : List ℕ) : Type 0 where
  pub answer : r ≡ outcome_of a
  pub bytes : to ≡ laid a from

-- columns written one after the other, after the first `start` bytes: what was written before the first refusal stands there
pub record WrotePart (a : Answer (List ℕ)) (part : List ℕ) (start : ℕ) (r : Outcome) (from to : List ℕ) : Type 0 where
  pub answer : r ≡ outcome_of a
  pub bytes : to ≡ placed start part from

-- columns read one after the other: what was read before the first refusal stands in the lent record
pub record ReadPart (a : Answer Rec) (part : Rec) (r : Outcome) (f f₁ : List ℕ) (v v₁ : List ℤ) (t t₁ : List ℕ) : Type 0 where
  pub answer : r ≡ outcome_of a
  pub flags : f₁ ≡ over (flags_of part.numbers) f
  pub values : v₁ ≡ over (values_of part.numbers) v
  pub chars : t₁ ≡ over part.chars t

-- ---- what a call asks for: helping definitions about the code

-- a column's places in a line and a record: its width w from `at`, in a line of at most 4096 bytes; its numbers from k, of nf;
-- its text from t, of nt
pub record Ready (c : Col) (w at k nf nv t nt : ℕ) : Type 0 where
  pub fine : T (good_col c)
  pub wide : w ≡ width c
  pub low : at + w ≤ 4096
  pub same : nf ≡ nv
  pub numbers : k + slots c ≤ nf
  pub chars : t + texts c ≤ nt

-- a table with places for its line, which starts after the first `start` bytes, and for its record: numbers from k on, of nf;
-- text from t on, of nt
pub record Table (cs : List Col) (start room k nf nv t nt : ℕ) : Type 0 where
  pub fine : T (good cs)
  pub line : start + widths cs ≤ room
  pub low : room ≤ 4096
  pub same : nf ≡ nv
  pub numbers : k + all_slots cs ≤ nf
  pub chars : t + all_texts cs ≤ nt
