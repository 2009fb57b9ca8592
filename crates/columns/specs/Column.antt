-- A line format is a list of columns; a record is its numbers and its text bytes, in the order of the columns.
use Rattle.std.specs.Prelude.{ℕ, ◌+◌, ◌-◌, List, [], ◌∷◌, ◌++◌, Bool, true, false, not, ◌&&◌, ℤ, pos, length, get_or, leb, ltb}
use Rattle.std.specs.Int.Signed.{lt_z, le_z}
use Rattle.columns.specs.Answer.{pick}
use Rattle.columns.specs.Bytes.{is_text}
use Rattle.columns.specs.Calendar.{days_in}
use Rattle.columns.specs.Number.{form_width, good_form}
use Rattle.columns.specs.declared.number.Field.{Field}
use Rattle.columns.specs.declared.number.Field.TheVariants as F
use Rattle.columns.specs.declared.number.Form.{Form}
use Rattle.columns.specs.declared.number.Form.TheVariants as N
pub use Rattle.columns.specs.declared.column.Rule.{Rule}
use Rattle.columns.specs.declared.column.Rule.TheVariants as U
use Rattle.columns.specs.declared.group.Part.{Part}
use Rattle.columns.specs.declared.group.Group.{Group}

-- a number of a record: document 01 keeps missing apart from zero
pub data Slot : Type 0 where
  missing : Slot
  given : ℤ → Slot

-- the number that a field gives
abbrev pub slot_in : Field → Slot
slot_in F.Missing = missing
slot_in F.Bad = missing
slot_in (F.Value v) = given v

pub record Rec : Type 0 where
  pub numbers : List Slot
  pub chars : List ℕ

abbrev pub joined : Rec → Rec → Rec
joined a b = record { numbers = a.numbers ++ b.numbers; chars = a.chars ++ b.chars }

-- ---- ranges: the numbers that a column may hold

-- whatever the column holds; whatever it holds from zero on; a day of the calendar; from one end to the other
pub data Range : Type 0 where
  as_held : Range
  not_negative : Range
  calendar_day : Range
  span : ℤ → ℤ → Range

abbrev pub within : ℤ → ℤ → ℤ → Bool
within lo hi v = pick (lt_z v lo) false (pick (lt_z hi v) false true)

-- the last day of a month of a year; 31 where one of them is missing
abbrev pub last_day : Slot → Slot → ℕ
last_day missing m = 31
last_day (given y) missing = 31
last_day (given y) (given m) = days_in y m

-- the last day after the numbers `seen`: the year and the month are the last two
unfoldable pub last_day_after : List Slot → ℕ
last_day_after seen =
    pick (ltb (length seen) 2) 31
    (last_day (get_or seen (length seen - 2) missing) (get_or seen (length seen - 1) missing))

-- the range step: whether a column may hold v, after the numbers that were read before it
unfoldable pub allowed : Range → List Slot → ℤ → Bool
allowed as_held seen v = true
allowed not_negative seen v = le_z (pos 0) v
allowed calendar_day seen v = within (pos 1) (pos (last_day_after seen)) v
allowed (span lo hi) seen v = within lo hi v

-- the range of a number of a group
abbrev pub part_range : Part → Range
part_range p = span p.low p.high

-- ---- columns

-- a number may have to be there
abbrev pub required : Bool
required = true

abbrev pub optional : Bool
optional = false

-- what a text may be, `Rule`: any text; with no brackets (document 01, "The E line"); not beginning with a blank ("The phase line"); not
-- all blank; all blank, or not beginning with a blank (document 02, Wish 2: station and network)
abbrev pub any_text : Rule
any_text = U.AnyText

abbrev pub no_brackets : Rule
no_brackets = U.NoBrackets

abbrev pub not_blank_first : Rule
not_blank_first = U.NotBlankFirst

abbrev pub not_all_blank : Rule
not_all_blank = U.NotAllBlank

abbrev pub blank_or_filled : Rule
blank_or_filled = U.BlankOrFilled

-- a number; text; a letter of a set; a group; columns that all hold one printed byte
pub data Col : Type 0 where
  numeric : Form → Bool → Range → Col
  text : ℕ → Rule → Col
  letter : List ℕ → Col
  group : Group → Col
  printed : ℕ → ℕ → Col

-- iW and fW.D
abbrev pub integer : ℕ → Bool → Range → Col
integer w q g = numeric (N.Integer w) q g

abbrev pub decimal : ℕ → ℕ → Bool → Range → Col
decimal w d q g = numeric (N.Decimal w d) q g

-- a stretch of blanks
abbrev pub blank : ℕ → Col
blank w = printed 32 w

-- a mark, as a card's key letter. Document 02, Wish 5
abbrev pub mark : ℕ → Col
mark b = printed b 1

-- the clock time i2:i2:f6.3: hour and minute as for E, thousandths of a second. Document 01, "The phase line"
abbrev pub clock_time : Group
clock_time =
    record {
      mark = 58;
      dated = false;
      first = record { form = N.Integer 2; low = pos 0; high = pos 23 };
      second = record { form = N.Integer 2; low = pos 0; high = pos 59 };
      third = record { form = N.Decimal 6 3; low = pos 0; high = pos 59999 };
    }

abbrev pub clock : Col
clock = group clock_time

-- the date i4/i2/i2: year 0 to 9999, month and day as for E, a day of the calendar. Document 02, Wish 2 and Wish 3
abbrev pub calendar_date : Group
calendar_date =
    record {
      mark = 47;
      dated = true;
      first = record { form = N.Integer 4; low = pos 0; high = pos 9999 };
      second = record { form = N.Integer 2; low = pos 1; high = pos 12 };
      third = record { form = N.Integer 2; low = pos 1; high = pos 31 };
    }

abbrev pub date : Col
date = group calendar_date

-- ---- bytes of the line, numbers of the record and text bytes of the record that a column takes

-- where the parts of a group begin
abbrev pub first_width : Group → ℕ
first_width g = form_width g.first.form

abbrev pub second_start : Group → ℕ
second_start g = first_width g + 1

abbrev pub second_end : Group → ℕ
second_end g = second_start g + form_width g.second.form

abbrev pub third_start : Group → ℕ
third_start g = second_end g + 1

abbrev pub group_width : Group → ℕ
group_width g = third_start g + form_width g.third.form

abbrev pub width : Col → ℕ
width (numeric f q g) = form_width f
width (text w r) = w
width (letter s) = 1
width (group g) = group_width g
width (printed b w) = w

abbrev pub slots : Col → ℕ
slots (numeric f q g) = 1
slots (text w r) = 0
slots (letter s) = 0
slots (group g) = 3
slots (printed b w) = 0

abbrev pub texts : Col → ℕ
texts (numeric f q g) = 0
texts (text w r) = w
texts (letter s) = 1
texts (group g) = 0
texts (printed b w) = 0

-- well-formed: the forms of numbers are; text has a byte; a printed byte is text; a group's mark is a mark byte and its numbers are not negative
abbrev pub good_part : Part → Bool
good_part p = good_form p.form && not (lt_z p.low (pos 0))

abbrev pub good_group : Group → Bool
good_group g = (leb 45 g.mark && leb g.mark 58) && (good_part g.first && (good_part g.second && good_part g.third))

abbrev pub good_col : Col → Bool
good_col (numeric f q g) = good_form f
good_col (text w r) = leb 1 w
good_col (letter s) = true
good_col (group g) = good_group g
good_col (printed b w) = is_text b

unfoldable pub good : List Col → Bool
good [] = true
good (c ∷ cs) = good_col c && good cs

unfoldable pub widths : List Col → ℕ
widths [] = 0
widths (c ∷ cs) = width c + widths cs

unfoldable pub all_slots : List Col → ℕ
all_slots [] = 0
all_slots (c ∷ cs) = slots c + all_slots cs

unfoldable pub all_texts : List Col → ℕ
all_texts [] = 0
all_texts (c ∷ cs) = texts c + all_texts cs

-- ---- brackets

abbrev pub rule_bars : Rule → Bool
rule_bars U.AnyText = false
rule_bars U.NoBrackets = true
rule_bars U.NotBlankFirst = false
rule_bars U.NotAllBlank = false
rule_bars U.BlankOrFilled = false

-- whether a column bars brackets
abbrev pub bars_of : Col → Bool
bars_of (numeric f q g) = false
bars_of (text w r) = rule_bars r
bars_of (letter s) = false
bars_of (group g) = false
bars_of (printed b w) = false

-- the columns that bar brackets are those of the stretch `from` to `to`, and no other; the first comes after `at` bytes
abbrev pub in_stretch : Col → ℕ → ℕ → ℕ → Bool
in_stretch c at from to =
    pick (bars_of c) (leb from (at + 1) && leb (at + width c) to)
    (pick (ltb (at + width c) from) true (ltb to (at + 1)))

unfoldable pub brackets_in : List Col → ℕ → ℕ → ℕ → Bool
brackets_in [] at from to = true
brackets_in (c ∷ cs) at from to = in_stretch c at from to && brackets_in cs (at + width c) from to
