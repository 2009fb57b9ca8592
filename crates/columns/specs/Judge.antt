-- A line judged by a table of integers and text, with nothing stored: helping definitions about the code that judges E lines.
-- Document 01, "Numbers answered": accepted is what is read with no refusal.
use Rattle.std.specs.Prelude.{ℕ, ◌+◌, ◌-◌, ◌≤◌, ◌≡◌, Bool, true, false, ◌&&◌, List, [], ◌∷◌, T, eqb}
use Rattle.std.proofs.Math.Seq.{slice}
use Rattle.columns.specs.Answer.{pick, is_ok}
use Rattle.columns.specs.Number.{int_field}
use Rattle.columns.specs.Column.{Slot, slot_in, Range, as_held, not_negative, calendar_day, span, last_day, last_day_after, Col, numeric, text, letter, group, printed, good, widths}
use Rattle.columns.specs.Reading.{read_cell}
use Rattle.columns.specs.declared.number.Form.TheVariants as N

-- integers and text
abbrev pub simple_col : Col → Bool
simple_col (numeric (N.Integer w) q g) = true
simple_col (numeric (N.Decimal w d) q g) = false
simple_col (text w r) = true
simple_col (letter s) = false
simple_col (group g) = false
simple_col (printed b w) = false

-- a range that goes by the numbers before it, and a column with it: a day
abbrev pub looks_back : Range → Bool
looks_back as_held = false
looks_back not_negative = false
looks_back calendar_day = true
looks_back (span lo hi) = false

abbrev pub is_day : Col → Bool
is_day (numeric m q g) = looks_back g
is_day (text w r) = false
is_day (letter s) = false
is_day (group g) = false
is_day (printed b w) = false

-- what of a date, i4 and i2, ends with a column: 0 nothing, 1 its year, 2 its year and month; before the column there was n of it
abbrev pub date_to : ℕ → Col → ℕ
date_to n (numeric (N.Integer w) q g) = pick (eqb w 4) 1 (pick (eqb w 2 && eqb n 1) 2 0)
date_to n (numeric (N.Decimal w d) q g) = 0
date_to n (text w r) = 0
date_to n (letter s) = 0
date_to n (group g) = 0
date_to n (printed b w) = 0

-- integers and text, a day only after its year and month
abbrev pub simple : ℕ → List Col → Bool
simple n [] = true
simple n (c ∷ cs) = (simple_col c && pick (is_day c) (eqb n 2) true) && simple (date_to n c) cs

-- the last day by the year and the month in the six bytes of a line before place `at`
abbrev pub last_day_before : List ℕ → ℕ → ℕ
last_day_before line at =
    last_day (slot_in (int_field (slice (at - 6) (at - 6 + 4) line))) (slot_in (int_field (slice (at - 2) (at - 2 + 2) line)))

-- whether a column is accepted, wherever it stands and whatever numbers came before it; a day after numbers whose last day is d
pub record Judged (c : Col) (f : List ℕ) (d : ℕ) (r : Bool) : Type 0 where
  pub accepted : (seen : List Slot) (at : ℕ) → (T (is_day c) → last_day_after seen ≡ d) → r ≡ is_ok (read_cell c seen at f)

-- integers and text whose bytes lie in a line of some bytes, after its first `start`, with n of a date before them
pub record Judgeable (cs : List Col) (n start line : ℕ) : Type 0 where
  pub fine : T (good cs)
  pub plain : T (simple n cs)
  pub inside : start + widths cs ≤ line
