-- The marked values, as one table: f5.1 read and written, and check characters. Document 01, "Marked values".
use mathlib.Core.Path.{◌≡◌}
use mathlib.Core.List.{List, [], ◌∷◌, map}
use Prim.Native.Nat.{ℕ}
use lib.IntN.{ℤ, pos, negsuc}
use Rattle.columns.specs.Answer.{Answer, ok, refusal, bad_form, too_wide}
use Rattle.columns.specs.declared.Reason.{Reason}
use Rattle.columns.specs.Column.{Slot, missing, given, Rec}
use Rattle.columns.specs.Reading.{read_cell}
use Rattle.columns.specs.Writing.{write_cell}
use Rattle.columns.proofs.laws.Marked.{f51, marked as fields}
use Rattle.formats.specs.Check.{check_sum, check_character}

-- what is asked of the field or of some bytes, and what is answered: a number, the number of a refusal, a character
pub data Asked : Type 0 where
  reads : List ℕ → Asked
  writes : ℤ → Asked
  checks : List ℕ → Asked

pub data Answered : Type 0 where
  reading : Slot → Answered
  written : Answered
  refused : Reason → Answered
  character : ℕ → Answered

abbrev pub first_number : List Slot → Answered
first_number [] = written
first_number (x ∷ ns) = reading x

abbrev pub of_read : Answer Rec → Answered
of_read (ok r) = first_number r.numbers
of_read (refusal n k) = refused n

abbrev pub of_write : Answer (List ℕ) → Answered
of_write (ok ys) = written
of_write (refusal n k) = refused n

abbrev pub answer : Asked → Answered
answer (reads f) = of_read (read_cell f51 [] 0 f)
answer (writes v) = of_write (write_cell f51 [] 0 (given v ∷ []) [])
answer (checks s) = character (check_character s)

pub record Row : Type 0 where
  pub asked : Asked
  pub answered : Answered

abbrev pub row : Asked → Answered → Row
row a b = record { asked = a; answered = b }

abbrev pub table : List Row
table =
    -- `     `, `  0.0`, ` -0.0`, ` -0.5`, `-99.9`, `999.9`, `   .5`, ` 5.0 `
    row (reads (32 ∷ 32 ∷ 32 ∷ 32 ∷ 32 ∷ [])) (reading missing)
    ∷ row (reads (32 ∷ 32 ∷ 48 ∷ 46 ∷ 48 ∷ [])) (reading (given (pos 0)))
    ∷ row (reads (32 ∷ 45 ∷ 48 ∷ 46 ∷ 48 ∷ [])) (reading (given (pos 0)))
    ∷ row (reads (32 ∷ 45 ∷ 48 ∷ 46 ∷ 53 ∷ [])) (reading (given (negsuc 4)))
    ∷ row (reads (45 ∷ 57 ∷ 57 ∷ 46 ∷ 57 ∷ [])) (reading (given (negsuc 998)))
    ∷ row (reads (57 ∷ 57 ∷ 57 ∷ 46 ∷ 57 ∷ [])) (reading (given (pos 9999)))
    ∷ row (reads (32 ∷ 32 ∷ 32 ∷ 46 ∷ 53 ∷ [])) (refused bad_form)
    ∷ row (reads (32 ∷ 53 ∷ 46 ∷ 48 ∷ 32 ∷ [])) (refused bad_form)
    -- 10000 and -1000
    ∷ row (writes (pos 10000)) (refused too_wide)
    ∷ row (writes (negsuc 999)) (refused too_wide)
    -- no bytes, `E`, `E `
    ∷ row (checks []) (character 36)
    ∷ row (checks (69 ∷ [])) (character 105)
    ∷ row (checks (69 ∷ 32 ∷ [])) (character 110)
    ∷ []

pub marked : map (λ r. answer r.asked) table ≡ map (λ r. r.answered) table
unfolding check_character check_sum
marked =
    rw (fields.blank, fields.none, fields.minus_none, fields.minus_half, fields.lowest, fields.highest, fields.no_digit, fields.blank_after, fields.too_high, fields.too_low)
