-- The marked values of f5.1, read and written. Document 01, "Marked values".
use mathlib.Core.Path.{◌≡◌, refl}
use mathlib.Core.List.{[], ◌∷◌}
use lib.IntN.{pos, negsuc}
use Rattle.columns.specs.Answer.{ok, refusal, bad_form, too_wide}
use Rattle.columns.specs.Bytes.{skip}
use Rattle.columns.specs.Number.{digits, number, signed_number, scan, fraction, dec_field, field_of, holds_dec, holds}
use Rattle.columns.specs.Column.{missing, given, allowed, as_held, optional, Col, decimal}
use Rattle.columns.specs.Reading.{one_number, read_cell}
use Rattle.columns.specs.Writing.{write_cell}

-- a field of columns 1 to 5 that holds any number that f5.1 can hold
abbrev pub f51 : Col
f51 = decimal 5 1 optional as_held

-- `     `, `  0.0`, ` -0.0`, ` -0.5`, `-99.9`, `999.9`, `   .5`, ` 5.0 `; 10000 and -1000
pub record Marked : Type 0 where
  pub blank : read_cell f51 [] 0 (32 ∷ 32 ∷ 32 ∷ 32 ∷ 32 ∷ []) ≡ ok (one_number missing)
  pub none : read_cell f51 [] 0 (32 ∷ 32 ∷ 48 ∷ 46 ∷ 48 ∷ []) ≡ ok (one_number (given (pos 0)))
  pub minus_none : read_cell f51 [] 0 (32 ∷ 45 ∷ 48 ∷ 46 ∷ 48 ∷ []) ≡ ok (one_number (given (pos 0)))
  pub minus_half : read_cell f51 [] 0 (32 ∷ 45 ∷ 48 ∷ 46 ∷ 53 ∷ []) ≡ ok (one_number (given (negsuc 4)))
  pub lowest : read_cell f51 [] 0 (45 ∷ 57 ∷ 57 ∷ 46 ∷ 57 ∷ []) ≡ ok (one_number (given (negsuc 998)))
  pub highest : read_cell f51 [] 0 (57 ∷ 57 ∷ 57 ∷ 46 ∷ 57 ∷ []) ≡ ok (one_number (given (pos 9999)))
  pub no_digit : read_cell f51 [] 0 (32 ∷ 32 ∷ 32 ∷ 46 ∷ 53 ∷ []) ≡ refusal bad_form 1
  pub blank_after : read_cell f51 [] 0 (32 ∷ 53 ∷ 46 ∷ 48 ∷ 32 ∷ []) ≡ refusal bad_form 1
  pub too_high : write_cell f51 [] 0 (given (pos 10000) ∷ []) [] ≡ refusal too_wide 1
  pub too_low : write_cell f51 [] 0 (given (negsuc 999) ∷ []) [] ≡ refusal too_wide 1

pub marked : Marked
unfolding read_cell write_cell allowed field_of dec_field holds holds_dec fraction scan signed_number number digits skip
marked =
    record {
      blank = refl;
      none = refl;
      minus_none = refl;
      minus_half = refl;
      lowest = refl;
      highest = refl;
      no_digit = refl;
      blank_after = refl;
      too_high = refl;
      too_low = refl;
    }
