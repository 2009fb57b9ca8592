-- The Gregorian calendar, carried backward over all years. Document 02, Wish 3.
use Rattle.std.specs.Prelude.{ℕ, ◌-◌, ◌%◌, Bool, List, [], ◌∷◌, ℤ, pos, negsuc, nat_abs, get_or, eqb}
use Rattle.columns.specs.Answer.{pick}

-- whether a year, before or after year 0, is a multiple of n; year 0 is one of every n
abbrev pub multiple : ℤ → ℕ → Bool
multiple y n = eqb (nat_abs y % n) 0

-- every fourth year is a leap year, but of the full hundreds only every fourth: 0, -4 and -400 are, -100 is not
unfoldable pub leap : ℤ → Bool
leap y = pick (multiple y 100) (multiple y 400) (multiple y 4)

-- the days of the months from January on, in a leap year or not
abbrev pub month_lengths : Bool → List ℕ
month_lengths isLeap = 31 ∷ pick isLeap 29 28 ∷ 31 ∷ 30 ∷ 31 ∷ 30 ∷ 31 ∷ 31 ∷ 30 ∷ 31 ∷ 30 ∷ 31 ∷ []

-- the days of a month of a year; 31 where the number is no month's
unfoldable pub days_in : ℤ → ℤ → ℕ
days_in y (pos m) = get_or (month_lengths (leap y)) (m - 1) 31
days_in y (negsuc m) = 31
