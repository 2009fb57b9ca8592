-- A made-up line of 36 columns, with a column of each kind.
use Rattle.std.specs.Prelude.{List, [], ◌∷◌, pos, negsuc}
use Rattle.columns.specs.Column.{Col, integer, decimal, text, letter, clock, blank, not_negative, span, required, optional, not_blank_first, no_brackets}

abbrev pub sample : List Col
sample =
    -- 1-5 station, 7-10 year, 12-16 azimuth, 17 and 18 flags, 19-21 note, 22-33 time, 34-36 count
    text 5 not_blank_first
    ∷ blank 1
    ∷ integer 4 required (span (negsuc 998) (pos 6070))
    ∷ blank 1
    ∷ decimal 5 1 optional (span (pos 0) (pos 3600))
    ∷ letter (84 ∷ 95 ∷ 32 ∷ [])
    ∷ letter (60 ∷ 62 ∷ 32 ∷ [])
    ∷ text 3 no_brackets
    ∷ clock
    ∷ integer 3 optional not_negative
    ∷ []
