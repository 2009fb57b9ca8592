-- The columns of the Calnet cards. Document 02, Wish 5; the columns are those of source document 000, where the length decides over
-- the printed format. Each card begins with its key letter; column 2 and the gaps are blank.
use Rattle.std.specs.Prelude.{List, [], ◌∷◌}
use Rattle.columns.specs.Column.{Col, integer, decimal, text, mark, blank, as_held, calendar_day, required, optional, any_text}
use Rattle.formats.specs.Ranges.{year_range, month_range, hour_range, minute_range, second_range3, latitude_range3, longitude_range3}

-- I, identification: the reference time is required
abbrev pub identification_columns : List Col
identification_columns =
    -- 1 key letter I
    mark 73
    ∷ blank 1
    -- 3-6 year
    ∷ integer 4 required year_range
    ∷ blank 1
    -- 8-9 month
    ∷ integer 2 required month_range
    ∷ blank 1
    -- 11-12 day
    ∷ integer 2 required calendar_day
    ∷ blank 1
    -- 14-15 hour
    ∷ integer 2 required hour_range
    ∷ blank 1
    -- 17-18 minute
    ∷ integer 2 required minute_range
    ∷ blank 1
    -- 20-25 second
    ∷ decimal 6 3 required second_range3
    ∷ blank 1
    -- 27-34 event identifier
    ∷ integer 8 optional as_held
    ∷ blank 1
    -- 36-43 parent's identifier
    ∷ integer 8 optional as_held
    ∷ blank 1
    -- 45 event type
    ∷ text 1 any_text
    ∷ []

-- L, location
abbrev pub location_columns : List Col
location_columns =
    -- 1 key letter L
    mark 76
    ∷ blank 1
    -- 3-9 latitude, degrees
    ∷ decimal 7 3 optional latitude_range3
    ∷ blank 1
    -- 11-18 longitude, degrees
    ∷ decimal 8 3 optional longitude_range3
    ∷ blank 1
    -- 20-25 depth, km
    ∷ decimal 6 2 optional as_held
    ∷ blank 1
    -- 27-35 origin time after the reference, seconds
    ∷ decimal 9 3 optional as_held
    ∷ blank 1
    -- 37-39 constraints
    ∷ text 3 any_text
    ∷ blank 1
    -- 41-43 method of location
    ∷ text 3 any_text
    ∷ []

-- E, error of the epicenter
abbrev pub error_columns : List Col
error_columns =
    -- 1 key letter E
    mark 69
    ∷ blank 1
    -- 3-9 residual of mean squares
    ∷ decimal 7 3 optional as_held
    ∷ blank 1
    -- 11-17 error in latitude, km
    ∷ decimal 7 3 optional as_held
    ∷ blank 1
    -- 19-25 error in longitude, km
    ∷ decimal 7 3 optional as_held
    ∷ blank 1
    -- 27-33 depth error, km
    ∷ decimal 7 3 optional as_held
    ∷ blank 1
    -- 35-41 error in origin time, seconds
    ∷ decimal 7 3 optional as_held
    ∷ blank 1
    -- 43-46 picked phases
    ∷ integer 4 optional as_held
    ∷ blank 1
    -- 48-51 phases used
    ∷ integer 4 optional as_held
    ∷ blank 1
    -- 53-57 azimuthal gap: 0.0 is a number and stays 0
    ∷ decimal 5 1 optional as_held
    ∷ blank 1
    -- 59-63 distance to the nearest station, km
    ∷ decimal 5 1 optional as_held
    ∷ []

-- M, magnitude: the magnitude and the count touch
abbrev pub magnitude_columns : List Col
magnitude_columns =
    -- 1 key letter M
    mark 77
    ∷ blank 1
    -- 3 magnitude type
    ∷ text 1 any_text
    ∷ blank 1
    -- 5-10 magnitude
    ∷ decimal 6 2 optional as_held
    -- 11-13 codas or amplitudes used
    ∷ integer 3 optional as_held
    ∷ blank 1
    -- 15-18 agency
    ∷ text 4 any_text
    ∷ []

-- P, pick
abbrev pub pick_columns : List Col
pick_columns =
    -- 1 key letter P
    mark 80
    ∷ blank 1
    -- 3-17 station, component, network
    ∷ text 15 any_text
    ∷ blank 1
    -- 19-21 recording system
    ∷ text 3 any_text
    ∷ blank 1
    -- 23-28 phase
    ∷ text 6 any_text
    ∷ blank 1
    -- 30-32 first motion, weight, appearance
    ∷ text 3 any_text
    ∷ blank 1
    -- 34-42 arrival time after the reference, seconds
    ∷ decimal 9 3 optional as_held
    ∷ []

-- A, amplitude
abbrev pub amplitude_columns : List Col
amplitude_columns =
    -- 1 key letter A
    mark 65
    ∷ blank 1
    -- 3-17 station, component, network
    ∷ text 15 any_text
    ∷ blank 1
    -- 19-21 recording system
    ∷ text 3 any_text
    ∷ blank 1
    -- 23-29 amplitude, mm
    ∷ decimal 7 2 optional as_held
    ∷ blank 1
    -- 31-36 phase
    ∷ text 6 any_text
    ∷ blank 1
    -- 38-43 period
    ∷ decimal 6 2 optional as_held
    ∷ []

-- R, remark
abbrev pub remark_columns : List Col
remark_columns =
    -- 1 key letter R
    mark 82
    ∷ blank 1
    -- 3-78 remark
    ∷ text 76 any_text
    ∷ []
