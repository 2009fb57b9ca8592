-- The columns of the ISF phase line. Document 01, "The phase line"; the columns are those of source document 003.
use Rattle.std.specs.Prelude.{List, [], ◌∷◌}
use Rattle.columns.specs.Column.{Col, decimal, text, letter, clock, blank, as_held, optional, not_blank_first, any_text}
use Rattle.formats.specs.Ranges.{distance_range, azimuth_range, latitude_range, longitude_range}

-- every column is a field or a blank
abbrev pub phase_columns : List Col
phase_columns =
    -- 1-5 station code, which does not begin with a blank
    text 5 not_blank_first
    ∷ blank 1
    -- 7-12 station to event distance, degrees
    ∷ decimal 6 2 optional distance_range
    ∷ blank 1
    -- 14-18 event to station azimuth, degrees
    ∷ decimal 5 1 optional azimuth_range
    ∷ blank 1
    -- 20-27 phase code
    ∷ text 8 any_text
    ∷ blank 1
    -- 29-40 arrival time
    ∷ clock
    ∷ blank 1
    -- 42-46 time residual, seconds
    ∷ decimal 5 1 optional as_held
    ∷ blank 1
    -- 48-52 observed azimuth, degrees
    ∷ decimal 5 1 optional azimuth_range
    ∷ blank 1
    -- 54-58 azimuth residual, degrees
    ∷ decimal 5 1 optional as_held
    ∷ blank 1
    -- 60-65 observed slowness, seconds a degree
    ∷ decimal 6 1 optional as_held
    ∷ blank 1
    -- 67-72 slowness residual
    ∷ decimal 6 1 optional as_held
    ∷ blank 1
    -- 74 time defining: `T`, `_` or blank
    ∷ letter (84 ∷ 95 ∷ 32 ∷ [])
    -- 75 azimuth defining: `A`, `_` or blank
    ∷ letter (65 ∷ 95 ∷ 32 ∷ [])
    -- 76 slowness defining: `S`, `_` or blank
    ∷ letter (83 ∷ 95 ∷ 32 ∷ [])
    ∷ blank 1
    -- 78-82 signal to noise
    ∷ decimal 5 1 optional as_held
    ∷ blank 1
    -- 84-92 amplitude, nanometres
    ∷ decimal 9 1 optional as_held
    ∷ blank 1
    -- 94-98 period, seconds
    ∷ decimal 5 2 optional as_held
    ∷ blank 1
    -- 100 type of pick: `a`, `m`, `_` or blank
    ∷ letter (97 ∷ 109 ∷ 95 ∷ 32 ∷ [])
    -- 101 direction of short period motion: `c`, `d`, `_` or blank
    ∷ letter (99 ∷ 100 ∷ 95 ∷ 32 ∷ [])
    -- 102 onset: `i`, `e`, `q`, `_` or blank
    ∷ letter (105 ∷ 101 ∷ 113 ∷ 95 ∷ 32 ∷ [])
    ∷ blank 1
    -- 104-108 magnitude type
    ∷ text 5 any_text
    -- 109 `<`, `>` or blank
    ∷ letter (60 ∷ 62 ∷ 32 ∷ [])
    -- 110-113 magnitude
    ∷ decimal 4 1 optional as_held
    ∷ blank 1
    -- 115-122 arrival identification
    ∷ text 8 any_text
    -- 123-125 its extension
    ∷ text 3 any_text
    ∷ blank 1
    -- 127-131 agency
    ∷ text 5 any_text
    ∷ blank 1
    -- 133-140 deployment
    ∷ text 8 any_text
    ∷ blank 1
    -- 142-143 location
    ∷ text 2 any_text
    ∷ blank 1
    -- 145-149 author
    ∷ text 5 any_text
    ∷ blank 1
    -- 151-155 reporter
    ∷ text 5 any_text
    ∷ blank 1
    -- 157-159 phase channel
    ∷ text 3 any_text
    ∷ blank 1
    -- 161-163 amplitude channel
    ∷ text 3 any_text
    ∷ blank 1
    -- 165 direction of long period first motion
    ∷ text 1 any_text
    ∷ blank 1
    -- 167-174 latitude of station
    ∷ decimal 8 4 optional latitude_range
    ∷ blank 1
    -- 176-184 longitude of station
    ∷ decimal 9 4 optional longitude_range
    ∷ blank 1
    -- 186-192 elevation of station
    ∷ decimal 7 1 optional as_held
    ∷ blank 1
    -- 194-199 instrument depth
    ∷ decimal 6 1 optional as_held
    ∷ []
