-- The columns of the ISF automatic arrival line. Document 02, Wish 2; the columns are those of source document 003, "Automatic Arrival
-- Format".
use Rattle.std.specs.Prelude.{List, [], ◌∷◌}
use Rattle.columns.specs.Column.{Col, decimal, text, clock, date, blank, as_held, optional, not_all_blank, blank_or_filled, any_text}
use Rattle.formats.specs.Ranges.{azimuth_range, latitude_range, longitude_range}

-- every column is a field or a blank
abbrev pub arrival_columns : List Col
arrival_columns =
    -- 1-9 network code, all blank or not beginning with a blank
    text 9 blank_or_filled
    ∷ blank 1
    -- 11-15 station code, which must be there
    ∷ text 5 not_all_blank
    ∷ blank 1
    -- 17-28 beam identifier
    ∷ text 12 any_text
    ∷ blank 1
    -- 30-39 detection date
    ∷ date
    ∷ blank 1
    -- 41-52 detection time
    ∷ clock
    ∷ blank 1
    -- 54-61 preliminary phase code
    ∷ text 8 any_text
    ∷ blank 1
    -- 63-67 observed azimuth, degrees
    ∷ decimal 5 1 optional azimuth_range
    ∷ blank 1
    -- 69-73 observed slowness, seconds a degree
    ∷ decimal 5 1 optional as_held
    ∷ blank 1
    -- 75-79 signal to noise
    ∷ decimal 5 1 optional as_held
    ∷ blank 1
    -- 81-89 amplitude, nanometres
    ∷ decimal 9 1 optional as_held
    ∷ blank 1
    -- 91-95 period, seconds
    ∷ decimal 5 2 optional as_held
    ∷ blank 1
    -- 97-101 short-term average
    ∷ decimal 5 1 optional as_held
    ∷ blank 1
    -- 103-107 detection duration, seconds
    ∷ decimal 5 1 optional as_held
    ∷ blank 1
    -- 109-117 author of the detection
    ∷ text 9 any_text
    ∷ blank 1
    -- 119-126 detection identifier
    ∷ text 8 any_text
    -- 127-129 its extension
    ∷ text 3 any_text
    ∷ blank 1
    -- 131-135 agency
    ∷ text 5 any_text
    ∷ blank 1
    -- 137-144 deployment
    ∷ text 8 any_text
    ∷ blank 1
    -- 146-147 location
    ∷ text 2 any_text
    ∷ blank 1
    -- 149-153 author of data
    ∷ text 5 any_text
    ∷ blank 1
    -- 155-159 reporter of data
    ∷ text 5 any_text
    ∷ blank 1
    -- 161-163 phase channel
    ∷ text 3 any_text
    ∷ blank 1
    -- 165-167 amplitude channel
    ∷ text 3 any_text
    ∷ blank 1
    -- 169 direction of long period first motion
    ∷ text 1 any_text
    ∷ blank 1
    -- 171-178 latitude of station
    ∷ decimal 8 4 optional latitude_range
    ∷ blank 1
    -- 180-188 longitude of station
    ∷ decimal 9 4 optional longitude_range
    ∷ blank 1
    -- 190-196 elevation of station
    ∷ decimal 7 1 optional as_held
    ∷ blank 1
    -- 198-203 instrument depth
    ∷ decimal 6 1 optional as_held
    ∷ []
