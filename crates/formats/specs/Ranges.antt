-- The ranges that columns name. Document 01, "The E line" and "The phase line"; degrees are scaled by 10,000. Those of a card's
-- columns f.3 are the same at that scale (document 01, "The block": degrees at the column's scale; document 02, Wish 5).
use Rattle.std.specs.Prelude.{pos, negsuc}
use Rattle.columns.specs.Column.{Range, span}

abbrev pub year_range : Range
year_range = span (negsuc 998) (pos 6070)

abbrev pub month_range : Range
month_range = span (pos 1) (pos 12)

abbrev pub hour_range : Range
hour_range = span (pos 0) (pos 23)

abbrev pub minute_range : Range
minute_range = span (pos 0) (pos 59)

-- tenths of a second
abbrev pub second_range : Range
second_range = span (pos 0) (pos 599)

abbrev pub latitude_range : Range
latitude_range = span (negsuc 899999) (pos 900000)

abbrev pub longitude_range : Range
longitude_range = span (negsuc 1799999) (pos 1800000)

-- hundredths of a degree
abbrev pub distance_range : Range
distance_range = span (pos 0) (pos 18000)

-- tenths of a degree
abbrev pub azimuth_range : Range
azimuth_range = span (pos 0) (pos 3600)

-- thousandths of a second
abbrev pub second_range3 : Range
second_range3 = span (pos 0) (pos 59999)

-- thousandths of a degree
abbrev pub latitude_range3 : Range
latitude_range3 = span (negsuc 89999) (pos 90000)

abbrev pub longitude_range3 : Range
longitude_range3 = span (negsuc 179999) (pos 180000)
