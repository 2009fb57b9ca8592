-- The lines of a block by their places. Document 01, "The block": lines come from a reader that holds the lent block and its
-- place in it.
use Rattle.std.specs.Prelude.{ℕ, ◌+◌, ◌-◌, List, Option, None, Some, length, take, drop, leb, ltb}
use Rattle.columns.specs.Answer.{pick}
use Rattle.formats.specs.Lines.{line_end}
use Rattle.formats.specs.declared.block_reader.Line.{Line}

-- the line that starts at a place
abbrev pub line_of : List ℕ → ℕ → List ℕ
line_of s at = take (line_end s at - at) (drop at s)

-- the place after a line that ends at a place: past its newline, where it has one
abbrev pub past_newline : List ℕ → ℕ → ℕ
past_newline s end = pick (ltb end (length s)) (end + 1) end

-- the place after the line that starts at a place
abbrev pub next_of : List ℕ → ℕ → ℕ
next_of s at = past_newline s (line_end s at)

-- the line that starts at a place: its start, its end, and the place after it; none at the end of the block
abbrev pub line_at : List ℕ → ℕ → Option Line
line_at s at = pick (leb (length s) at) None (Some (record { start = at; end = line_end s at; next = next_of s at }))
