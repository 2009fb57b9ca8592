-- The lines of a text. Document 01, "The block": lines end at a newline or the end of input; a final newline adds no line.
use Rattle.std.specs.Prelude.{ℕ, ◌+◌, List, [], ◌∷◌, eqb, length, drop}
use Rattle.columns.specs.Answer.{pick}

abbrev pub newline : ℕ
newline = 10

-- a byte at the head of the first line; a line of its own where there is none
unfoldable pub on_first : ℕ → List (List ℕ) → List (List ℕ)
on_first b [] = (b ∷ []) ∷ []
on_first b (l ∷ ls) = (b ∷ l) ∷ ls

unfoldable pub lines_of : List ℕ → List (List ℕ)
lines_of [] = []
lines_of (b ∷ s) = pick (eqb b newline) ([] ∷ lines_of s) (on_first b (lines_of s))

-- the bytes before the first of a code, all where there is none
unfoldable pub up_to : ℕ → List ℕ → List ℕ
up_to stop [] = []
up_to stop (b ∷ s) = pick (eqb b stop) [] (b ∷ up_to stop s)

-- where they end, from a place on: the first place from there on that holds such a byte, or the length
unfoldable pub end_from : ℕ → List ℕ → ℕ → ℕ
end_from stop s at = at + length (up_to stop (drop at s))

-- where the line that starts at a place ends
abbrev pub line_end : List ℕ → ℕ → ℕ
line_end s at = end_from newline s at
