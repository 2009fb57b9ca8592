-- What the program prints, as bytes. Document 01, "The program".
use Rattle.std.specs.Prelude.{ℕ, zero, suc, ◌+◌, ◌/◌, ◌%◌, List, [], ◌∷◌, ◌++◌, ltb, length}
use Rattle.columns.specs.Answer.{pick}
use Rattle.catalogue.specs.Answers.{Call, call_number, call_column}
use Rattle.catalogue.specs.Catalogue.{Catalogue}
use Rattle.catalogue.specs.Room.{call_of, room_after}
use Rattle.take.specs.Links.{shown}

-- a number's decimal digits, at most k of them
unfoldable pub digits : ℕ → ℕ → List ℕ
digits zero n = []
digits (suc k) n = pick (ltb n 10) ((48 + n) ∷ []) (digits k (n / 10) ++ ((48 + n % 10) ∷ []))

-- a number of 64 bits has at most 20
unfoldable pub decimal : ℕ → List ℕ
decimal n = digits 20 n

-- `line answer column`
unfoldable pub heading : List ℕ
heading = 108 ∷ 105 ∷ 110 ∷ 101 ∷ 32 ∷ 97 ∷ 110 ∷ 115 ∷ 119 ∷ 101 ∷ 114 ∷ 32 ∷ 99 ∷ 111 ∷ 108 ∷ 117 ∷ 109 ∷ 110 ∷ 10 ∷ []

-- a line's number, the number answered and the column
unfoldable pub printed_line : ℕ → ℕ → ℕ → List ℕ
printed_line n a c = decimal n ++ (32 ∷ decimal a ++ (32 ∷ decimal c ++ (10 ∷ [])))

abbrev pub answer_line : ℕ → Call → List ℕ
answer_line n c = printed_line n (call_number c) (call_column c)

-- one answer for each line, each line taken into the room as the last one left it; n lines stood before them
unfoldable pub answers : ℕ → List ℕ → List (List ℕ) → List ℕ
answers n room [] = []
answers n room (l ∷ ls) = answer_line (n + 1) (call_of room l) ++ answers (n + 1) (room_after room l) ls

-- rows of bytes, a newline after each
unfoldable pub row_lines : List (List ℕ) → List ℕ
row_lines [] = []
row_lines (x ∷ xs) = x ++ (10 ∷ row_lines xs)

-- a title, how many rows there are, and the rows
unfoldable pub section : List ℕ → List (List ℕ) → List ℕ
section title xs = title ++ (decimal (length xs) ++ (10 ∷ row_lines xs))

-- `held `, `deleted `, `links `
abbrev pub held_title : List ℕ
held_title = 104 ∷ 101 ∷ 108 ∷ 100 ∷ 32 ∷ []

abbrev pub deleted_title : List ℕ
deleted_title = 100 ∷ 101 ∷ 108 ∷ 101 ∷ 116 ∷ 101 ∷ 100 ∷ 32 ∷ []

abbrev pub links_title : List ℕ
links_title = 108 ∷ 105 ∷ 110 ∷ 107 ∷ 115 ∷ 32 ∷ []

-- `held` and the held lines, `deleted` and the deletions, `links` and the lines of those that are not taken back (document 02, "Take the
-- links")
unfoldable pub catalogue_text : Catalogue → List ℕ
catalogue_text c = section held_title c.held ++ (section deleted_title c.deletions ++ section links_title (shown c.links))
