-- A block walked line by line: each call is told what the call before it met. Document 01, "The block": a comment belongs to the
-- phase line before it.
use Rattle.std.specs.Prelude.{◌≡◌, ℕ, ◌+◌, ◌-◌, List, [], ◌∷◌, Option, None, length, take, drop, eqb, leb, ltb}
use Rattle.columns.specs.Answer.{pick}
use Rattle.columns.specs.Answer.{wrong_length, number_of}
use Rattle.formats.specs.Lines.{lines_of, line_end}
use Rattle.formats.specs.Block.{Kind, closing, comment, row, kind_of, is_header, out_of_place}
use Rattle.formats.specs.BlockReader.{line_of, next_of, line_at}
use Rattle.formats.specs.declared.block_reader.Line.{Line}
use Rattle.formats.specs.declared.block_walk.BlockLine.{BlockLine}

-- the kinds as numbers (house): no line there, the header, a row (a phase line, an arrival line), a comment, the closing line
abbrev pub no_line : ℕ
no_line = 0

abbrev pub header_line : ℕ
header_line = 40

abbrev pub row_line : ℕ
row_line = 41

abbrev pub comment_line : ℕ
comment_line = 42

abbrev pub closing_line : ℕ
closing_line = 43

-- a line: its kind; the number, from 1, of the row that it is or that it belongs to; its end; and the place after it
-- no line, or the number of a refusal
abbrev pub nothing : ℕ → BlockLine
nothing number = record { kind = number; number = 0; end = 0; next = 0 }

-- a line of a kind, after n rows
abbrev pub known : Kind → ℕ → ℕ → ℕ → BlockLine
known closing n e x = record { kind = closing_line; number = 0; end = e; next = x }
known comment n e x = record { kind = comment_line; number = n; end = e; next = x }
known row n e x = record { kind = row_line; number = n + 1; end = e; next = x }

abbrev pub headed : List ℕ → List ℕ → BlockLine
headed header b =
    pick (is_header header (line_of b 0)) (record { kind = header_line; number = 0; end = line_end b 0; next = next_of b 0 }) (nothing (number_of out_of_place))

-- the first line: 1 in a block over 65,536 bytes; 14 where it is not the header, and where there is none
unfoldable pub first_line : List ℕ → List ℕ → BlockLine
first_line header b =
    pick (ltb 65536 (length b)) (nothing (number_of wrong_length)) (pick (leb (length b) 0) (nothing (number_of out_of_place)) (headed header b))

-- what the code finds at a place, after n rows or events: no line after more of them than a number can tell
abbrev pub counted_line : List ℕ → ℕ → ℕ → Option Line
counted_line b at n = pick (ltb 65534 n) None (line_at b at)

-- the line at a place, after n rows: none past the end, and none after more rows than a block can have
abbrev pub line_after : List ℕ → ℕ → ℕ → BlockLine
line_after b at n =
    pick (ltb 65534 n) (nothing no_line)
    (pick (leb (length b) at) (nothing no_line) (known (kind_of (line_of b at)) n (line_end b at) (next_of b at)))

-- the line after a header, a row or a comment that was met; none after anything else
unfoldable pub next_line : List ℕ → BlockLine → BlockLine
next_line b x =
    pick (ltb 65536 (length b)) (nothing (number_of wrong_length))
    (pick (ltb x.kind header_line) (nothing no_line)
    (pick (ltb comment_line x.kind) (nothing no_line) (line_after b x.next x.number)))

-- ---- a whole walk

-- a row or a comment that is met: its kind, its row's number, and its bytes
pub record Met : Type 0 where
  pub kind : ℕ
  pub number : ℕ
  pub line : List ℕ

abbrev pub met_as : Kind → ℕ → List ℕ → List Met → List Met
met_as closing n l rest = []
met_as comment n l rest = record { kind = comment_line; number = n; line = l } ∷ rest
met_as row n l rest = record { kind = row_line; number = n + 1; line = l } ∷ rest

abbrev pub rows_after : Kind → ℕ → ℕ
rows_after closing n = n
rows_after comment n = n
rows_after row n = n + 1

-- the rows and comments of some lines up to the closing line, in order, after n rows
unfoldable pub met_in : ℕ → List (List ℕ) → List Met
met_in n [] = []
met_in n (l ∷ ls) = met_as (kind_of l) n l (met_in (rows_after (kind_of l) n) ls)

-- the calls after one that met x: what they meet, each line by its bytes from the place before it to its end; and the place where
-- they end
pub data Walked (b : List ℕ) : BlockLine → List Met → ℕ → Type 0 where
  ended : {x : BlockLine} → next_line b x ≡ nothing no_line → Walked b x [] x.next
  closed : {x : BlockLine} {e u : ℕ} → next_line b x ≡ record { kind = closing_line; number = 0; end = e; next = u } → Walked b x [] u
  a_comment : {x y : BlockLine} {ms : List Met} {u : ℕ} → next_line b x ≡ y → y.kind ≡ comment_line → y.number ≡ x.number → Walked b y ms u → Walked b x (record { kind = comment_line; number = y.number; line = take (y.end - x.next) (drop x.next b) } ∷ ms) u
  a_row : {x y : BlockLine} {ms : List Met} {u : ℕ} → next_line b x ≡ y → y.kind ≡ row_line → y.number ≡ x.number + 1 → Walked b y ms u → Walked b x (record { kind = row_line; number = y.number; line = take (y.end - x.next) (drop x.next b) } ∷ ms) u

-- how many of what is met are of a kind
unfoldable pub count_of : ℕ → List Met → ℕ
count_of k [] = 0
count_of k (m ∷ ms) = pick (eqb m.kind k) 1 0 + count_of k ms

-- a walk from the start of a block that is read, with p rows and k comments in u bytes
pub record WalkedBlock (header b : List ℕ) (p k u : ℕ) : Type 0 where
  pub first : (first_line header b).kind ≡ header_line
  pub lines : Walked b (first_line header b) (met_in 0 (drop 1 (lines_of b))) u
  pub rows : count_of row_line (met_in 0 (drop 1 (lines_of b))) ≡ p
  pub comments : count_of comment_line (met_in 0 (drop 1 (lines_of b))) ≡ k
