-- What the code comes to at one line of a block: the counts of rows and comments with it, the block's end, or its refusal.
-- Helping definitions; what is answered for the block stands in Block. Document 01, "The block".
use Rattle.std.specs.Prelude.{ℕ, ◌+◌, List, ltb, Option, Some, None, Result, Ok, Err}
use Rattle.columns.specs.declared.Refusal.{Refusal}
use Rattle.columns.specs.Answer.{Answer, ok, refusal, refusal_at}
use Rattle.columns.specs.Column.{Rec}
use Rattle.formats.specs.Block.{Kind, closing, comment, row, read_comment}

-- a line that was judged, and the rows and comments with it
abbrev pub counted : {A : Type 0} → Answer A → ℕ → ℕ → Result (Option (ℕ × ℕ)) Refusal
counted (ok x) rows comments = Ok (Some (rows, comments))
counted (refusal n k) rows comments = Err (refusal_at n k)

-- a line of a kind, after that many rows and comments: none where it closes the block
abbrev pub step_of : (List ℕ → Answer Rec) → Kind → ℕ → ℕ → List ℕ → Result (Option (ℕ × ℕ)) Refusal
step_of read closing rows comments l = Ok None
step_of read comment rows comments l = counted (read_comment (ltb 0 rows) l) rows (comments + 1)
step_of read row rows comments l = counted (read l) (rows + 1) comments
