-- What the cursor finds in one column. Document 01, "Numbers in columns": a line is read by a cursor that moves on from field to
-- field and is handed back after each one.
use Rattle.std.specs.Prelude.{ℕ, ◌+◌, ◌≤◌, ◌≡◌, List, ℤ, length, T, Option, Some, None, Result, Ok, Err}
use Rattle.columns.specs.Answer.{Answer, ok, refusal}
use Rattle.columns.specs.Column.{Slot, missing, given, Rec, Col, width, good_col}
use Rattle.columns.specs.Group.{group_rec}
use Rattle.columns.specs.Reading.{nothing, one_number, some_text}
use Rattle.columns.specs.Table.{flags_of, values_of, placed}
use Rattle.columns.specs.declared.Refusal.{Refusal}
use Rattle.columns.specs.declared.cursor.Cell.{Cell}
use Rattle.columns.specs.declared.cursor.Cell.TheVariants as C
use Rattle.columns.specs.declared.cursor.Read.{Read}

-- a number of a record, as the code has it
abbrev pub slot : Option ℤ → Slot
slot None = missing
slot (Some v) = given v

-- the part of the record that a column with the bytes f gives
abbrev pub cell_rec : Cell → List ℕ → Rec
cell_rec (C.Number n) f = one_number (slot n)
cell_rec C.NoThree f = group_rec missing missing missing
cell_rec (C.Three x y z) f = group_rec (given x) (given y) (given z)
cell_rec C.Chars f = some_text f
cell_rec C.Gap f = nothing

-- the answer that it stands for: document 01's number and column for a refusal
abbrev pub cell_answer : Result Cell Refusal → List ℕ → Answer Rec
cell_answer (Ok x) f = ok (cell_rec x f)
cell_answer (Err e) f = refusal e.reason e.column

-- what the cursor hands back: the answer of the column, and itself moved on by the column's width
pub record Found (a : Answer Rec) (r : Read (Result Cell Refusal)) (at w : ℕ) (f : List ℕ) : Type 0 where
  pub answer : cell_answer r.value f ≡ a
  pub next : r.next.at ≡ at + w

-- a column that can be read: its bytes from `at` lie in the line, and the record has as many flags as values, k of them read
pub record Readable (c : Col) (at line k nf nv : ℕ) : Type 0 where
  pub fine : T (good_col c)
  pub fits : at + width c ≤ line
  pub low : line ≤ 4096
  pub same : nf ≡ nv
  pub seen : k ≤ nf

-- places in the record for a part of it: numbers from k on, text from t on
pub record Storable (r : Rec) (k nf nv t nt : ℕ) : Type 0 where
  pub same : nf ≡ nv
  pub numbers : k + length r.numbers ≤ nf
  pub chars : t + length r.chars ≤ nt

-- what a column gives, in its places of the record
pub record Stored (part : Rec) (k : ℕ) (f f₁ : List ℕ) (v v₁ : List ℤ) (t : ℕ) (s s₁ : List ℕ) : Type 0 where
  pub flags : f₁ ≡ placed k (flags_of part.numbers) f
  pub values : v₁ ≡ placed k (values_of part.numbers) v
  pub chars : s₁ ≡ placed t part.chars s
