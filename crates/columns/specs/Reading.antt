-- What a line answers when it is read by a list of columns. Document 01, "Numbers answered": columns left to right,
-- each 4 at the byte's own column, or 5, 6, 7, 8 at the field's first.
use Rattle.std.specs.Prelude.{ℕ, ◌+◌, ◌-◌, List, [], ◌∷◌, ◌++◌, Bool, false, not, ℤ, length, take, drop, get_or, eqb}
use Rattle.columns.specs.Answer.{pick, Answer, ok, refusal, unless, chain, not_blank, required_blank, bad_form, out_of_range, wrong_letter}
use Rattle.columns.specs.Bytes.{is_none, skip, all_blank, member}
use Rattle.columns.specs.Number.{field_of}
use Rattle.columns.specs.declared.column.Rule.TheVariants as U
use Rattle.columns.specs.Column.{Slot, missing, given, Rec, joined, allowed, Rule, Col, numeric, text, letter, group, printed, width}
use Rattle.columns.specs.Group.{group_field, judge_group}
use Rattle.columns.specs.declared.Reason.{Reason}
use Rattle.columns.specs.declared.number.Field.{Field}
use Rattle.columns.specs.declared.number.Field.TheVariants as F

abbrev pub nothing : Rec
nothing = record { numbers = []; chars = [] }

abbrev pub one_number : Slot → Rec
one_number x = record { numbers = x ∷ []; chars = [] }

abbrev pub some_text : List ℕ → Rec
some_text f = record { numbers = []; chars = f }

-- required and blank 5, form 6, range 7
abbrev pub judge : Bool → (ℤ → Bool) → ℕ → Field → Answer Rec
judge q fits at F.Missing = pick q (refusal required_blank (at + 1)) (ok (one_number missing))
judge q fits at F.Bad = refusal bad_form (at + 1)
judge q fits at (F.Value v) = pick (fits v) (ok (one_number (given v))) (refusal out_of_range (at + 1))

-- text that its rule refuses; a bracket is found with the line's barred bytes
abbrev pub rule_refuses : Rule → List ℕ → Bool
rule_refuses U.AnyText f = false
rule_refuses U.NoBrackets f = false
rule_refuses U.NotBlankFirst f = eqb (get_or f 0 0) 32
rule_refuses U.NotAllBlank f = all_blank f
rule_refuses U.BlankOrFilled f = pick (eqb (get_or f 0 0) 32) (not (all_blank f)) false

-- required and blank 5; form 6, in place of 5 (document 02, Wish 2)
abbrev pub rule_number : Rule → Reason
rule_number U.AnyText = required_blank
rule_number U.NoBrackets = required_blank
rule_number U.NotBlankFirst = required_blank
rule_number U.NotAllBlank = required_blank
rule_number U.BlankOrFilled = bad_form

abbrev pub judge_text : Rule → ℕ → List ℕ → Answer (List ℕ) → Answer (List ℕ)
judge_text r at f o = unless (rule_refuses r f) (rule_number r) (at + 1) o

abbrev pub as_text : Answer (List ℕ) → Answer Rec
as_text (ok f) = ok (some_text f)
as_text (refusal n k) = refusal n k

-- the first byte that is not as printed, 4 at its own column
abbrev pub judge_printed : ℕ → ℕ → List ℕ → Answer Rec
judge_printed b at f =
    pick (is_none (skip b f)) (ok nothing) (refusal not_blank (at + 1 + (length f - length (skip b f))))

-- the column in the bytes f, after the first `at` bytes of the line and the numbers `seen`
unfoldable pub read_cell : Col → List Slot → ℕ → List ℕ → Answer Rec
read_cell (numeric m q g) seen at f = judge q (allowed g seen) at (field_of m f)
read_cell (text w r) seen at f = as_text (judge_text r at f (ok f))
read_cell (letter s) seen at f =
    pick (member (get_or f 0 0) s) (ok (some_text f)) (refusal wrong_letter (at + 1))
read_cell (group g) seen at f = judge_group g seen at (group_field g f)
read_cell (printed b w) seen at f = judge_printed b at f

-- the columns, one after the other; `line` is what comes after the first `at` bytes
unfoldable pub read_columns : List Col → List Slot → ℕ → List ℕ → Answer Rec
read_columns [] seen at line = ok nothing
read_columns (c ∷ cs) seen at line =
    chain joined (read_cell c seen at (take (width c) line))
    (λ r. read_columns cs (seen ++ r.numbers) (at + width c) (drop (width c) line))

-- what was read before the first refusal: the whole record where there is none
abbrev pub read_before : Answer Rec → (Rec → Rec) → Rec
read_before (refusal n k) o = nothing
read_before (ok r) o = joined r (o r)

unfoldable pub read_part : List Col → List Slot → ℕ → List ℕ → Rec
read_part [] seen at line = nothing
read_part (c ∷ cs) seen at line =
    read_before (read_cell c seen at (take (width c) line))
    (λ r. read_part cs (seen ++ r.numbers) (at + width c) (drop (width c) line))
