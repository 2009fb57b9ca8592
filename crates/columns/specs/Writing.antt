-- What a record answers when it is written by a list of columns. Document 01, "Numbers answered": fields left to right,
-- each 5, 2, 10, 7, 8; 2 at the byte's own column, the others at the field's first.
use Rattle.std.specs.Prelude.{ℕ, ◌+◌, List, [], ◌∷◌, ◌++◌, Bool, false, ℤ, length, take, drop, get_or, replicate, eqb, ltb}
use Rattle.columns.specs.Answer.{pick, Answer, ok, refusal, both, barred_byte, required_blank, out_of_range, wrong_letter, too_wide, too_short}
use Rattle.columns.specs.Bytes.{barred, member}
use Rattle.columns.specs.Number.{form_width, holds, field_bytes}
use Rattle.columns.specs.Column.{Slot, missing, given, allowed, rule_bars, Col, numeric, text, letter, group, printed, width, slots, texts, widths}
use Rattle.columns.specs.Group.{put_group}
use Rattle.columns.specs.Reading.{judge_text}
use Rattle.columns.specs.declared.number.Form.{Form}

-- required and missing 5, too wide 10, range 7; a missing number is written as blanks
abbrev pub put_number : Form → Bool → (ℤ → Bool) → ℕ → Slot → Answer (List ℕ)
put_number m q fits at missing =
    pick q (refusal required_blank (at + 1)) (ok (replicate (form_width m) 32))
put_number m q fits at (given v) =
    pick (holds m v) (pick (fits v) (ok (field_bytes m v)) (refusal out_of_range (at + 1))) (refusal too_wide (at + 1))

-- the lowest barred byte of a column that starts after the first `at` bytes, with brackets among them or not
abbrev pub barred_in : Bool → ℕ → List ℕ → ℕ
barred_in bars at t = barred (pick bars (at + 1) 0) (pick bars (at + length t) 0) (at + 1) t

-- no barred byte, else 2
abbrev pub put_text : Bool → ℕ → List ℕ → Answer (List ℕ) → Answer (List ℕ)
put_text bars at t o = pick (eqb (barred_in bars at t) 0) o (refusal barred_byte (barred_in bars at t))

-- the bytes of a column, from its numbers and its text
unfoldable pub write_cell : Col → List Slot → ℕ → List Slot → List ℕ → Answer (List ℕ)
write_cell (numeric m q g) seen at ns t = put_number m q (allowed g seen) at (get_or ns 0 missing)
write_cell (text w r) seen at ns t = judge_text r at t (put_text (rule_bars r) at t (ok t))
write_cell (letter s) seen at ns t =
    put_text false at t (pick (member (get_or t 0 0) s) (ok t) (refusal wrong_letter (at + 1)))
write_cell (group g) seen at ns t =
    put_group g seen at (get_or ns 0 missing) (get_or ns 1 missing) (get_or ns 2 missing)
write_cell (printed b w) seen at ns t = ok (replicate w b)

-- the columns, one after the other; `ns` and `t` are what is left of the record
unfoldable pub write_columns : List Col → List Slot → ℕ → List Slot → List ℕ → Answer (List ℕ)
write_columns [] seen at ns t = ok []
write_columns (c ∷ cs) seen at ns t =
    both ◌++◌ (write_cell c seen at (take (slots c) ns) (take (texts c) t))
    (write_columns cs (seen ++ take (slots c) ns) (at + width c) (drop (slots c) ns) (drop (texts c) t))

-- what is answered where the lent place of some bytes has room for w of them: else 11
abbrev pub in_place : {A : Type 0} → ℕ → ℕ → Answer A → Answer A
in_place room w o = pick (ltb room w) (refusal too_short 0) o

-- a line of its own: 11 comes before the columns
unfoldable pub write_line : List Col → List Slot → List ℕ → ℕ → Answer (List ℕ)
write_line cs ns t room = in_place room (widths cs) (write_columns cs [] 0 ns t)

-- what was written before the first refusal: the whole line where there is none
abbrev pub wrote_before : Answer (List ℕ) → List ℕ → List ℕ
wrote_before (refusal n k) o = []
wrote_before (ok ys) o = ys ++ o

unfoldable pub write_part : List Col → List Slot → ℕ → List Slot → List ℕ → List ℕ
write_part [] seen at ns t = []
write_part (c ∷ cs) seen at ns t =
    wrote_before (write_cell c seen at (take (slots c) ns) (take (texts c) t))
    (write_part cs (seen ++ take (slots c) ns) (at + width c) (drop (slots c) ns) (drop (texts c) t))
