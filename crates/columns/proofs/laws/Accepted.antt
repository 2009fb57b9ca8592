-- Every record that is read by a list of columns is accepted by the writer: by column, then over the list.
use mathlib.Core.Path.{◌≡◌, refl, ◌∙◌}
use mathlib.Core.Bool.{Bool, true, false}
use mathlib.Core.List.{List, [], ◌∷◌, ◌++◌}
use Prim.Native.Nat.{ℕ, ◌+◌, ◌-◌, ◌≤◌}
use native.Mathlib.Omega.{arith}
use lib.ListN.{length, take, drop, get_or, replicate, length-append, length-drop}
use lib.Dec.{T}
use lib.IntN.{ℤ}
use lib.Seq.{take_at, drop_at, length-take-le}
use Rattle.columns.specs.declared.number.Field.{Field}
use Rattle.columns.specs.declared.number.Form.{Form}
use Rattle.columns.specs.declared.group.Group.{Group}
use Rattle.columns.specs.Answer.{Answer, ok, not_blank, required_blank, out_of_range, wrong_letter}
use Rattle.columns.specs.Bytes.{is_none, skip, member}
use Rattle.columns.specs.Number.{form_width, good_form, field_of, holds, field_bytes}
use Rattle.columns.specs.Column.{Slot, missing, given, Rec, joined, Range, allowed, Rule, rule_bars, Col, numeric, text, letter, group, printed, width, slots, texts, group_width, good_group, good_col, good, widths, all_slots, all_texts, bars_of}
use Rattle.columns.specs.Reading.{nothing, one_number, some_text, judge, read_cell, read_columns}
use Rattle.columns.specs.Writing.{put_number, put_text, write_cell, write_columns}
use Rattle.columns.proofs.laws.Clear.{Clear, clear_barred}
use Rattle.columns.proofs.laws.Columns.{Clean, column, text_read}
use Rattle.columns.proofs.laws.Answers.{passed, held, chained}
use Rattle.columns.proofs.laws.Form.{form_holds}
use Rattle.columns.proofs.laws.GroupBack.{group_took}
use Rattle.columns.proofs.laws.Tests.{T_and}
use Rattle.columns.specs.declared.number.Field.TheVariants as F

-- ---- a column

-- a part of a record that was read, as the writer takes it
pub record Accepted (c : Col) (seen : List Slot) (at : ℕ) (r : Rec) : Type 0 where
  pub bytes : List ℕ
  pub numbers : length r.numbers ≡ slots c
  pub chars : length r.chars ≡ texts c
  pub written : write_cell c seen at r.numbers r.chars ≡ ok bytes

-- a number that was read
record Took (m : Form) (q : Bool) (fits : ℤ → Bool) (at : ℕ) (r : Rec) : Type 0 where
  slot : Slot
  is : one_number slot ≡ r
  line : List ℕ
  put : put_number m q fits at slot ≡ ok line

module _ (m : Form) (q : Bool) (fits : ℤ → Bool) (at : ℕ) (r : Rec) where
  took : (x : Field) → ((v : ℤ) → x ≡ F.Value v → holds m v ≡ true) → judge q fits at x ≡ ok r → Took m q fits at r
  took F.Missing f e =
      let a = passed q required_blank (at + 1) (ok (one_number missing)) r e in
      record { slot = missing; is = cc a.1; line = replicate (form_width m) 32; put = rw a.0 }
  took F.Bad f e = let z : ◌≡◌ {A = ℕ} 0 1 = cc in let y : ⊥ = omega arith in absurd y
  took (F.Value v) f e =
      let a = held (fits v) out_of_range (at + 1) (ok (one_number (given v))) r e in
      record { slot = given v; is = cc a.1; line = field_bytes m v; put = rw (f v refl, a.0) }

clear_put : (bars : Bool) (at : ℕ) (s : List ℕ) (o : Answer (List ℕ)) → Clear bars s → put_text bars at s o ≡ o
clear_put bars at s o p = rw (clear_barred bars at s p)

module _ (seen : List Slot) (at : ℕ) (f : List ℕ) (r : Rec) where
  number_accepted : (m : Form) (q : Bool) (g : Range) → T (good_form m) → length f ≡ form_width m → read_cell (numeric m q g) seen at f ≡ ok r → Accepted (numeric m q g) seen at r
  unfolding read_cell write_cell
  number_accepted m q g o l e =
      let a = took m q (allowed g seen) at r (field_of m f) (λ v x. form_holds m f v o l x) e in
      rw (← a.is) (record { bytes = a.line; numbers = refl; chars = refl; written = a.put })

  text_accepted : (w : ℕ) (x : Rule) → Clear (rule_bars x) f → length f ≡ w → read_cell (text w x) seen at f ≡ ok r → Accepted (text w x) seen at r
  unfolding read_cell write_cell
  text_accepted w x p l e =
      let a = text_read x at f r e in
      rw (← a.0) (record { bytes = f; numbers = refl; chars = l; written = rw (clear_put (rule_bars x) at f (ok f) p) a.1 })

  letter_accepted : (s : List ℕ) → Clear false f → length f ≡ 1 → read_cell (letter s) seen at f ≡ ok r → Accepted (letter s) seen at r
  unfolding read_cell write_cell
  letter_accepted s p l e =
      let a = held (member (get_or f 0 0) s) wrong_letter (at + 1) (ok (some_text f)) r e in
      let d : some_text f ≡ r = cc a.1 in
      rw (← d) (record { bytes = f; numbers = refl; chars = l; written = rw a.0 (clear_put false at f (ok f) p) })

  group_accepted : (g : Group) → T (good_group g) → length f ≡ group_width g → read_cell (group g) seen at f ≡ ok r → Accepted (group g) seen at r
  unfolding read_cell write_cell
  group_accepted g o l e =
      let c = group_took g seen at r f o l e in
      rw (← c.is) (record { bytes = c.line; numbers = refl; chars = refl; written = c.put })

  printed_accepted : (b w : ℕ) → read_cell (printed b w) seen at f ≡ ok r → Accepted (printed b w) seen at r
  unfolding read_cell write_cell
  printed_accepted b w e =
      let a = held (is_none (skip b f)) not_blank (at + 1 + (length f - length (skip b f))) (ok nothing) r e in
      let d : nothing ≡ r = cc a.1 in
      rw (← d) (record { bytes = replicate w b; numbers = refl; chars = refl; written = refl })

pub cell_accepted : (c : Col) (seen : List Slot) (at : ℕ) (f : List ℕ) (r : Rec) → Clear (bars_of c) f → T (good_col c) → length f ≡ width c → read_cell c seen at f ≡ ok r → Accepted c seen at r
cell_accepted (numeric m q g) seen at f r p o l e = number_accepted seen at f r m q g o l e
cell_accepted (text w x) seen at f r p o l e = text_accepted seen at f r w x p l e
cell_accepted (letter s) seen at f r p o l e = letter_accepted seen at f r s p l e
cell_accepted (group g) seen at f r p o l e = group_accepted seen at f r g o l e
cell_accepted (printed b w) seen at f r p o l e = printed_accepted seen at f r b w e

-- ---- a list of columns

pub record Writes (cs : List Col) (seen : List Slot) (at : ℕ) (r : Rec) : Type 0 where
  pub bytes : List ℕ
  pub numbers : length r.numbers ≡ all_slots cs
  pub chars : length r.chars ≡ all_texts cs
  pub written : write_columns cs seen at r.numbers r.chars ≡ ok bytes

pub columns_accepted : (cs : List Col) (seen : List Slot) (at : ℕ) (line : List ℕ) (r : Rec) → T (good cs) → widths cs ≤ length line → Clean cs line → read_columns cs seen at line ≡ ok r → Writes cs seen at r
unfolding good all_slots all_texts widths write_columns read_columns
columns_accepted [] seen at line r g h p e =
    let d : nothing ≡ r = cc in
    rw (← d) (record { bytes = []; numbers = refl; chars = refl; written = refl })
columns_accepted (c ∷ cs) seen at line r g h (column p ps) e =
    let gs = T_and (good_col c) (good cs) g in
    let s = chained joined (read_cell c seen at (take (width c) line)) (λ z. read_columns cs (seen ++ z.numbers) (at + width c) (drop (width c) line)) r e in
    let x = cell_accepted c seen at (take (width c) line) s.a p gs.0 (length-take-le (width c) line (omega arith)) s.first in
    let y = columns_accepted cs (seen ++ s.a.numbers) (at + width c) (drop (width c) line) s.b gs.1 (rw length-drop (omega arith)) ps s.second in
    rw (← s.is)
    (record {
      bytes = x.bytes ++ y.bytes;
      numbers = length-append s.a.numbers s.b.numbers ∙ omega (arith, x.numbers, y.numbers);
      chars = length-append s.a.chars s.b.chars ∙ omega (arith, x.chars, y.chars);
      written =
          rw (take_at s.a.numbers s.b.numbers (slots c) x.numbers, drop_at s.a.numbers s.b.numbers (slots c) x.numbers, take_at s.a.chars s.b.chars (texts c) x.chars, drop_at s.a.chars s.b.chars (texts c) x.chars, x.written, y.written);
    })
