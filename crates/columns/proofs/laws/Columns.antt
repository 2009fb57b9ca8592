-- Every record that is written by a list of columns reads back: by column, then over the list.
use mathlib.Core.Path.{◌≡◌, refl, ◌∙◌, subst, ap}
use mathlib.Core.Bool.{Bool, true, false}
use mathlib.Core.List.{List, [], ◌∷◌, ◌++◌}
use Prim.Native.Nat.{ℕ, ◌+◌, ◌≤◌}
use native.Mathlib.Omega.{arith}
use lib.ListN.{length, take, drop, get_or, replicate, length-append, length-drop, length-replicate, take-append-drop}
use lib.Dec.{eqb, T}
use lib.IntN.{ℤ}
use borrow.Author.Tests.{eqb-true}
use lib.Seq.{take-append-le, drop-append-le, take_at, drop_at, length-take-le}
use Rattle.columns.specs.declared.Reason.{Reason}
use Rattle.columns.specs.declared.number.Form.{Form}
use Rattle.columns.specs.declared.group.Group.{Group}
use Rattle.columns.specs.Answer.{pick, ok, refusal, barred_byte, required_blank, out_of_range, wrong_letter, too_wide, chain, both, Answer}
use Rattle.columns.specs.Bytes.{is_text, member}
use Rattle.columns.specs.Number.{form_width, good_form, field_of, holds, field_bytes}
use Rattle.columns.specs.Column.{Slot, missing, given, Rec, Range, allowed, Rule, rule_bars, Col, numeric, text, letter, group, printed, width, slots, texts, good_group, good_col, good, widths, all_slots, all_texts, bars_of, joined}
use Rattle.columns.specs.Reading.{one_number, some_text, judge, rule_refuses, rule_number, judge_text, as_text, read_cell, read_columns}
use Rattle.columns.specs.Writing.{put_number, barred_in, put_text, write_cell, write_columns}
use Rattle.columns.proofs.laws.Clear.{Clear, clear_blanks, clear_repeat, barred_clear}
use Rattle.columns.proofs.laws.Answers.{passed, held, split}
use Rattle.columns.proofs.laws.Bytes.{skip_all}
use Rattle.columns.proofs.laws.Form.{form_back, form_blank, form_length, form_clear}
use Rattle.columns.proofs.laws.GroupBack.{group_back, three_of_lem}
use Rattle.columns.proofs.laws.Tests.{T_and}

-- ---- short lists

nil_of : {A : Type 0} (l : List A) → length l ≡ 0 → l ≡ []
nil_of [] e = refl
nil_of (x ∷ s) e = let y : ⊥ = omega arith in absurd y

one_of : {A : Type 0} (l : List A) (d : A) → length l ≡ 1 → l ≡ get_or l 0 d ∷ []
one_of [] d e = let y : ⊥ = omega arith in absurd y
one_of (x ∷ []) d e = refl
one_of (x ∷ y ∷ s) d e = let y : ⊥ = omega arith in absurd y

-- ---- a column is read back

-- a written column: as wide as the column, of allowed bytes, and read back
pub record Written (c : Col) (seen : List Slot) (at : ℕ) (ns : List Slot) (t ys : List ℕ) : Type 0 where
  pub size : length ys ≡ width c
  pub plain : Clear (bars_of c) ys
  pub back : read_cell c seen at ys ≡ ok (record { numbers = ns; chars = t })

module _ (m : Form) (q : Bool) (fits : ℤ → Bool) (at : ℕ) (o : T (good_form m)) where
  number_back : (x : Slot) (ys : List ℕ) → put_number m q fits at x ≡ ok ys → judge q fits at (field_of m ys) ≡ ok (one_number x)
  number_back missing ys p =
      let a = passed q required_blank (at + 1) (ok (replicate (form_width m) 32)) ys p in
      let b : replicate (form_width m) 32 ≡ ys = cc a.1 in
      rw (← b, form_blank m, a.0)
  number_back (given v) ys p =
      let a = held (holds m v) too_wide (at + 1) (pick (fits v) (ok (field_bytes m v)) (refusal out_of_range (at + 1))) ys p in
      let b = held (fits v) out_of_range (at + 1) (ok (field_bytes m v)) ys a.1 in
      let d : field_bytes m v ≡ ys = cc b.1 in
      rw (← d, form_back m v o a.0, b.0)

  -- what holds of blanks and of every written number holds of what was written
  number_put : (P : List ℕ → Type 0) → P (replicate (form_width m) 32) → ((v : ℤ) → holds m v ≡ true → P (field_bytes m v)) → (x : Slot) (ys : List ℕ) → put_number m q fits at x ≡ ok ys → P ys
  number_put P g h missing ys p =
      let a = passed q required_blank (at + 1) (ok (replicate (form_width m) 32)) ys p in
      let b : replicate (form_width m) 32 ≡ ys = cc a.1 in
      subst P b g
  number_put P g h (given v) ys p =
      let a = held (holds m v) too_wide (at + 1) (pick (fits v) (ok (field_bytes m v)) (refusal out_of_range (at + 1))) ys p in
      let b = held (fits v) out_of_range (at + 1) (ok (field_bytes m v)) ys a.1 in
      let d : field_bytes m v ≡ ys = cc b.1 in
      subst P d (h v a.0)

-- text that its rule lets pass
pub text_passed : (r : Rule) (at : ℕ) (f ys : List ℕ) (o : Answer (List ℕ)) → judge_text r at f o ≡ ok ys → (o ≡ ok ys) × (judge_text r at f (ok f) ≡ ok f)
text_passed r at f ys o e =
    let p = passed (rule_refuses r f) (rule_number r) (at + 1) o ys e in
    (p.1, rw p.0)

text_case : (t : Bool) (n : Reason) (k : ℕ) (f : List ℕ) (r : Rec) → as_text (pick t (refusal n k) (ok f)) ≡ ok r → (some_text f ≡ r) × (pick t (refusal n k) (ok f) ≡ ok f)
text_case true n k f r e = let z : ◌≡◌ {A = ℕ} 0 1 = cc in let y : ⊥ = omega arith in absurd y
text_case false n k f r e = (cc, refl)

pub text_read : (x : Rule) (at : ℕ) (f : List ℕ) (r : Rec) → as_text (judge_text x at f (ok f)) ≡ ok r → (some_text f ≡ r) × (judge_text x at f (ok f) ≡ ok f)
text_read x at f r e = text_case (rule_refuses x f) (rule_number x) (at + 1) f r e

module _ (seen : List Slot) (at : ℕ) (ns : List Slot) (t ys : List ℕ) where
  number_written : (m : Form) (q : Bool) (g : Range) → T (good_form m) → length ns ≡ 1 → length t ≡ 0 → write_cell (numeric m q g) seen at ns t ≡ ok ys → Written (numeric m q g) seen at ns t ys
  unfolding write_cell read_cell
  number_written m q g o a b e =
      record {
        size = number_put m q (allowed g seen) at o (λ (x : List ℕ). length x ≡ form_width m) (length-replicate (form_width m) 32) (λ v k. form_length m v o k) (get_or ns 0 missing) ys e;
        plain = number_put m q (allowed g seen) at o (Clear false) (clear_blanks false (form_width m)) (λ v k. form_clear false m v) (get_or ns 0 missing) ys e;
        back = number_back m q (allowed g seen) at o (get_or ns 0 missing) ys e ∙ rw (← one_of ns missing a, nil_of t b);
      }

  text_written_lem : (w : ℕ) (r : Rule) → length ns ≡ 0 → length t ≡ w → write_cell (text w r) seen at ns t ≡ ok ys → Written (text w r) seen at ns t ys
  unfolding write_cell read_cell
  text_written_lem w r a b e =
      let p = text_passed r at t ys (put_text (rule_bars r) at t (ok t)) e in
      let y = held (eqb (barred_in (rule_bars r) at t) 0) barred_byte (barred_in (rule_bars r) at t) (ok t) ys p.0 in
      let d : t ≡ ys = cc y.1 in
      record {
        size = rw (← d) b;
        plain = subst (Clear (rule_bars r)) d (barred_clear (rule_bars r) at t (eqb-true _ _ y.0));
        back = rw (← d, p.1, nil_of ns a);
      }

  letter_written : (s : List ℕ) → length ns ≡ 0 → length t ≡ 1 → write_cell (letter s) seen at ns t ≡ ok ys → Written (letter s) seen at ns t ys
  unfolding write_cell read_cell
  letter_written s a b e =
      let p = held (eqb (barred_in false at t) 0) barred_byte (barred_in false at t) (pick (member (get_or t 0 0) s) (ok t) (refusal wrong_letter (at + 1))) ys e in
      let y = held (member (get_or t 0 0) s) wrong_letter (at + 1) (ok t) ys p.1 in
      let d : t ≡ ys = cc y.1 in
      record {
        size = rw (← d) b;
        plain = subst (Clear false) d (barred_clear false at t (eqb-true _ _ p.0));
        back = rw (← d, y.0, nil_of ns a);
      }

  group_written : (g : Group) → T (good_group g) → length ns ≡ 3 → length t ≡ 0 → write_cell (group g) seen at ns t ≡ ok ys → Written (group g) seen at ns t ys
  unfolding write_cell read_cell
  group_written g o a b e =
      let c = group_back g seen at o (get_or ns 0 missing) (get_or ns 1 missing) (get_or ns 2 missing) ys e in
      record { size = c.size; plain = c.plain; back = c.back ∙ rw (← three_of_lem ns missing a, nil_of t b) }

  printed_written : (x w : ℕ) → T (is_text x) → length ns ≡ 0 → length t ≡ 0 → write_cell (printed x w) seen at ns t ≡ ok ys → Written (printed x w) seen at ns t ys
  unfolding write_cell read_cell
  printed_written x w o a b e =
      let d : replicate w x ≡ ys = cc in
      record { size = rw (← d) (length-replicate w x); plain = subst (Clear false) d (clear_repeat x w o); back = rw (← d, skip_all x w, nil_of ns a, nil_of t b) }

pub cell_written : (c : Col) (seen : List Slot) (at : ℕ) (ns : List Slot) (t ys : List ℕ) → T (good_col c) → length ns ≡ slots c → length t ≡ texts c → write_cell c seen at ns t ≡ ok ys → Written c seen at ns t ys
cell_written (numeric m q g) seen at ns t ys o a b e = number_written seen at ns t ys m q g o a b e
cell_written (text w r) seen at ns t ys o a b e = text_written_lem seen at ns t ys w r a b e
cell_written (letter s) seen at ns t ys o a b e = letter_written seen at ns t ys s a b e
cell_written (group g) seen at ns t ys o a b e = group_written seen at ns t ys g o a b e
cell_written (printed x w) seen at ns t ys o a b e = printed_written seen at ns t ys x w o a b e

-- ---- bytes that are allowed, column by column

pub data Clean : List Col → List ℕ → Type 0 where
  done : {line : List ℕ} → Clean [] line
  column : {c : Col} {cs : List Col} {line : List ℕ} → Clear (bars_of c) (take (width c) line) → Clean cs (drop (width c) line) → Clean (c ∷ cs) line

-- ---- a list of columns is read back

pub record Line (cs : List Col) (seen : List Slot) (at : ℕ) (ns : List Slot) (t ys : List ℕ) : Type 0 where
  pub size : length ys ≡ widths cs
  pub clean : Clean cs ys
  pub back : read_columns cs seen at ys ≡ ok (record { numbers = ns; chars = t })

part_length : {A : Type 0} (k r : ℕ) (l : List A) → length l ≡ k + r → (length (take k l) ≡ k) × (length (drop k l) ≡ r)
part_length k r l e = (length-take-le k l (omega arith), length-drop k l ∙ omega arith)

pub columns_back : (cs : List Col) (seen : List Slot) (at : ℕ) (ns : List Slot) (t ys : List ℕ) → T (good cs) → length ns ≡ all_slots cs → length t ≡ all_texts cs → write_columns cs seen at ns t ≡ ok ys → Line cs seen at ns t ys
unfolding good all_slots all_texts widths write_columns read_columns
columns_back [] seen at ns t ys g a b e =
    let d : [] ≡ ys = cc in
    record { size = rw (← d) refl; clean = done; back = rw (nil_of ns a, nil_of t b) }
columns_back (c ∷ cs) seen at ns t ys g a b e =
    let gs = T_and (good_col c) (good cs) g in
    let an = part_length (slots c) (all_slots cs) ns a in
    let bt = part_length (texts c) (all_texts cs) t b in
    let s = split ◌++◌ (write_cell c seen at (take (slots c) ns) (take (texts c) t)) (write_columns cs (seen ++ take (slots c) ns) (at + width c) (drop (slots c) ns) (drop (texts c) t)) ys e in
    let x = cell_written c seen at (take (slots c) ns) (take (texts c) t) s.a gs.0 an.0 bt.0 s.first in
    let y = columns_back cs (seen ++ take (slots c) ns) (at + width c) (drop (slots c) ns) (drop (texts c) t) s.b gs.1 an.1 bt.1 s.second in
    let ta = take_at s.a s.b (width c) x.size in
    let da = drop_at s.a s.b (width c) x.size in
    record {
      size = rw (← s.is) (length-append s.a s.b ∙ omega (arith, x.size, y.size));
      clean = rw (← s.is) (column {c = c} {cs = cs} {line = s.a ++ s.b} (rw ta x.plain) (rw da y.clean));
      back = rw (← s.is, ta, da, x.back, y.back, take-append-drop, take-append-drop);
    }

-- what is written has the table's width, whatever follows in the record
pub columns_size : (cs : List Col) (seen : List Slot) (at : ℕ) (ns : List Slot) (t ys : List ℕ) → T (good cs) → all_slots cs ≤ length ns → all_texts cs ≤ length t → write_columns cs seen at ns t ≡ ok ys → length ys ≡ widths cs
unfolding good all_slots all_texts widths write_columns
columns_size [] seen at ns t ys g a b e = let d : [] ≡ ys = cc in rw (← d) refl
columns_size (c ∷ cs) seen at ns t ys g a b e =
    let gs = T_and (good_col c) (good cs) g in
    let s = split ◌++◌ (write_cell c seen at (take (slots c) ns) (take (texts c) t)) (write_columns cs (seen ++ take (slots c) ns) (at + width c) (drop (slots c) ns) (drop (texts c) t)) ys e in
    let x = cell_written c seen at (take (slots c) ns) (take (texts c) t) s.a gs.0 (length-take-le (slots c) ns (omega arith)) (length-take-le (texts c) t (omega arith)) s.first in
    let y = columns_size cs (seen ++ take (slots c) ns) (at + width c) (drop (slots c) ns) (drop (texts c) t) s.b gs.1 (omega (arith, length-drop (slots c) ns)) (omega (arith, length-drop (texts c) t)) s.second in
    rw (← s.is) (length-append s.a s.b ∙ omega (arith, x.size))

-- ---- bytes after the last column are not looked at

pub chain_same : {A : Type 0} (f : A → A → A) (x : Answer A) (o p : A → Answer A) → ((a : A) → o a ≡ p a) → chain f x o ≡ chain f x p
chain_same f (ok a) o p h = ap (both f (ok a)) (h a)
chain_same f (refusal n k) o p h = refl

pub columns_more_bytes : (cs : List Col) (seen : List Slot) (at : ℕ) (ys zs : List ℕ) → widths cs ≤ length ys → read_columns cs seen at (ys ++ zs) ≡ read_columns cs seen at ys
unfolding read_columns widths
columns_more_bytes [] seen at ys zs h = refl
columns_more_bytes (c ∷ cs) seen at ys zs h =
    let t : take (width c) (ys ++ zs) ≡ take (width c) ys = take-append-le (width c) ys zs (omega arith) in
    let d : drop (width c) (ys ++ zs) ≡ drop (width c) ys ++ zs = drop-append-le (width c) ys zs (omega arith) in
    rw (t, d)
    (chain_same joined (read_cell c seen at (take (width c) ys)) (λ r. read_columns cs (seen ++ r.numbers) (at + width c) (drop (width c) ys ++ zs)) (λ r. read_columns cs (seen ++ r.numbers) (at + width c) (drop (width c) ys))
    (λ r. columns_more_bytes cs (seen ++ r.numbers) (at + width c) (drop (width c) ys) zs (omega (arith, length-drop (width c) ys))))
