-- Laws of judging: one column, as the code comes to it, and the turns of a loop over a table.
use mathlib.Core.Path.{◌≡◌, refl, sym, ap, ◌∙◌}
use mathlib.Core.Bool.{Bool, true, false, not, ◌&&◌, false≢true}
use mathlib.Core.List.{List, [], ◌∷◌, ◌++◌, append_assoc}
use Prim.Native.Nat.{ℕ, ◌+◌, ◌-◌, ◌≤◌, ◌<◌}
use native.Mathlib.Omega.{arith}
use lib.ListN.{length, take, drop, get_or}
use lib.Seq.{slice, drop-drop}
use lib.Dec.{T, eqb}
use lib.IntN.{ℤ}
use borrow.Author.Tests.{eqb-true}
use Rattle.columns.specs.declared.Reason.{Reason}
use Rattle.columns.specs.declared.number.Field.{Field}
use Rattle.columns.specs.declared.number.Form.{Form}
use Rattle.columns.specs.declared.column.Column.{Column}
use Rattle.columns.specs.Answer.{pick, Answer, ok, refusal, is_ok, both, chain, required_blank, out_of_range}
use Rattle.columns.specs.Number.{int_field, field_of}
use Rattle.columns.specs.Column.{Slot, missing, given, slot_in, Rec, joined, last_day_after, Range, allowed, Rule, Col, numeric, text, letter, group, printed, width, good_col, good, widths}
use Rattle.columns.specs.Reading.{one_number, judge, rule_refuses, rule_number, judge_text, as_text, read_cell, read_columns}
use Rattle.columns.specs.Table.{column_in, range_at, col_of, columns_of}
use Rattle.columns.specs.Judge.{simple_col, looks_back, is_day, date_to, simple, last_day_before, Judged, Judgeable}
use Rattle.columns.proofs.laws.Table.{columns_more, columns_none}
use Rattle.columns.proofs.laws.Bytes.{slice_is}
use Rattle.columns.proofs.laws.Tests.{T_and, T_true, both_true}
use Rattle.columns.proofs.laws.Form.{form_integer}
use Rattle.columns.proofs.laws.Answers.{passed, held}
use Rattle.columns.proofs.laws.Calendar.{last_least, after_two}
use Rattle.columns.specs.declared.number.Field.TheVariants as F
use Rattle.columns.specs.declared.number.Form.TheVariants as N

-- ---- one column

pub ok_pick : {A : Type 0} (t : Bool) (x : A) (n : Reason) (k : ℕ) → t ≡ is_ok (pick t (ok x) (refusal n k))
ok_pick true x n k = refl
ok_pick false x n k = refl

pub ok_unless : {A : Type 0} (t : Bool) (x : A) (n : Reason) (k : ℕ) → not t ≡ is_ok (pick t (refusal n k) (ok x))
ok_unless true x n k = refl
ok_unless false x n k = refl

-- the range by its number goes by the numbers before where it is that of a day
pub day_looks : (rs : List ℤ) (k : ℕ) → k ≡ 2 → T (looks_back (range_at rs k))
day_looks rs k e = rw e tt

pub number_judged : (c : Col) (m : Form) (q : Bool) (g : Range) (f : List ℕ) (d : ℕ) (x : Field) (r : Bool) → c ≡ numeric m q g → x ≡ field_of m f → ((seen : List Slot) (at : ℕ) → (T (looks_back g) → last_day_after seen ≡ d) → r ≡ is_ok (judge q (allowed g seen) at x)) → Judged c f d r
unfolding read_cell
number_judged c m q g f d x r e p j = record { accepted = λ seen at h. rw (e, ← p) (j seen at (λ t. h (rw e t))) }

text_pick : (t : Bool) (n : Reason) (k : ℕ) (m : Reason) (j : ℕ) (f : List ℕ) → is_ok (pick t (refusal n k) (ok f)) ≡ is_ok (as_text (pick t (refusal m j) (ok f)))
text_pick true n k m j f = refl
text_pick false n k m j f = refl

text_case : (u : Rule) (at k : ℕ) (f : List ℕ) → is_ok (judge_text u at f (ok f)) ≡ is_ok (as_text (judge_text u k f (ok f)))
text_case u at k f = text_pick (rule_refuses u f) (rule_number u) _ (rule_number u) _ f

pub text_judged : (c : Col) (w : ℕ) (u : Rule) (at : ℕ) (f : List ℕ) (d : ℕ) (r : Bool) → c ≡ text w u → r ≡ is_ok (judge_text u at f (ok f)) → Judged c f d r
unfolding read_cell
text_judged c w u at f d r e j = record { accepted = λ seen k h. rw e (j ∙ text_case u at k f) }

pub told_rule : (x : Rule) (at : ℕ) (f : List ℕ) (t : Bool) → t ≡ rule_refuses x f → not t ≡ is_ok (judge_text x at f (ok f))
told_rule x at f t e = rw e (ok_unless (rule_refuses x f) f (rule_number x) (at + 1))

-- each month has 28 days
pub before_least : (line : List ℕ) (at : ℕ) → 28 ≤ last_day_before line at
before_least line at =
    last_least (slot_in (int_field (slice (at - 6) (at - 6 + 4) line))) (slot_in (int_field (slice (at - 2) (at - 2 + 2) line)))

-- ---- a date before a column: its year and its month are the last numbers that were read

record Year (line : List ℕ) (at : ℕ) (seen : List Slot) : Type 0 where
  earlier : List Slot
  room : 4 ≤ at
  is : seen ≡ earlier ++ slot_in (int_field (slice (at - 4) (at - 4 + 4) line)) ∷ []

record Month (line : List ℕ) (at : ℕ) (seen : List Slot) : Type 0 where
  earlier : List Slot
  room : 6 ≤ at
  is : seen ≡ earlier ++ slot_in (int_field (slice (at - 6) (at - 6 + 4) line)) ∷ slot_in (int_field (slice (at - 2) (at - 2 + 2) line)) ∷ []

pub record Before (n : ℕ) (line : List ℕ) (at : ℕ) (seen : List Slot) : Type 0 where
  year : n ≡ 1 → Year line at seen
  month : n ≡ 2 → Month line at seen

-- nothing of a date
none : (line : List ℕ) (at : ℕ) (seen : List Slot) → Before 0 line at seen
none line at seen = record { year = λ e. absurd (omega (arith, e)); month = λ e. absurd (omega (arith, e)) }

module _ (line : List ℕ) (at : ℕ) (seen ns : List Slot) where
  to_year : ns ≡ slot_in (int_field (slice at (at + 4) line)) ∷ [] → Year line (at + 4) (seen ++ ns)
  to_year e =
      let i : at + 4 - 4 ≡ at = omega arith in
      record { earlier = seen; room = omega arith; is = rw (i, e) }

  to_month : Year line at seen → ns ≡ slot_in (int_field (slice at (at + 2) line)) ∷ [] → Month line (at + 2) (seen ++ ns)
  to_month y e =
      let h = y.room in
      let i : at + 2 - 6 ≡ at - 4 = omega arith in
      let j : at + 2 - 2 ≡ at = omega arith in
      record { earlier = y.earlier; room = omega arith; is = rw (i, j, y.is, e) (append_assoc y.earlier _ _) }

-- the number that a column with a good field gives
field_slot : (q : Bool) (fits : ℤ → Bool) (at : ℕ) (x : Field) (r : Rec) → judge q fits at x ≡ ok r → r.numbers ≡ slot_in x ∷ []
field_slot q fits at F.Missing r e =
    let d : one_number missing ≡ r = cc (passed q required_blank (at + 1) (ok (one_number missing)) r e).1 in
    rw (← d)
field_slot q fits at F.Bad r e = let z : ◌≡◌ {A = ℕ} 0 1 = cc in let y : ⊥ = omega arith in absurd y
field_slot q fits at (F.Value v) r e =
    let d : one_number (given v) ≡ r = cc (held (fits v) out_of_range (at + 1) (ok (one_number (given v))) r e).1 in
    rw (← d)

-- what the test of a list says of a column's width
date_year : (k n : ℕ) (s t : Bool) → eqb k 4 ≡ s → eqb k 2 && eqb n 1 ≡ t → ◌≡◌ {A = ℕ} (pick s 1 (pick t 2 0)) 1 → k ≡ 4
date_year k n true t p q e = eqb-true k 4 p
date_year k n false true p q e = let y : ⊥ = omega (arith, e) in absurd y
date_year k n false false p q e = let y : ⊥ = omega (arith, e) in absurd y

date_month : (k n : ℕ) (s t : Bool) → eqb k 4 ≡ s → eqb k 2 && eqb n 1 ≡ t → ◌≡◌ {A = ℕ} (pick s 1 (pick t 2 0)) 2 → (k ≡ 2) × (n ≡ 1)
date_month k n true t p q e = let y : ⊥ = omega (arith, e) in absurd y
date_month k n false true p q e = let b = both_true (eqb k 2) (eqb n 1) q in (eqb-true k 2 b.0, eqb-true n 1 b.1)
date_month k n false false p q e = let y : ⊥ = omega (arith, e) in absurd y

pub date_next : (c : Col) (n : ℕ) (line : List ℕ) (at : ℕ) (seen : List Slot) (r : Rec) → read_cell c seen at (slice at (at + width c) line) ≡ ok r → Before n line at seen → Before (date_to n c) line (at + width c) (seen ++ r.numbers)
unfolding read_cell
date_next (numeric (N.Integer k) q g) n line at seen r e b =
    let s : r.numbers ≡ slot_in (int_field (slice at (at + k) line)) ∷ [] =
    field_slot q (allowed g seen) at (field_of (N.Integer k) (slice at (at + k) line)) r e
    ∙ rw (form_integer k (slice at (at + k) line)) in
    record {
      year = λ y. let f = date_year k n _ _ refl refl y in rw f (to_year line at seen r.numbers (rw f at s));
      month = λ y. let f = date_month k n _ _ refl refl y in rw f.0 (to_month line at seen r.numbers (b.year f.1) (rw f.0 at s));
    }
date_next (numeric (N.Decimal k d) q g) n line at seen r e b = none line _ _
date_next (text k u) n line at seen r e b = none line _ _
date_next (letter s) n line at seen r e b = none line _ _
date_next (group g) n line at seen r e b = none line _ _
date_next (printed x k) n line at seen r e b = none line _ _

-- ---- the turns of the loop

-- the columns `rest` are left after the first `at` bytes: whether they are accepted is whether the line is
pub record Left (cs : List Col) (start : ℕ) (line : List ℕ) (rest : List Col) (at : ℕ) : Type 0 where
  pub date : ℕ
  pub ready : Judgeable rest date at (length line)
  pub seen : List Slot
  pub before : Before date line at seen
  pub same : is_ok (read_columns cs [] start (drop start line)) ≡ is_ok (read_columns rest seen at (drop at line))

pub left_start : (cs : List Col) (start : ℕ) (line : List ℕ) → Judgeable cs 0 start (length line) → Left cs start line cs start
left_start cs start line p = record { date = 0; ready = p; seen = []; before = none line start []; same = refl }

pub left_end : {cs : List Col} {start : ℕ} {line : List ℕ} {at : ℕ} → Left cs start line [] at → true ≡ is_ok (read_columns cs [] start (drop start line))
unfolding read_columns
left_end l = sym l.same

both_ok : (r : Rec) (o : Answer Rec) → is_ok (both joined (ok r) o) ≡ is_ok o
both_ok r (ok b) = refl
both_ok r (refusal n k) = refl

chain_not : (x : Answer Rec) (o : Rec → Answer Rec) → is_ok x ≡ false → is_ok (chain joined x o) ≡ false
chain_not (ok r) o e = absurd (false≢true (sym e))
chain_not (refusal n k) o e = refl

module _ {cs : List Col} {start : ℕ} {line : List ℕ} {c : Col} {rest : List Col} {at : ℕ} (l : Left cs start line (c ∷ rest) at) where
  pub left_good : T (good_col c) × T (good rest)
  unfolding good
  left_good = T_and (good_col c) (good rest) l.ready.fine

  parts : T (simple_col c && pick (is_day c) (eqb l.date 2) true) × T (simple (date_to l.date c) rest)
  parts = T_and (simple_col c && pick (is_day c) (eqb l.date 2) true) (simple (date_to l.date c) rest) l.ready.plain

  test : T (simple_col c) × T (pick (is_day c) (eqb l.date 2) true)
  test = T_and (simple_col c) (pick (is_day c) (eqb l.date 2) true) parts.0

  pub left_simple : T (simple_col c)
  left_simple = test.0

  dated : (s t : Bool) → T (pick s t true) → T s → T t
  dated true t p q = p
  dated false t p q = absurd q

  month : T (is_day c) → Month line at l.seen
  month t =
      l.before.month (eqb-true l.date 2 (T_true _ (dated (is_day c) (eqb l.date 2) test.1 t)))

  -- a day has its year and its month before it
  pub left_room : T (is_day c) → 6 ≤ at
  left_room t = (month t).room

  left_day : T (is_day c) → last_day_after l.seen ≡ last_day_before line at
  left_day t = let m = month t in ap last_day_after m.is ∙ after_two m.earlier _ _

  pub left_fits : at + (width c + widths rest) ≤ length line
  unfolding widths
  left_fits = l.ready.inside

  module _ (w : ℕ) (q : w ≡ width c) where
    pub left_refused : Judged c (slice at (at + w) line) (last_day_before line at) false → false ≡ is_ok (read_columns cs [] start (drop start line))
    unfolding read_columns
    left_refused j =
        sym
        (l.same
        ∙ chain_not (read_cell c l.seen at (take (width c) (drop at line))) (λ r. read_columns rest (l.seen ++ r.numbers) (at + width c) (drop (width c) (drop at line))) (rw (← q, ← slice_is line at w) (sym (j.accepted l.seen at left_day))))

    pub left_next : Judged c (slice at (at + w) line) (last_day_before line at) true → Left cs start line rest (at + w)
    unfolding read_columns
    left_next j = next (read_cell c l.seen at (slice at (at + w) line)) refl (j.accepted l.seen at left_day)
      where
        next : (x : Answer Rec) → read_cell c l.seen at (slice at (at + w) line) ≡ x → true ≡ is_ok x → Left cs start line rest (at + w)
        next (refusal n k) e t = absurd (false≢true (sym t))
        next (ok r) e t =
            record {
              date = date_to l.date c;
              ready = record { fine = left_good.1; plain = parts.1; inside = omega (arith, left_fits) };
              seen = l.seen ++ r.numbers;
              before = rw q (date_next c l.date line at l.seen r (rw q at e) l.before);
              same =
                  l.same
                  ∙ rw (← q, ← slice_is line at w, e)
                  (both_ok r (read_columns rest (l.seen ++ r.numbers) (at + w) (drop w (drop at line))) ∙ rw (drop-drop w at line));
            }

-- the next row of the table
pub left_row : (s : List ℕ) (r : List ℤ) (ls : List ℕ) (i : ℕ) (row : Column) {cs : List Col} {start : ℕ} {line : List ℕ} {at : ℕ} → i < length s → row ≡ column_in (get_or s i 0) → Left cs start line (columns_of (drop i s) r ls) at → Left cs start line (col_of row r ls ∷ columns_of (drop (i + 1) s) r ls) at
left_row s r ls i row h e g = rw (e, ← columns_more s r ls i h) g

pub left_last : (s : List ℕ) (r : List ℤ) (ls : List ℕ) (i : ℕ) {cs : List Col} {start : ℕ} {line : List ℕ} {at : ℕ} → length s ≤ i → Left cs start line (columns_of (drop i s) r ls) at → Left cs start line [] at
left_last s r ls i h g = rw (← columns_none s r ls i h) g
