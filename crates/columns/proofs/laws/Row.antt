-- Laws of a row's list of columns: what is read or written is whole and small, no comment and not blank.
use mathlib.Core.Path.{◌≡◌, refl, sym, ap, ◌∙◌}
use mathlib.Core.Bool.{false≢true, Bool, true, false, not, ◌&&◌}
use mathlib.Core.List.{List, [], ◌∷◌, ◌++◌}
use Prim.Native.Nat.{ℕ, zero, suc, ◌+◌, ◌-◌, ◌*◌, ◌^◌, ◌≤◌, ◌<◌}
use native.Mathlib.Omega.{arith}
use lib.IntN.{ℤ, pos, negsuc, nat_abs}
use lib.ListN.{length, take, drop, get_or, replicate, length-drop, length-replicate, get_or-replicate, replicate-append-replicate, take-append-drop}
use lib.Seq.{length-take-le, drop-drop, get_or-take, take_at, drop_at}
use lib.Dec.{T, leb, ltb, eqb, leb→le}
use borrow.Author.Tests.{ltb-true, ltb-false, le-ltb, eq-eqb, ne_eqb, eqb-true}
use Rattle.std.specs.Prelude.{IsTrue, ◌↔◌, EachIndex, slice_index}
use Rattle.columns.specs.declared.Reason.{Reason}
use Rattle.columns.specs.Answer.{pick, ok, refusal, not_blank, required_blank, bad_form, out_of_range, too_wide, too_short}
use Rattle.columns.specs.declared.number.Form.{Form}
use Rattle.columns.specs.declared.group.Group.{Group}
use Rattle.columns.specs.Bytes.{is_none, skip, all_blank}
use Rattle.columns.specs.Number.{form_width, good_form, field_of, holds, holds_int, holds_dec, field_bytes}
use Rattle.columns.specs.declared.column.Rule.TheVariants as U
use Rattle.columns.specs.Column.{mark, Slot, missing, given, Rec, joined, allowed, Rule, Col, numeric, text, letter, group, printed, width, slots, texts, good_group, good_col, good, widths, all_slots}
use Rattle.columns.specs.Group.{group_holds, group_range, group_bytes, put_group}
use Rattle.columns.specs.Reading.{nothing, judge, judge_printed, rule_refuses, rule_number, judge_text, as_text, read_cell, read_columns}
use Rattle.columns.specs.Writing.{put_number, write_cell, write_columns, write_line}
use Rattle.columns.specs.Table.{flags_of, column_in, col_of, columns_of, sizes_of, sound, slots_by}
use Rattle.columns.specs.declared.column.Column.{Column}
use Rattle.columns.specs.Row.{all_same, alike, whole, write_whole, SmallSlot, SmallSlots, opens_text, opens, opens_row, fills_text, fills, some_filled, fits, Fits}
use Rattle.columns.proofs.laws.Tests.{T_and, T_true, both_true, not_not}
use Rattle.columns.proofs.laws.Answers.{split, chained, passed, held}
use Rattle.columns.proofs.laws.GroupBack.{three_of_lem, fine, part_form}
use Rattle.columns.proofs.laws.Form.{form_blank, good_int, good_dec}
use Rattle.columns.proofs.laws.Bytes.{blanks_only}
use Rattle.columns.proofs.laws.NumberBack.{trim_blanks}
use Rattle.columns.proofs.laws.Columns.{text_read}
use Rattle.columns.proofs.laws.Written.{power_le}
use Rattle.columns.proofs.laws.Bounds.{column_of, pick_bound, write_bound}
use Rattle.columns.proofs.laws.Table.{sizes, sound_of, columns_more, columns_none}
use Rattle.columns.specs.declared.number.Form.TheVariants as N

-- ---- the computed test, as its parts

pub fits_of : (cs : List Col) → T (fits cs) → Fits cs
fits_of cs t =
    let a = T_and (sound cs 0 0 0) _ t in
    let b = T_and (opens_row cs) _ a.1 in
    let g = T_and (some_filled cs) _ b.1 in
    let c = T_and (leb (sizes_of cs).width 256) _ g.1 in
    let d = T_and (leb (sizes_of cs).numbers 40) _ c.1 in
    let e = T_and (leb (sizes_of cs).chars 160) _ d.1 in
    let s = sound_of cs 0 0 0 a.0 in
    record {
      sound = s;
      opened = b.0;
      filled = g.0;
      wide = omega (arith, leb→le (sizes_of cs).width 256 c.0);
      numbers = omega (arith, leb→le (sizes_of cs).numbers 40 d.0);
      chars = omega (arith, leb→le (sizes_of cs).chars 160 e.0);
      bytes = omega (arith, leb→le (1 + (sizes_of cs).numbers + 8 * (sizes_of cs).numbers + (sizes_of cs).chars) 512 e.1);
    }

-- ---- what is written is whole, and its numbers fit 64 bits

record Kept (ns : List Slot) : Type 0 where
  alike_flags : alike (flags_of ns) ≡ true
  small : SmallSlots ns

form_small : (m : Form) (v : ℤ) → T (good_form m) → holds m v ≡ true → SmallSlot (given v)
unfolding holds holds_int holds_dec
form_small (N.Integer w) (pos n) g e = omega (arith, ltb-true n (10 ^ w) e, power_le w (good_int w g).1)
form_small (N.Integer w) (negsuc n) g e = omega (arith, ltb-true (n + 1) (10 ^ (w - 1)) e, power_le (w - 1) (omega (arith, (good_int w g).1)))
form_small (N.Decimal w d) (pos n) g e = omega (arith, ltb-true n (10 ^ (w - 1)) e, power_le (w - 1) (omega (arith, (good_dec w d g).1)))
form_small (N.Decimal w d) (negsuc n) g e = omega (arith, ltb-true (n + 1) (10 ^ (w - 2)) e, power_le (w - 2) (omega (arith, (good_dec w d g).1)))

none_kept : (ns : List Slot) → length ns ≡ 0 → Kept ns
unfolding flags_of alike
none_kept [] n = record { alike_flags = refl; small = tt }
none_kept (x ∷ ns) n = absurd (omega arith)

one_kept : (ns : List Slot) → length ns ≡ 1 → SmallSlot (get_or ns 0 missing) → Kept ns
unfolding flags_of alike all_same
one_kept [] n s = absurd (omega arith)
one_kept (x ∷ []) n s = record { alike_flags = refl; small = (s, tt) }
one_kept (x ∷ y ∷ ns) n s = absurd (omega arith)

number_small : (m : Form) (q : Bool) (can : ℤ → Bool) (at : ℕ) (ys : List ℕ) (x : Slot) → T (good_form m) → put_number m q can at x ≡ ok ys → SmallSlot x
number_small m q can at ys missing o e = tt
number_small m q can at ys (given v) o e = form_small m v o (held (holds m v) too_wide (at + 1) (pick (can v) (ok (field_bytes m v)) (refusal out_of_range (at + 1))) ys e).0

group_kept : (g : Group) (seen : List Slot) (at : ℕ) (x y z : Slot) (ys : List ℕ) → T (good_group g) → put_group g seen at x y z ≡ ok ys → Kept (x ∷ y ∷ z ∷ [])
unfolding flags_of alike all_same
group_kept g seen at missing missing missing ys o e = record { alike_flags = refl; small = (tt, (tt, (tt, tt))) }
group_kept g seen at (given h) (given m) (given s) ys o e =
    let f = fine g o in
    let p = held (group_holds g h m s) too_wide (at + 1) (pick (group_range g seen h m s) (ok (group_bytes g (nat_abs h) (nat_abs m) (nat_abs s))) (refusal out_of_range (at + 1))) ys e in
    let q = both_true (holds g.first.form h) _ p.0 in
    let r = both_true (holds g.second.form m) (holds g.third.form s) q.1 in
    record { alike_flags = refl; small = (form_small g.first.form h (part_form g.first f.first) q.0, (form_small g.second.form m (part_form g.second f.second) r.0, (form_small g.third.form s (part_form g.third f.third) r.1, tt))) }
group_kept g seen at missing missing (given s) ys o e = let z : ◌≡◌ {A = ℕ} 0 1 = cc in let y : ⊥ = omega arith in absurd y
group_kept g seen at missing (given m) z ys o e = let k : ◌≡◌ {A = ℕ} 0 1 = cc in let y : ⊥ = omega arith in absurd y
group_kept g seen at (given h) missing z ys o e = let k : ◌≡◌ {A = ℕ} 0 1 = cc in let y : ⊥ = omega arith in absurd y
group_kept g seen at (given h) (given m) missing ys o e = let k : ◌≡◌ {A = ℕ} 0 1 = cc in let y : ⊥ = omega arith in absurd y

cell_kept : (c : Col) (seen : List Slot) (at : ℕ) (ns : List Slot) (t ys : List ℕ) → T (good_col c) → length ns ≡ slots c → write_cell c seen at ns t ≡ ok ys → Kept ns
unfolding write_cell
cell_kept (numeric m q g) seen at ns t ys o n e = one_kept ns n (number_small m q (allowed g seen) at ys (get_or ns 0 missing) o e)
cell_kept (text w x) seen at ns t ys o n e = none_kept ns n
cell_kept (letter s) seen at ns t ys o n e = none_kept ns n
cell_kept (group g) seen at ns t ys o n e = rw (three_of_lem ns missing n) (group_kept g seen at (get_or ns 0 missing) (get_or ns 1 missing) (get_or ns 2 missing) ys o e)
cell_kept (printed b w) seen at ns t ys o n e = none_kept ns n

small_append : (a b : List Slot) → SmallSlots a → SmallSlots b → SmallSlots (a ++ b)
small_append [] b p q = q
small_append (x ∷ a) b p q = (p.0, small_append a b p.1 q)

pub flags_take : (k : ℕ) (ns : List Slot) → take k (flags_of ns) ≡ flags_of (take k ns)
unfolding flags_of
flags_take zero ns = refl
flags_take (suc k) [] = refl
flags_take (suc k) (x ∷ ns) = rw (flags_take k ns)

pub flags_drop : (k : ℕ) (ns : List Slot) → drop k (flags_of ns) ≡ flags_of (drop k ns)
unfolding flags_of
flags_drop zero ns = refl
flags_drop (suc k) [] = refl
flags_drop (suc k) (x ∷ ns) = flags_drop k ns

length_rest : (k r : ℕ) (ns : List Slot) → length ns ≡ k + r → length (drop k ns) ≡ r
length_rest k r ns n = length-drop k ns ∙ omega arith

pub record WholeRecord (cs : List Col) (ns : List Slot) : Type 0 where
  pub whole_flags : whole cs (flags_of ns) ≡ true
  pub small : SmallSlots ns

pub written_whole : (cs : List Col) (seen : List Slot) (at : ℕ) (ns : List Slot) (t ys : List ℕ) → T (good cs) → length ns ≡ all_slots cs → write_columns cs seen at ns t ≡ ok ys → WholeRecord cs ns
unfolding good all_slots write_columns whole
written_whole [] seen at [] t ys g n e = record { whole_flags = refl; small = tt }
written_whole [] seen at (x ∷ ns) t ys g n e = absurd (omega arith)
written_whole (c ∷ cs) seen at ns t ys g n e =
    let gs = T_and (good_col c) (good cs) g in
    let s = split ◌++◌ (write_cell c seen at (take (slots c) ns) (take (texts c) t)) (write_columns cs (seen ++ take (slots c) ns) (at + width c) (drop (slots c) ns) (drop (texts c) t)) ys e in
    let x = cell_kept c seen at (take (slots c) ns) (take (texts c) t) s.a gs.0 (length-take-le (slots c) ns (omega arith)) s.first in
    let y = written_whole cs (seen ++ take (slots c) ns) (at + width c) (drop (slots c) ns) (drop (texts c) t) s.b gs.1 (length_rest (slots c) (all_slots cs) ns n) s.second in
    record {
      whole_flags = rw (flags_take (slots c) ns, x.alike_flags, flags_drop (slots c) ns) y.whole_flags;
      small = rw take-append-drop at (small_append (take (slots c) ns) (drop (slots c) ns) x.small y.small);
    }

-- ---- a line that is read is no comment: it does not begin with a blank and `(`

no_answer : {A : Type 0} (n : Reason) (k : ℕ) (x : A) → refusal n k ≡ ok x → ⊥
no_answer n k x e = let z : ◌≡◌ {A = ℕ} 0 1 = cc in omega arith

module _ (x : Rule) (at w : ℕ) (line : List ℕ) (r : Rec) (h : 1 ≤ w) (e : as_text (judge_text x at (take w line) (ok (take w line))) ≡ ok r) where
  -- what its rule says of a text that was read
  ruled : rule_refuses x (take w line) ≡ false
  ruled = (passed (rule_refuses x (take w line)) (rule_number x) (at + 1) (ok (take w line)) (take w line) (text_read x at (take w line) r e).1).0

  first_byte : get_or line 0 0 ≡ 32 → get_or (take w line) 0 0 ≡ 32
  first_byte p = get_or-take w line 0 0 h ∙ p

text_opened : (x : Rule) (at w : ℕ) (line : List ℕ) (r : Rec) → 1 ≤ w → T (opens_text w x) → as_text (judge_text x at (take w line) (ok (take w line))) ≡ ok r → get_or line 0 0 ≡ 32 → get_or line 1 0 ≡ 40 → ⊥
text_opened U.AnyText at w line r h o e p q = absurd o
text_opened U.NoBrackets at w line r h o e p q = absurd o
text_opened U.NotAllBlank at w line r h o e p q = absurd o
text_opened U.NotBlankFirst at w line r h o e p q =
    let z : eqb 32 32 ≡ false = rw (first_byte U.NotBlankFirst at w line r h e p) at (ruled U.NotBlankFirst at w line r h e) in
    let y : ◌≡◌ {A = ℕ} 0 1 = cc in omega arith
text_opened U.BlankOrFilled at w line r h o e p q =
    let z : not (all_blank (take w line)) ≡ false = rw (first_byte U.BlankOrFilled at w line r h e p) at (ruled U.BlankOrFilled at w line r h e) in
    blanks_only (take w line) 1 40 (omega arith) (not_not (all_blank (take w line)) z) (get_or-take w line 1 0 (leb→le 2 w o) ∙ q)

-- a printed byte above the blank is none, so nothing that begins with a blank is as printed
not_blank_printed : (b at : ℕ) (f : List ℕ) (r : Rec) → 32 < b → judge_printed b at f ≡ ok r → get_or f 0 0 ≡ 32 → ⊥
unfolding skip
not_blank_printed b at [] r h e p = omega arith
not_blank_printed b at (x ∷ s) r h e p =
    let n : eqb x b ≡ false = ne_eqb x b (λ z. omega arith) in
    no_answer not_blank _ r (rw n at e)

printed_opens : (b w : ℕ) (line : List ℕ) (r : Rec) (at : ℕ) → T (leb 1 w && ltb 32 b) → judge_printed b at (take w line) ≡ ok r → get_or line 0 0 ≡ 32 → ⊥
printed_opens b w line r at o e p =
    let t = T_and (leb 1 w) (ltb 32 b) o in
    not_blank_printed b at (take w line) r (ltb-true 32 b (T_true _ t.1)) e (get_or-take w line 0 0 (leb→le 1 w t.0) ∙ p)

cell_opened : (c : Col) (seen : List Slot) (at : ℕ) (line : List ℕ) (r : Rec) → T (good_col c) → T (opens c) → read_cell c seen at (take (width c) line) ≡ ok r → get_or line 0 0 ≡ 32 → get_or line 1 0 ≡ 40 → ⊥
unfolding read_cell
cell_opened (text w x) seen at line r g o e = text_opened x at w line r (leb→le 1 w g) o e
cell_opened (numeric m q g) seen at line r f o e = absurd o
cell_opened (letter s) seen at line r g o e = absurd o
cell_opened (group g) seen at line r f o e = absurd o
cell_opened (printed b w) seen at line r g o e = λ p q. printed_opens b w line r at o e p

pub read_opened : (cs : List Col) (seen : List Slot) (at : ℕ) (line : List ℕ) (r : Rec) → T (good cs) → T (opens_row cs) → read_columns cs seen at line ≡ ok r → get_or line 0 0 ≡ 32 → get_or line 1 0 ≡ 40 → ⊥
unfolding good read_columns
read_opened [] seen at line r g o e = absurd o
read_opened (c ∷ cs) seen at line r g o e =
    let s = chained joined (read_cell c seen at (take (width c) line)) (λ z. read_columns cs (seen ++ z.numbers) (at + width c) (drop (width c) line)) r e in
    cell_opened c seen at line s.a (T_and (good_col c) (good cs) g).0 o s.first

-- ---- a line that is read begins with the mark that its first column is

marked_by : (t : Bool) (x b : ℕ) (n : Reason) (k : ℕ) (r : Rec) → eqb x b ≡ t → pick (is_none (pick t [] (x ∷ []))) (ok nothing) (refusal n k) ≡ ok r → x ≡ b
marked_by true x b n k r p e = eqb-true x b p
marked_by false x b n k r p e = absurd (no_answer n k r e)

marked_first : (b at : ℕ) (line : List ℕ) (r : Rec) → 1 ≤ length line → judge_printed b at (take 1 line) ≡ ok r → get_or line 0 0 ≡ b
unfolding skip
marked_first b at [] r h e = absurd (omega arith)
marked_first b at (x ∷ s) r h e = marked_by (eqb x b) x b not_blank _ r refl e

pub read_marked : (b : ℕ) (cs : List Col) (seen : List Slot) (at : ℕ) (line : List ℕ) (r : Rec) → 1 ≤ length line → read_columns (mark b ∷ cs) seen at line ≡ ok r → get_or line 0 0 ≡ b
unfolding read_columns read_cell
read_marked b cs seen at line r h e =
    let s = chained joined (read_cell (mark b) seen at (take 1 line)) (λ z. read_columns cs (seen ++ z.numbers) (at + 1) (drop 1 line)) r e in
    marked_first b at line s.a h s.first

-- ---- a line that is read is not blank

blank_required : (m : Form) (fit : ℤ → Bool) (at : ℕ) (q : Bool) (r : Rec) → T q → judge q fit at (field_of m (replicate (form_width m) 32)) ≡ ok r → ⊥
blank_required m fit at true r t e = no_answer required_blank (at + 1) r (rw (form_blank m) at e)
blank_required m fit at false r t e = absurd t

blank_refused : (x : Rule) (w : ℕ) → 1 ≤ w → T (fills_text x) → rule_refuses x (replicate w 32) ≡ true
blank_refused U.AnyText w h f = absurd f
blank_refused U.NoBrackets w h f = absurd f
blank_refused U.NotBlankFirst w h f = rw (get_or-replicate {A = ℕ} w 0 32 0 h)
blank_refused U.NotAllBlank w h f = rw (trim_blanks w)
blank_refused U.BlankOrFilled w h f = absurd f

cell_fills : (c : Col) (seen : List Slot) (at : ℕ) (r : Rec) → T (good_col c) → T (fills c) → read_cell c seen at (replicate (width c) 32) ≡ ok r → ⊥
unfolding read_cell
cell_fills (numeric m q g) seen at r o f e = blank_required m (allowed g seen) at q r f e
cell_fills (text w x) seen at r o f e = no_answer (rule_number x) (at + 1) r (rw (blank_refused x w (leb→le 1 w o) f) at e)
cell_fills (letter s) seen at r o f e = absurd f
cell_fills (group g) seen at r o f e = absurd f
cell_fills (printed b w) seen at r o f e =
    let t = T_and (leb 1 w) (ltb 32 b) f in
    not_blank_printed b at (replicate w 32) r (ltb-true 32 b (T_true _ t.1)) e (get_or-replicate {A = ℕ} w 0 32 0 (leb→le 1 w t.0))

-- a column that is read blank is not the one
rest_filled : (c : Col) (cs : List Col) (seen : List Slot) (at : ℕ) (f : List ℕ) (r : Rec) → T (good_col c) → T (pick (fills c) true (some_filled cs)) → f ≡ replicate (width c) 32 → read_cell c seen at f ≡ ok r → T (some_filled cs)
rest_filled c cs seen at f r o t b e = by_column (fills c) refl t
  where
    by_column : (q : Bool) → fills c ≡ q → T (pick q true (some_filled cs)) → T (some_filled cs)
    by_column true p h = absurd (cell_fills c seen at r o (rw p tt) (rw b at e))
    by_column false p h = h

pub read_fills : (cs : List Col) (seen : List Slot) (at : ℕ) (line : List ℕ) (r : Rec) → T (good cs) → T (some_filled cs) → line ≡ replicate (widths cs) 32 → read_columns cs seen at line ≡ ok r → ⊥
unfolding good widths read_columns
read_fills [] seen at line r g f b e = absurd f
read_fills (c ∷ cs) seen at line r g f b e =
    let w = width c in
    let x : List ℕ = replicate w 32 in
    let y : List ℕ = replicate (widths cs) 32 in
    let d : line ≡ x ++ y = b ∙ sym (replicate-append-replicate w (widths cs) 32) in
    let o = T_and (good_col c) (good cs) g in
    let s = chained joined (read_cell c seen at (take w line)) (λ z. read_columns cs (seen ++ z.numbers) (at + w) (drop w line)) r e in
    read_fills cs (seen ++ s.a.numbers) (at + w) (drop w line) s.b o.1
    (rest_filled c cs seen at (take w line) s.a o.0 f (ap (take w) d ∙ take_at x y w (length-replicate w 32)) s.first)
    (ap (drop w) d ∙ drop_at x y w (length-replicate w 32)) s.second

-- ---- the loops that test it

pub alike_none : (fs : List ℕ) → length fs ≡ 0 → true ≡ alike fs
unfolding alike
alike_none [] n = refl
alike_none (x ∷ fs) n = absurd (omega arith)

-- the test of all flags, as the code makes it
each_same : (f : ℕ) (xs : List ℕ) → ((k : ℕ) → k < length xs → get_or xs k 0 ≡ f) → all_same f xs ≡ true
unfolding all_same
each_same f [] p = refl
each_same f (x ∷ xs) p = rw (eq-eqb x f (p 0 (omega arith))) (each_same f xs (λ k h. p (suc k) (omega arith)))

first_same : (f x : ℕ) (xs : List ℕ) (t : Bool) → eqb x f ≡ t → pick t (all_same f xs) false ≡ true → (x ≡ f) × (all_same f xs ≡ true)
first_same f x xs true p q = (eqb-true x f p, q)
first_same f x xs false p q = absurd (false≢true q)

same_at : (f : ℕ) (xs : List ℕ) → all_same f xs ≡ true → (k : ℕ) → k < length xs → get_or xs k 0 ≡ f
unfolding all_same
same_at f [] e k h = absurd (omega arith)
same_at f (x ∷ xs) e zero h = (first_same f x xs (eqb x f) refl e).0
same_at f (x ∷ xs) e (suc k) h = same_at f xs (first_same f x xs (eqb x f) refl e).1 k (omega arith)

not_same : (f : ℕ) (xs : List ℕ) (u : Bool) → all_same f xs ≡ u → (((k : ℕ) → k < length xs → get_or xs k 0 ≡ f) → false ≡ true) → false ≡ u
not_same f xs true e p = p (same_at f xs e)
not_same f xs false e p = refl

pub same_each : (f : ℕ) (xs : List ℕ) (b : Bool) → (IsTrue b ↔ EachIndex xs (λ k. slice_index xs k ≡ f)) → b ≡ all_same f xs
same_each f xs true p = sym (each_same f xs (p.0 refl))
same_each f xs false p = not_same f xs (all_same f xs) refl p.1

-- the columns that are left, and the numbers before them
pub record Testing (cs : List Col) (fs : List ℕ) (rest : List Col) (k : ℕ) : Type 0 where
  pub inside : k + all_slots rest ≤ length fs
  pub same : whole cs fs ≡ whole rest (drop k fs)

pub testing_start : (fs : List ℕ) (cs : List Col) → all_slots cs ≤ length fs → Testing cs fs cs 0
testing_start fs cs h = record { inside = omega arith; same = refl }

module _ (cs : List Col) (fs : List ℕ) (s : List ℕ) (r : List ℤ) (ls : List ℕ) (i k : ℕ) (t : Testing cs fs (columns_of (drop i s) r ls) k) where
  pub testing_end : length s ≤ i → true ≡ whole cs fs
  unfolding whole
  testing_end h = sym (t.same ∙ rw (columns_none s r ls i h))

  module _ (h : i < length s) (row : Column) (e : row ≡ column_in (get_or s i 0)) (y : ℕ) (b : y ≡ slots_by row) where
    abbrev rest : List Col
    rest = columns_of (drop (i + 1) s) r ls

    slots_here : y ≡ slots (col_of (column_in (get_or s i 0)) r ls)
    slots_here = b ∙ ap slots_by e ∙ sym (sizes (column_in (get_or s i 0)) r ls).numbers

    inside_here : k + (y + all_slots rest) ≤ length fs
    unfolding all_slots
    inside_here = rw slots_here (rw (columns_more s r ls i h) at t.inside)

    pub testing_fits : k + y ≤ length fs
    testing_fits = omega (arith, inside_here)

    same_here : whole cs fs ≡ alike (take y (drop k fs)) && whole rest (drop (k + y) fs)
    unfolding whole
    same_here = t.same ∙ rw (columns_more s r ls i h, ← slots_here, drop-drop y k fs)

    module _ (told : Bool) (g : told ≡ alike (take (k + y - k) (drop k fs))) where
      told_here : told ≡ alike (take y (drop k fs))
      told_here = let z : k + y - k ≡ y = omega arith in rw z at g

      pub testing_other : told ≡ false → false ≡ whole cs fs
      testing_other q = let z : alike (take y (drop k fs)) ≡ false = sym told_here ∙ q in sym (same_here ∙ rw z)

      pub testing_more : told ≡ true → Testing cs fs rest (k + y)
      testing_more q =
          let z : alike (take y (drop k fs)) ≡ true = sym told_here ∙ q in
          record { inside = omega (arith, inside_here); same = same_here ∙ rw z }

-- ---- a whole record's line, as the code comes to it

module _ (cs : List Col) (fs : List ℕ) (ns : List Slot) (t : List ℕ) (told : Bool) (g : told ≡ whole cs fs) where
  pub whole_line : (room : ℕ) → told ≡ true → write_line cs ns t room ≡ write_whole cs fs ns t room
  whole_line room q = let z : whole cs fs ≡ true = sym g ∙ q in sym (rw z)

  pub part_line : (room : ℕ) → told ≡ false → write_whole cs fs ns t room ≡ refusal bad_form 0
  part_line room q = let z : whole cs fs ≡ false = sym g ∙ q in rw z

-- ---- a line of its own

module _ (cs : List Col) (ns : List Slot) (t : List ℕ) (room : ℕ) where
  pub line_there : widths cs ≤ room → write_line cs ns t room ≡ write_columns cs [] 0 ns t
  unfolding write_line
  line_there h = rw (le-ltb room (widths cs) h)

  pub line_passed : (ys : List ℕ) → write_line cs ns t room ≡ ok ys → (widths cs ≤ room) × (write_columns cs [] 0 ns t ≡ ok ys)
  unfolding write_line
  line_passed ys e =
      let p = passed (ltb room (widths cs)) too_short 0 (write_columns cs [] 0 ns t) ys e in
      (ltb-false room (widths cs) p.0, p.1)

  pub line_bound : T (good cs) → column_of (write_line cs ns t room) ≤ widths cs
  unfolding write_line
  line_bound g = pick_bound (widths cs) (ltb room (widths cs)) _ _ (omega arith) (omega (arith, write_bound cs [] 0 ns t g))

column_wide : (c : Col) → T (good_col c) → T (opens c) → 1 ≤ width c
column_wide (text w x) g f = leb→le 1 w g
column_wide (numeric m q r) g f = absurd f
column_wide (letter s) g f = absurd f
column_wide (group g) o f = absurd f
column_wide (printed b w) g f = leb→le 1 w (T_and (leb 1 w) (ltb 32 b) f).0

pub row_wide : (cs : List Col) → T (good cs) → T (opens_row cs) → 1 ≤ widths cs
unfolding good widths
row_wide [] g f = absurd f
row_wide (c ∷ cs) g f = omega (arith, column_wide c (T_and (good_col c) (good cs) g).0 f)
