-- The column of a refusal lies in the columns that were read or written.
use mathlib.Core.Path.{◌≡◌, refl}
use mathlib.Core.Bool.{Bool, true, false}
use mathlib.Core.List.{List, [], ◌∷◌, ◌++◌}
use Prim.Native.Nat.{ℕ, suc, ◌+◌, ◌-◌, ◌≤◌}
use native.Mathlib.Omega.{arith}
use lib.IntN.{ℤ}
use lib.ListN.{length, take, drop, get_or, length-take}
use lib.Dec.{eqb, T, leb→le}
use Rattle.columns.specs.declared.number.Field.{Field}
use Rattle.columns.specs.declared.number.Form.{Form}
use Rattle.columns.specs.declared.group.Three.{Three}
use Rattle.columns.specs.declared.group.Group.{Group}
use Rattle.columns.specs.Answer.{pick, Answer, ok, refusal, both, chain, not_blank}
use Rattle.columns.specs.Bytes.{is_none, skip, barred, is_allowed, inside, member}
use Rattle.columns.specs.Number.{form_width, field_of, holds}
use Rattle.columns.specs.Column.{Slot, missing, given, Rec, joined, allowed, Rule, rule_bars, Col, numeric, text, letter, group, printed, group_width, width, slots, texts, good_col, good, widths}
use Rattle.columns.specs.Group.{group_field, judge_group, group_range, group_holds, put_group}
use Rattle.columns.specs.Reading.{nothing, judge, rule_refuses, judge_text, as_text, read_cell, read_columns}
use Rattle.columns.specs.Writing.{put_number, put_text, barred_in, write_cell, write_columns}
use Rattle.columns.proofs.laws.Bytes.{skip_short}
use Rattle.columns.proofs.laws.Form.{form_wide}
use Rattle.columns.proofs.laws.Tests.{T_and}
use Rattle.columns.specs.declared.number.Field.TheVariants as F
use Rattle.columns.specs.declared.group.Three.TheVariants as T

-- ---- an answer whose refusal is at most at column m

module _ {A : Type 0} where
  abbrev pub column_of : Answer A → ℕ
  column_of (ok x) = 0
  column_of (refusal n k) = k

  module _ (m : ℕ) where
    pub pick_bound : (b : Bool) (x y : Answer A) → column_of x ≤ m → column_of y ≤ m → column_of (pick b x y) ≤ m
    pick_bound true x y h k = h
    pick_bound false x y h k = k

    both_bound : (f : A → A → A) (x y : Answer A) → column_of x ≤ m → column_of y ≤ m → column_of (both f x y) ≤ m
    both_bound f (refusal n j) y h k = h
    both_bound f (ok a) (refusal n j) h k = k
    both_bound f (ok a) (ok b) h k = omega arith

    chain_bound : (f : A → A → A) (x : Answer A) (o : A → Answer A) → column_of x ≤ m → ((r : A) → column_of (o r) ≤ m) → column_of (chain f x o) ≤ m
    chain_bound f (refusal n j) o h k = h
    chain_bound f (ok a) o h k = both_bound f (ok a) (o a) h (k a)

-- ---- reading

judge_bound : (q : Bool) (fits : ℤ → Bool) (at m : ℕ) (x : Field) → 1 ≤ m → column_of (judge q fits at x) ≤ at + m
judge_bound q fits at m F.Missing h = pick_bound (at + m) q _ _ (omega arith) (omega arith)
judge_bound q fits at m F.Bad h = omega arith
judge_bound q fits at m (F.Value v) h = pick_bound (at + m) (fits v) _ _ (omega arith) (omega arith)

group_bound : (g : Group) (seen : List Slot) (at m : ℕ) (x : Three) → 1 ≤ m → column_of (judge_group g seen at x) ≤ at + m
group_bound g seen at m T.Missing h = omega arith
group_bound g seen at m T.Bad h = omega arith
group_bound g seen at m (T.Given a b c) h = pick_bound (at + m) (group_range g seen a b c) _ _ (omega arith) (omega arith)

rule_bound : (x : Rule) (at w : ℕ) (f : List ℕ) (o : Answer (List ℕ)) → 1 ≤ w → column_of o ≤ at + w → column_of (judge_text x at f o) ≤ at + w
rule_bound x at w f o h k = pick_bound (at + w) (rule_refuses x f) _ _ (omega arith) k

text_column : (x : Answer (List ℕ)) → column_of (as_text x) ≡ column_of x
text_column (ok f) = refl
text_column (refusal n k) = refl

-- a byte that is not as printed stands in the stretch
stretch_case : (at w : ℕ) (f s : List ℕ) → length f ≤ w → length s ≤ length f → column_of (pick (is_none s) (ok nothing) (refusal not_blank (at + 1 + (length f - length s)))) ≤ at + w
stretch_case at w f [] h l = omega arith
stretch_case at w f (b ∷ s) h l = omega arith

cell_bound : (c : Col) (seen : List Slot) (at : ℕ) (f : List ℕ) → T (good_col c) → length f ≤ width c → column_of (read_cell c seen at f) ≤ at + width c
unfolding read_cell
cell_bound (numeric m q g) seen at f h l = judge_bound q (allowed g seen) at (form_width m) (field_of m f) (form_wide m h).0
cell_bound (text w x) seen at f h l = rw (text_column (judge_text x at f (ok f))) (rule_bound x at w f (ok f) (leb→le 1 w h) (omega arith))
cell_bound (letter s) seen at f h l = pick_bound (at + 1) (member (get_or f 0 0) s) _ _ (omega arith) (omega arith)
cell_bound (group g) seen at f h l = group_bound g seen at (group_width g) (group_field g f) (omega arith)
cell_bound (printed b w) seen at f h l = stretch_case at w f (skip b f) l (skip_short b f)

pub read_bound : (cs : List Col) (seen : List Slot) (at : ℕ) (line : List ℕ) → T (good cs) → column_of (read_columns cs seen at line) ≤ at + widths cs
unfolding read_columns widths good
read_bound [] seen at line h = omega arith
read_bound (c ∷ cs) seen at line h =
    let a : column_of (read_cell c seen at (take (width c) line)) ≤ at + (width c + widths cs) = omega (arith, cell_bound c seen at (take (width c) line) (T_and (good_col c) (good cs) h).0 (omega (arith, length-take (width c) line))) in
    chain_bound (at + (width c + widths cs)) joined (read_cell c seen at (take (width c) line)) (λ (r : Rec). read_columns cs (seen ++ r.numbers) (at + width c) (drop (width c) line)) a
    (λ r. omega (arith, read_bound cs (seen ++ r.numbers) (at + width c) (drop (width c) line) (T_and (good_col c) (good cs) h).1))

-- ---- writing

barred_case : (t : Bool) (x k m : ℕ) → x ≤ m → k ≤ m → pick t x k ≤ m
barred_case true x k m h j = h
barred_case false x k m h j = j

-- a barred byte stands in one of the columns, which come after column `at`
pub barred_bound : (from to at : ℕ) (s : List ℕ) → barred from to (at + 1) s ≤ at + length s
unfolding barred
barred_bound from to at [] = omega arith
barred_bound from to at (b ∷ s) =
    barred_case (is_allowed (inside from to (at + 1)) b) (barred from to (at + 1 + 1) s) (at + 1) (at + suc (length s)) (omega (arith, barred_bound from to (at + 1) s)) (omega arith)

number_bound : (m : Form) (q : Bool) (fits : ℤ → Bool) (at w : ℕ) (x : Slot) → 1 ≤ w → column_of (put_number m q fits at x) ≤ at + w
number_bound m q fits at w missing h = pick_bound (at + w) q _ _ (omega arith) (omega arith)
number_bound m q fits at w (given v) h = pick_bound (at + w) (holds m v) _ _ (pick_bound (at + w) (fits v) _ _ (omega arith) (omega arith)) (omega arith)

text_bound : (bars : Bool) (at m : ℕ) (t : List ℕ) (o : Answer (List ℕ)) → length t ≤ m → column_of o ≤ at + m → column_of (put_text bars at t o) ≤ at + m
text_bound bars at m t o h k =
    pick_bound (at + m) (eqb (barred_in bars at t) 0) _ _ k (omega (arith, barred_bound (pick bars (at + 1) 0) (pick bars (at + length t) 0) at t))

three_bound : (g : Group) (seen : List Slot) (at w : ℕ) (x y z : Slot) → 1 ≤ w → column_of (put_group g seen at x y z) ≤ at + w
three_bound g seen at w missing missing missing h = omega arith
three_bound g seen at w missing missing (given c) h = omega arith
three_bound g seen at w missing (given b) z h = omega arith
three_bound g seen at w (given a) missing z h = omega arith
three_bound g seen at w (given a) (given b) missing h = omega arith
three_bound g seen at w (given a) (given b) (given c) h =
    pick_bound (at + w) (group_holds g a b c) _ _ (pick_bound (at + w) (group_range g seen a b c) _ _ (omega arith) (omega arith)) (omega arith)

put_bound : (c : Col) (seen : List Slot) (at : ℕ) (ns : List Slot) (t : List ℕ) → T (good_col c) → length t ≤ texts c → column_of (write_cell c seen at ns t) ≤ at + width c
unfolding write_cell
put_bound (numeric m q g) seen at ns t h k = number_bound m q (allowed g seen) at (form_width m) (get_or ns 0 missing) (form_wide m h).0
put_bound (text w x) seen at ns t h k = rule_bound x at w t _ (leb→le 1 w h) (text_bound (rule_bars x) at w t (ok t) k (omega arith))
put_bound (letter s) seen at ns t h k =
    text_bound false at 1 t _ k (pick_bound (at + 1) (member (get_or t 0 0) s) _ _ (omega arith) (omega arith))
put_bound (group g) seen at ns t h k = three_bound g seen at (group_width g) (get_or ns 0 missing) (get_or ns 1 missing) (get_or ns 2 missing) (omega arith)
put_bound (printed b w) seen at ns t h k = omega arith

pub write_bound : (cs : List Col) (seen : List Slot) (at : ℕ) (ns : List Slot) (t : List ℕ) → T (good cs) → column_of (write_columns cs seen at ns t) ≤ at + widths cs
unfolding write_columns widths good
write_bound [] seen at ns t h = omega arith
write_bound (c ∷ cs) seen at ns t h =
    let k : length (take (texts c) t) ≤ texts c = omega (arith, length-take (texts c) t) in
    let a : column_of (write_cell c seen at (take (slots c) ns) (take (texts c) t)) ≤ at + (width c + widths cs) = omega (arith, put_bound c seen at (take (slots c) ns) (take (texts c) t) (T_and (good_col c) (good cs) h).0 k) in
    both_bound (at + (width c + widths cs)) ◌++◌ (write_cell c seen at (take (slots c) ns) (take (texts c) t)) (write_columns cs (seen ++ take (slots c) ns) (at + width c) (drop (slots c) ns) (drop (texts c) t)) a
    (omega (arith, write_bound cs (seen ++ take (slots c) ns) (at + width c) (drop (slots c) ns) (drop (texts c) t) (T_and (good_col c) (good cs) h).1))
