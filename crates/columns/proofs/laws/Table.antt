-- Laws of tables: the column of a row by its kind, its sizes, and the numbers of a record.
use mathlib.Core.Path.{◌≡◌, refl, sym, ap, ◌∙◌}
use mathlib.Core.Bool.{Bool, true, false, ◌&&◌}
use mathlib.Core.List.{List, [], ◌∷◌, ◌++◌}
use Prim.Native.Nat.{ℕ, zero, suc, ◌+◌, ◌/◌, ◌%◌, ◌≤◌, ◌<◌}
use native.Mathlib.Omega.{arith}
use lib.ListN.{length, take, drop, get_or, length-append, drop_of_length-le}
use lib.Dec.{leb, eqb, T, leb→le}
use lib.IntN.{ℤ, pos}
use borrow.Author.Tests.{ne_eqb}
use lib.Seq.{take_at, drop_at, drop-cons}
use native.Mathlib.Numerals.{add-one}
use Rattle.columns.specs.declared.column.Column.{Column}
use Rattle.columns.specs.declared.number.Form.{Form}
use Rattle.columns.specs.declared.group.Group.{Group}
use Rattle.columns.specs.Answer.{pick}
use Rattle.columns.specs.Number.{good_form}
use Rattle.columns.specs.Column.{Slot, missing, given, Range, Rule, clock_time, calendar_date, Col, numeric, text, group, width, slots, texts, good_group, good_col, good, widths, all_slots, all_texts, in_stretch, brackets_in}
use Rattle.columns.specs.Table.{Within, column_in, rule_at, group_at, col_of, columns_of, sizes_of, sound, Sound, width_by, slots_by, texts_by, slot_of, slots_of, flag_of, value_of, flags_of, values_of, over, Table}
use Rattle.columns.proofs.laws.Tests.{T_and, and_T}
use Rattle.columns.specs.declared.column.Column.TheVariants as K

-- ---- what a column of a kind asks for

pub good_number : (c : Col) (m : Form) (q : Bool) (g : Range) → c ≡ numeric m q g → T (good_col c) → T (good_form m)
good_number c m q g e o = rw e at o

pub good_text : (w : ℕ) (x : Rule) (c : Col) → c ≡ text w x → T (good_col c) → 1 ≤ w
good_text w x c e g = let h : T (leb 1 w) = rw e at g in leb→le 1 w h

pub good_of_group : (g : Group) (c : Col) → c ≡ group g → T (good_col c) → T (good_group g)
good_of_group g c e o = rw e at o

-- every group of the table is well-formed
pub group_good : (k : ℕ) → T (good_group (group_at k))
group_good k = by_number (eqb k 0)
  where
    by_number : (t : Bool) → T (good_group (pick t clock_time calendar_date))
    by_number true = tt
    by_number false = tt

-- ---- what a column takes, as the code counts it

pub record Sizes (c : Column) (rs : List ℤ) (ls : List ℕ) : Type 0 where
  pub wide : width (col_of c rs ls) ≡ width_by c
  pub numbers : slots (col_of c rs ls) ≡ slots_by c
  pub chars : texts (col_of c rs ls) ≡ texts_by c

pub sizes : (c : Column) (rs : List ℤ) (ls : List ℕ) → Sizes c rs ls
sizes (K.Number m q k) rs ls = record { wide = refl; numbers = refl; chars = refl }
sizes (K.Text w x) rs ls = record { wide = refl; numbers = refl; chars = refl }
sizes (K.Letter i n) rs ls = record { wide = refl; numbers = refl; chars = refl }
sizes (K.Group k) rs ls = record { wide = refl; numbers = refl; chars = refl }
sizes (K.Printed w b) rs ls = record { wide = refl; numbers = refl; chars = refl }

-- ---- the columns from a place on

pub columns_more : (s : List ℕ) (r : List ℤ) (ls : List ℕ) (i : ℕ) → i < length s → columns_of (drop i s) r ls ≡ col_of (column_in (get_or s i 0)) r ls ∷ columns_of (drop (i + 1) s) r ls
columns_more s r ls i h = rw (add-one, drop-cons s i 0)

pub columns_none : (s : List ℕ) (r : List ℤ) (ls : List ℕ) (i : ℕ) → length s ≤ i → columns_of (drop i s) r ls ≡ []
columns_none s r ls i h = rw (drop_of_length-le s {i = i} h)

pub columns_length : (s : List ℕ) (r : List ℤ) (ls : List ℕ) → length (columns_of s r ls) ≡ length s
columns_length [] r ls = refl
columns_length (x ∷ s) r ls = ap suc (columns_length s r ls)

pub columns_append : (a b : List ℕ) (r : List ℤ) (ls : List ℕ) → columns_of (a ++ b) r ls ≡ columns_of a r ls ++ columns_of b r ls
columns_append [] b r ls = refl
columns_append (x ∷ a) b r ls = ap (λ (cs : List Col). col_of (column_in x) r ls ∷ cs) (columns_append a b r ls)

-- a stretch of a table
pub columns_take : (s : List ℕ) (r : List ℤ) (ls : List ℕ) (n : ℕ) → columns_of (take n s) r ls ≡ take n (columns_of s r ls)
columns_take [] r ls zero = refl
columns_take [] r ls (suc n) = refl
columns_take (x ∷ s) r ls zero = refl
columns_take (x ∷ s) r ls (suc n) = ap (λ (cs : List Col). col_of (column_in x) r ls ∷ cs) (columns_take s r ls n)

pub columns_drop : (s : List ℕ) (r : List ℤ) (ls : List ℕ) (n : ℕ) → columns_of (drop n s) r ls ≡ drop n (columns_of s r ls)
columns_drop [] r ls zero = refl
columns_drop [] r ls (suc n) = refl
columns_drop (x ∷ s) r ls zero = refl
columns_drop (x ∷ s) r ls (suc n) = columns_drop s r ls n

-- one whose columns are known as a whole
pub columns_among : (s : List ℕ) (r : List ℤ) (ls : List ℕ) (a b c : List Col) → columns_of s r ls ≡ a ++ (b ++ c) → (length a + length b ≤ length s) × (columns_of (take (length b) (drop (length a) s)) r ls ≡ b)
columns_among s r ls a b c e =
    let n : length s ≡ length a + (length b + length c) = sym (columns_length s r ls) ∙ ap length e ∙ length-append a (b ++ c) ∙ omega (arith, length-append b c) in
    (omega arith, columns_take (drop (length a) s) r ls (length b) ∙ ap (take (length b)) (columns_drop s r ls (length a) ∙ ap (drop (length a)) e ∙ drop_at a (b ++ c) (length a) refl) ∙ take_at b c (length b) refl)

-- what is below the bounds of a row is below those of the cursor
pub wider : (c : Column) → Within 512 128 c → Within 65536 256 c
wider (K.Number m q k) h = omega arith
wider (K.Text w x) h = tt
wider (K.Letter i n) h = (omega (arith, h.0), omega (arith, h.1))
wider (K.Group k) h = omega arith
wider (K.Printed w b) h = omega arith

-- a column that is no number has no range
abbrev pub IsNumber : Column → Type 0
IsNumber (K.Number m q k) = Unit {0}
IsNumber (K.Text w x) = ⊥
IsNumber (K.Letter i n) = ⊥
IsNumber (K.Group k) = ⊥
IsNumber (K.Printed w b) = ⊥

pub col_other : (c : Column) (rs : List ℤ) (ls : List ℕ) → (IsNumber c → ⊥) → col_of c rs ls ≡ col_of c [] ls
col_other (K.Number m q k) rs ls h = absurd (h tt)
col_other (K.Text w x) rs ls h = refl
col_other (K.Letter i n) rs ls h = refl
col_other (K.Group k) rs ls h = refl
col_other (K.Printed w b) rs ls h = refl

-- nor has that of a row whose kind is no number's
pub row_other : (row : ℕ) (rs : List ℤ) (ls : List ℕ) → 2 ≤ row / 16777216 → col_of (column_in row) rs ls ≡ col_of (column_in row) [] ls
row_other row rs ls h =
    col_other (column_in row) rs ls (rw (ne_eqb (row / 16777216) 0 (λ e. omega arith), ne_eqb (row / 16777216) 1 (λ e. omega arith)) (by_kind (eqb (row / 16777216) 2) (eqb (row / 16777216) 3) (eqb (row / 16777216) 4)))
  where
    by_kind : (t u v : Bool)
        → IsNumber (pick t (K.Text (row / 256 % 128) (rule_at (row % 128))) (pick u (K.Letter (row / 32768 % 512) (row % 128)) (pick v (K.Group (row % 128)) (K.Printed (row / 256 % 128) (row % 128))))) → ⊥
    by_kind true u v n = n
    by_kind false true v n = n
    by_kind false false true n = n
    by_kind false false false n = n

-- ---- the numbers of a record

pub slots_length : (fs : List ℕ) (vs : List ℤ) → length fs ≡ length vs → length (slots_of fs vs) ≡ length fs
unfolding slots_of
slots_length [] vs e = refl
slots_length (f ∷ fs) [] e = let y : ⊥ = omega arith in absurd y
slots_length (f ∷ fs) (v ∷ vs) e = ap suc (slots_length fs vs (omega arith))

pub slot_at : (fs : List ℕ) (vs : List ℤ) (k : ℕ) → length fs ≡ length vs → k < length fs → get_or (slots_of fs vs) k missing ≡ slot_of (get_or fs k 0) (get_or vs k (pos 0))
unfolding slots_of
slot_at [] vs k e h = let y : ⊥ = omega arith in absurd y
slot_at (f ∷ fs) [] k e h = let y : ⊥ = omega arith in absurd y
slot_at (f ∷ fs) (v ∷ vs) zero e h = refl
slot_at (f ∷ fs) (v ∷ vs) (suc k) e h = slot_at fs vs k (omega arith) (omega arith)

pub flag_slot : (x : Slot) → slot_of (flag_of x) (value_of x) ≡ x
flag_slot missing = refl
flag_slot (given v) = refl

pub flags_length : (ns : List Slot) → length (flags_of ns) ≡ length ns
unfolding flags_of
flags_length [] = refl
flags_length (x ∷ ns) = ap suc (flags_length ns)

pub values_length : (ns : List Slot) → length (values_of ns) ≡ length ns
unfolding values_of
values_length [] = refl
values_length (x ∷ ns) = ap suc (values_length ns)

-- one number at a time
pub flags_cons : (x : Slot) (ns : List Slot) → flags_of (x ∷ ns) ≡ flag_of x ∷ flags_of ns
unfolding flags_of
flags_cons x ns = refl

pub values_cons : (x : Slot) (ns : List Slot) → values_of (x ∷ ns) ≡ value_of x ∷ values_of ns
unfolding values_of
values_cons x ns = refl

-- of no numbers nothing is laid down
pub flags_none : (l : List ℕ) → l ≡ over (flags_of []) l
unfolding flags_of
flags_none l = refl

pub values_none : (l : List ℤ) → l ≡ over (values_of []) l
unfolding values_of
values_none l = refl

-- flags and values are the record again
pub slots_back : (ns : List Slot) → slots_of (flags_of ns) (values_of ns) ≡ ns
unfolding slots_of flags_of values_of
slots_back [] = refl
slots_back (x ∷ ns) = rw (flag_slot x, slots_back ns)

-- what the reader lays down is the record again
pub slots_laid : (ns : List Slot) (fs : List ℕ) (vs : List ℤ) → take (length ns) (slots_of (flags_of ns ++ fs) (values_of ns ++ vs)) ≡ ns
unfolding slots_of flags_of values_of
slots_laid [] fs vs = refl
slots_laid (x ∷ ns) fs vs = rw (flag_slot x, slots_laid ns fs vs)

pub flags_append : (a b : List Slot) → flags_of (a ++ b) ≡ flags_of a ++ flags_of b
unfolding flags_of
flags_append [] b = refl
flags_append (x ∷ a) b = rw (flags_append a b)

pub values_append : (a b : List Slot) → values_of (a ++ b) ≡ values_of a ++ values_of b
unfolding values_of
values_append [] b = refl
values_append (x ∷ a) b = rw (values_append a b)

pub flags_last : (a : List Slot) (x : Slot) → flags_of (a ++ x ∷ []) ≡ flags_of a ++ flag_of x ∷ []
unfolding flags_of
flags_last a x = flags_append a (x ∷ [])

pub values_last : (a : List Slot) (x : Slot) → values_of (a ++ x ∷ []) ≡ values_of a ++ value_of x ∷ []
unfolding values_of
values_last a x = values_append a (x ∷ [])

-- ---- the computed test, as its parts

pub sound_of : (cs : List Col) (at from to : ℕ) → T (sound cs at from to) → Sound cs at from to
unfolding good brackets_in widths all_slots all_texts
sound_of [] at from to t = record { fine = tt; brackets = tt; wide = refl; numbers = refl; chars = refl }
sound_of (c ∷ cs) at from to t =
    let p = T_and (good_col c && in_stretch c at from to) _ t in
    let q = T_and (good_col c) (in_stretch c at from to) p.0 in
    let s = sound_of cs (at + width c) from to p.1 in
    record {
      fine = and_T (good_col c) (good cs) q.0 s.fine;
      brackets = and_T (in_stretch c at from to) _ q.1 s.brackets;
      wide = rw s.wide;
      numbers = rw s.numbers;
      chars = rw s.chars;
    }

-- its places in a line and a record
pub table_of : {cs : List Col} {at from to : ℕ} → Sound cs at from to → (room nf nv nt : ℕ) → at + (sizes_of cs).width ≤ room → room ≤ 4096 → nf ≡ nv → (sizes_of cs).numbers ≤ nf → (sizes_of cs).chars ≤ nt → Table cs at room 0 nf nv 0 nt
table_of s room nf nv nt w l e n t =
    record { fine = s.fine; line = omega (arith, s.wide); low = l; same = e; numbers = omega (arith, s.numbers); chars = omega (arith, s.chars) }

-- ---- the places of the first column, and of those after it

module _ {c : Col} {rest : List Col} {at room k nf nv t nt : ℕ} (p : Table (c ∷ rest) at room k nf nv t nt) where
  pub table_good : T (good_col c) × T (good rest)
  unfolding good
  table_good = T_and (good_col c) (good rest) p.fine

  pub table_line : at + (width c + widths rest) ≤ room
  unfolding widths
  table_line = p.line

  pub table_numbers : k + (slots c + all_slots rest) ≤ nf
  unfolding all_slots
  table_numbers = p.numbers

  pub table_chars : t + (texts c + all_texts rest) ≤ nt
  unfolding all_texts
  table_chars = p.chars

  pub table_fits : (w : ℕ) → w ≡ width c → at + w ≤ room
  table_fits w e = omega (arith, table_line)

  pub table_low : (w : ℕ) → w ≡ width c → at + w ≤ 4096
  table_low w e = omega (arith, table_line, p.low)

  pub table_k : (y : ℕ) → y ≡ slots c → k + y ≤ nf
  table_k y e = omega (arith, table_numbers)

  pub table_t : (y : ℕ) → y ≡ texts c → t + y ≤ nt
  table_t y e = omega (arith, table_chars)

  pub table_next : (at₁ k₁ t₁ : ℕ) → at₁ ≡ at + width c → k₁ ≡ k + slots c → t₁ ≡ t + texts c → Table rest at₁ room k₁ nf nv t₁ nt
  table_next at₁ k₁ t₁ ea ek et =
      record {
        fine = table_good.1;
        line = omega (arith, table_line);
        low = p.low;
        same = p.same;
        numbers = omega (arith, table_numbers);
        chars = omega (arith, table_chars);
      }
