-- Laws of the table's reader: what one column gives, and the turns of its loop.
use mathlib.Core.Path.{◌≡◌, refl, sym, ap, ◌∙◌}
use mathlib.Core.Bool.{Bool}
use mathlib.Core.List.{List, [], ◌∷◌, ◌++◌, append_assoc, append-nil}
use Prim.Native.Nat.{ℕ, ◌+◌, ◌-◌, ◌≤◌, ◌<◌}
use native.Mathlib.Omega.{arith}
use lib.ListN.{length, take, drop, get_or, length-append, length-drop}
use lib.IntN.{ℤ, pos}
use lib.Seq.{length-take-le, drop-drop, slice}
use Rattle.columns.specs.declared.number.Field.{Field}
use Rattle.columns.specs.declared.group.Three.{Three}
use Rattle.columns.specs.declared.group.Group.{Group}
use Rattle.columns.specs.declared.cursor.Cell.{Cell}
use Rattle.columns.specs.declared.column.Column.{Column}
use Rattle.std.specs.Prelude.{Ok, Err, Option, Some, None, is_some}
use Rattle.std.specs.Option.{unwrap_or}
use mir.Val.{bool_byte}
use Rattle.columns.specs.declared.Reason.{Reason}
use Rattle.columns.specs.declared.Refusal.{Refusal}
use Rattle.columns.specs.Answer.{refusal_at, Answer, ok, refusal, both, not_blank, required_blank, out_of_range, wrong_letter}
use Rattle.columns.specs.Bytes.{is_none, skip, member}
use Rattle.columns.specs.Number.{field_of}
use Rattle.columns.specs.Column.{Slot, missing, given, Rec, joined, allowed, Col, numeric, text, letter, group, printed, width, slots, texts}
use Rattle.columns.specs.Group.{group_range, group_rec, group_field, judge_group}
use Rattle.columns.specs.Reading.{nothing, one_number, some_text, judge, read_cell, read_columns, read_part}
use Rattle.columns.specs.Table.{Outcome, column_in, col_of, columns_of, slots_of, flag_of, value_of, flags_of, values_of, over, outcome_of, ReadPart, Table, placed}
use Rattle.columns.specs.Cell.{slot, cell_rec, cell_answer, Readable, Storable, Stored}
use Rattle.columns.proofs.laws.Answers.{passed, held, chained, done_of, refused_of}
use Rattle.columns.proofs.laws.Places.{placed_length, placed_placed}
use Rattle.columns.proofs.laws.Table.{flags_length, values_length, flags_append, values_append, slots_laid, columns_more, columns_none, table_good, table_fits, table_numbers, table_chars, table_line, table_next}
use Rattle.columns.proofs.laws.Bytes.{slice_is}
use Rattle.columns.proofs.laws.Columns.{text_read}
use Rattle.columns.specs.declared.number.Field.TheVariants as F
use Rattle.columns.specs.declared.group.Three.TheVariants as K

-- ---- what was read has the column's sizes

judge_sizes : (q : Bool) (fits : ℤ → Bool) (at : ℕ) (x : Field) (r : Rec) → judge q fits at x ≡ ok r → (length r.numbers ≡ 1) × (length r.chars ≡ 0)
judge_sizes q fits at F.Missing r e =
    let d : one_number missing ≡ r = cc (passed q required_blank (at + 1) (ok (one_number missing)) r e).1 in
    rw (← d) (refl, refl)
judge_sizes q fits at F.Bad r e = let z : ◌≡◌ {A = ℕ} 0 1 = cc in let y : ⊥ = omega arith in absurd y
judge_sizes q fits at (F.Value v) r e =
    let d : one_number (given v) ≡ r = cc (held (fits v) out_of_range (at + 1) (ok (one_number (given v))) r e).1 in
    rw (← d) (refl, refl)

group_sizes : (g : Group) (seen : List Slot) (at : ℕ) (x : Three) (r : Rec) → judge_group g seen at x ≡ ok r → (length r.numbers ≡ 3) × (length r.chars ≡ 0)
group_sizes g seen at K.Missing r e = let d : group_rec missing missing missing ≡ r = cc in rw (← d) (refl, refl)
group_sizes g seen at K.Bad r e = let z : ◌≡◌ {A = ℕ} 0 1 = cc in let y : ⊥ = omega arith in absurd y
group_sizes g seen at (K.Given h m s) r e =
    let d : group_rec (given h) (given m) (given s) ≡ r = cc (held (group_range g seen h m s) out_of_range (at + 1) (ok (group_rec (given h) (given m) (given s))) r e).1 in
    rw (← d) (refl, refl)

text_sizes : (f : List ℕ) (w : ℕ) (r : Rec) → length f ≡ w → some_text f ≡ r → (length r.numbers ≡ 0) × (length r.chars ≡ w)
text_sizes f w r l d = rw (← d) (refl, l)

pub cell_sizes : (c : Col) (seen : List Slot) (at : ℕ) (f : List ℕ) (r : Rec) → length f ≡ width c → read_cell c seen at f ≡ ok r → (length r.numbers ≡ slots c) × (length r.chars ≡ texts c)
unfolding read_cell
cell_sizes (numeric m q g) seen at f r l e = judge_sizes q (allowed g seen) at (field_of m f) r e
cell_sizes (text w x) seen at f r l e = text_sizes f w r l (text_read x at f r e).0
cell_sizes (letter s) seen at f r l e =
    text_sizes f 1 r l (cc (held (member (get_or f 0 0) s) wrong_letter (at + 1) (ok (some_text f)) r e).1)
cell_sizes (group g) seen at f r l e = group_sizes g seen at (group_field g f) r e
cell_sizes (printed b w) seen at f r l e =
    let d : nothing ≡ r = cc (held (is_none (skip b f)) not_blank (at + 1 + (length f - length (skip b f))) (ok nothing) r e).1 in
    rw (← d) (refl, refl)

-- ---- a number as the code has it

pub flag_is : (n : Option ℤ) → bool_byte (is_some n) ≡ flag_of (slot n)
flag_is None = refl
flag_is (Some v) = refl

pub value_is : (n : Option ℤ) → unwrap_or n (pos 0) ≡ value_of (slot n)
value_is None = refl
value_is (Some v) = refl

-- ---- what the cursor found, as an answer

module _ (f : List ℕ) where
  -- it fits where its column does
  pub cell_fits : (x : Cell) (c : Col) (seen : List Slot) (at : ℕ) → length f ≡ width c → cell_answer (Ok x) f ≡ read_cell c seen at f → (length (cell_rec x f).numbers ≤ slots c) × (length (cell_rec x f).chars ≤ texts c)
  cell_fits x c seen at l e =
      let z = cell_sizes c seen at f (cell_rec x f) l (sym e) in
      (omega (arith, z.0), omega (arith, z.1))

-- ---- records in two parts

joined_none : (r : Rec) → joined r nothing ≡ r
joined_none r = rw (append-nil r.numbers, append-nil r.chars)

joined_joined : (a b c : Rec) → joined a (joined b c) ≡ joined (joined a b) c
joined_joined a b c = rw (append_assoc a.numbers b.numbers c.numbers, append_assoc a.chars b.chars c.chars)

both_nothing : (o : Answer Rec) → o ≡ both joined (ok nothing) o
both_nothing (ok r) = refl
both_nothing (refusal n k) = refl

both_joined : (a b : Rec) (o : Answer Rec) → both joined (ok a) (both joined (ok b) o) ≡ both joined (ok (joined a b)) o
both_joined a b (ok r) = ap ok (joined_joined a b r)
both_joined a b (refusal n k) = refl

-- where nothing is refused, what was read is the record
pub part_read : (cs : List Col) (seen : List Slot) (at : ℕ) (line : List ℕ) (r : Rec) → read_columns cs seen at line ≡ ok r → read_part cs seen at line ≡ r
unfolding read_columns read_part
part_read [] seen at line r e = cc
part_read (c ∷ cs) seen at line r e =
    let s = chained joined (read_cell c seen at (take (width c) line)) (λ z. read_columns cs (seen ++ z.numbers) (at + width c) (drop (width c) line)) r e in
    rw (s.first, part_read cs (seen ++ s.a.numbers) (at + width c) (drop (width c) line) s.b s.second) s.is

-- what a caller of the reader learns: the whole record and where it stands, or the refusal
pub record Whole (a : Answer Rec) (f f₁ : List ℕ) (v v₁ : List ℤ) (t t₁ : List ℕ) : Type 0 where
  pub value : Rec
  pub is : a ≡ ok value
  pub flags : f₁ ≡ over (flags_of value.numbers) f
  pub values : v₁ ≡ over (values_of value.numbers) v
  pub chars : t₁ ≡ over value.chars t

module _ {a : Answer Rec} {part : Rec} {f f₁ : List ℕ} {v v₁ : List ℤ} {t t₁ : List ℕ} where
  pub read_whole : ((r : Rec) → a ≡ ok r → part ≡ r) → ReadPart a part (Ok tt) f f₁ v v₁ t t₁ → Whole a f f₁ v v₁ t t₁
  read_whole g p =
      let d = done_of a p.answer in
      let e = g d.value d.is in
      record {
        value = d.value;
        is = d.is;
        flags = p.flags ∙ ap (λ (r : Rec). over (flags_of r.numbers) f) e;
        values = p.values ∙ ap (λ (r : Rec). over (values_of r.numbers) v) e;
        chars = p.chars ∙ ap (λ (r : Rec). over r.chars t) e;
      }

  pub read_refused : (e : Refusal) → ReadPart a part (Err e) f f₁ v v₁ t t₁ → a ≡ refusal e.reason e.column
  read_refused e p = refused_of a e p.answer

-- where nothing was read, nothing is stored
pub none_read : (n : Reason) (k : ℕ) (f : List ℕ) (v : List ℤ) (t : List ℕ) → ReadPart (refusal n k) nothing (Err (refusal_at n k)) f f v v t t
unfolding flags_of values_of
none_read n k f v t = record { answer = refl; flags = refl; values = refl; chars = refl }

-- ---- the turns of the loop

-- `done` was read in the first `at` bytes, and stands in the record; the columns `rest` are left
pub record Going (cs : List Col) (start : ℕ) (line f₀ : List ℕ) (v₀ : List ℤ) (t₀ : List ℕ) (rest : List Col) (at k t : ℕ) (f : List ℕ) (v : List ℤ) (x : List ℕ) : Type 0 where
  pub done : Rec
  pub numbers : length done.numbers ≡ k
  pub chars : length done.chars ≡ t
  pub flags : f ≡ over (flags_of done.numbers) f₀
  pub values : v ≡ over (values_of done.numbers) v₀
  pub text : x ≡ over done.chars t₀
  pub ready : Table rest at (length line) k (length f₀) (length v₀) t (length t₀)
  pub read : read_columns cs [] start (drop start line) ≡ both joined (ok done) (read_columns rest done.numbers at (drop at line))
  pub part : read_part cs [] start (drop start line) ≡ joined done (read_part rest done.numbers at (drop at line))

pub going_start : (cs : List Col) (start : ℕ) (line f₀ : List ℕ) (v₀ : List ℤ) (t₀ : List ℕ) → Table cs start (length line) 0 (length f₀) (length v₀) 0 (length t₀) → Going cs start line f₀ v₀ t₀ cs start 0 0 f₀ v₀ t₀
unfolding flags_of values_of
going_start cs start line f₀ v₀ t₀ p =
    record {
      done = nothing;
      numbers = refl;
      chars = refl;
      flags = refl;
      values = refl;
      text = refl;
      ready = p;
      read = both_nothing (read_columns cs [] start (drop start line));
      part = refl;
    }

module _ {cs : List Col} {start : ℕ} {line f₀ : List ℕ} {v₀ : List ℤ} {t₀ : List ℕ} {rest : List Col} {at k t : ℕ} {f : List ℕ} {v : List ℤ} {x : List ℕ} (g : Going cs start line f₀ v₀ t₀ rest at k t f v x) where
  pub flags_size : length f ≡ length f₀
  flags_size = ap length g.flags ∙ placed_length 0 (flags_of g.done.numbers) f₀ (omega (arith, flags_length g.done.numbers, g.numbers, g.ready.numbers))

  pub values_size : length v ≡ length v₀
  values_size = ap length g.values ∙ placed_length 0 (values_of g.done.numbers) v₀ (omega (arith, values_length g.done.numbers, g.numbers, g.ready.numbers, g.ready.same))

  pub text_size : length x ≡ length t₀
  text_size = ap length g.text ∙ placed_length 0 g.done.chars t₀ (omega (arith, g.chars, g.ready.chars))

  -- what the next column has seen
  pub going_seen : take k (slots_of f v) ≡ g.done.numbers
  going_seen =
      ap (λ (n : ℕ). take n (slots_of f v)) (sym g.numbers)
      ∙ rw (g.flags, g.values) (slots_laid g.done.numbers (drop (length (flags_of g.done.numbers)) f₀) (drop (length (values_of g.done.numbers)) v₀))

  pub going_part : (r : Outcome) (a : Answer Rec) → read_columns cs [] start (drop start line) ≡ a → read_part cs [] start (drop start line) ≡ g.done → r ≡ outcome_of a → ReadPart (read_columns cs [] start (drop start line)) (read_part cs [] start (drop start line)) r f₀ f v₀ v t₀ x
  going_part r a e p q =
      record {
        answer = rw e q;
        flags = rw p g.flags;
        values = rw p g.values;
        chars = rw p g.text;
      }

pub going_end : {cs : List Col} {start : ℕ} {line f₀ : List ℕ} {v₀ : List ℤ} {t₀ : List ℕ} {at k t : ℕ} {f : List ℕ} {v : List ℤ} {x : List ℕ} → Going cs start line f₀ v₀ t₀ [] at k t f v x → ReadPart (read_columns cs [] start (drop start line)) (read_part cs [] start (drop start line)) (Ok tt) f₀ f v₀ v t₀ x
unfolding read_columns read_part
going_end g = going_part g (Ok tt) (ok g.done) (g.read ∙ ap ok (joined_none g.done)) (g.part ∙ joined_none g.done) refl

module _ {cs : List Col} {start : ℕ} {line f₀ : List ℕ} {v₀ : List ℤ} {t₀ : List ℕ} {c : Col} {rest : List Col} {at k t : ℕ} {f : List ℕ} {v : List ℤ} {x : List ℕ} (g : Going cs start line f₀ v₀ t₀ (c ∷ rest) at k t f v x) where
  pub turn_readable : Readable c at (length line) k (length f) (length v)
  turn_readable =
      record {
        fine = (table_good g.ready).0;
        fits = table_fits g.ready (width c) refl;
        low = g.ready.low;
        same = flags_size g ∙ g.ready.same ∙ sym (values_size g);
        seen = omega (arith, flags_size g, table_numbers g.ready);
      }

  pub bytes_size : length (take (width c) (drop at line)) ≡ width c
  bytes_size = length-take-le (width c) (drop at line) (omega (arith, length-drop at line, table_line g.ready))

  module _ (b : List ℕ) (eb : b ≡ take (width c) (drop at line)) where
    b_size : length b ≡ width c
    b_size = ap length eb ∙ bytes_size

    -- the column, as the list of columns has it
    turn_cell : (o : Answer Rec) → o ≡ read_cell c (take k (slots_of f v)) at b → read_cell c g.done.numbers at (take (width c) (drop at line)) ≡ o
    turn_cell o p = rw (← going_seen g, ← eb) (sym p)

    pub turn_refused : (e : Refusal) → cell_answer (Err e) b ≡ read_cell c (take k (slots_of f v)) at b → ReadPart (read_columns cs [] start (drop start line)) (read_part cs [] start (drop start line)) (Err e) f₀ f v₀ v t₀ x
    unfolding read_columns read_part
    turn_refused e p =
        let q = turn_cell (refusal e.reason e.column) p in
        going_part g (Err e) (refusal e.reason e.column) (g.read ∙ rw q) (g.part ∙ rw q (joined_none g.done)) refl

    module _ (y : Cell) (e : cell_answer (Ok y) b ≡ read_cell c (take k (slots_of f v)) at b) where
      pub turn_storable : Storable (cell_rec y b) k (length f) (length v) t (length x)
      turn_storable =
          let z = cell_fits b y c (take k (slots_of f v)) at b_size e in
          record {
            same = flags_size g ∙ g.ready.same ∙ sym (values_size g);
            numbers = omega (arith, z.0, table_numbers g.ready, flags_size g);
            chars = omega (arith, z.1, table_chars g.ready, text_size g);
          }

      pub turn_done : (at₁ k₁ t₁ : ℕ) → at₁ ≡ at + width c → k₁ ≡ k + slots c → t₁ ≡ t + texts c → {f₁ : List ℕ} {v₁ : List ℤ} {x₁ : List ℕ} → Stored (cell_rec y b) k f f₁ v v₁ t x x₁ → Going cs start line f₀ v₀ t₀ rest at₁ k₁ t₁ f₁ v₁ x₁
      unfolding read_columns read_part
      turn_done at₁ k₁ t₁ ea ek et s =
          let q = turn_cell (ok (cell_rec y b)) e in
          let z = cell_sizes c g.done.numbers at (take (width c) (drop at line)) (cell_rec y b) bytes_size q in
          record {
            done = joined g.done (cell_rec y b);
            numbers = length-append g.done.numbers (cell_rec y b).numbers ∙ omega (arith, z.0, g.numbers);
            chars = length-append g.done.chars (cell_rec y b).chars ∙ omega (arith, z.1, g.chars);
            flags =
                s.flags
                ∙ ap (placed k (flags_of (cell_rec y b).numbers)) g.flags
                ∙ placed_placed 0 k (flags_of g.done.numbers) (flags_of (cell_rec y b).numbers) f₀ (omega (arith, flags_length g.done.numbers, g.numbers)) (omega (arith, flags_length (cell_rec y b).numbers, z.0, table_numbers g.ready))
                ∙ rw (flags_append g.done.numbers (cell_rec y b).numbers);
            values =
                s.values
                ∙ ap (placed k (values_of (cell_rec y b).numbers)) g.values
                ∙ placed_placed 0 k (values_of g.done.numbers) (values_of (cell_rec y b).numbers) v₀ (omega (arith, values_length g.done.numbers, g.numbers)) (omega (arith, values_length (cell_rec y b).numbers, z.0, table_numbers g.ready, g.ready.same))
                ∙ rw (values_append g.done.numbers (cell_rec y b).numbers);
            text =
                s.chars
                ∙ ap (placed t (cell_rec y b).chars) g.text
                ∙ placed_placed 0 t g.done.chars (cell_rec y b).chars t₀ (omega (arith, g.chars)) (omega (arith, z.1, table_chars g.ready));
            ready = table_next g.ready at₁ k₁ t₁ ea ek et;
            read =
                rw ea
                (g.read
                ∙ rw (q, drop-drop)
                (both_joined g.done (cell_rec y b) (read_columns rest (g.done.numbers ++ (cell_rec y b).numbers) (at + width c) (drop (at + width c) line))));
            part =
                rw ea
                (g.part
                ∙ rw (q, drop-drop)
                (joined_joined g.done (cell_rec y b) (read_part rest (g.done.numbers ++ (cell_rec y b).numbers) (at + width c) (drop (at + width c) line))));
          }

-- the next row of the table
pub going_row : (s : List ℕ) (r : List ℤ) (ls : List ℕ) (i : ℕ) (row : Column) {cs : List Col} {start : ℕ} {line f₀ : List ℕ} {v₀ : List ℤ} {t₀ : List ℕ} {at k t : ℕ} {f : List ℕ} {v : List ℤ} {x : List ℕ} → i < length s → row ≡ column_in (get_or s i 0) → Going cs start line f₀ v₀ t₀ (columns_of (drop i s) r ls) at k t f v x → Going cs start line f₀ v₀ t₀ (col_of row r ls ∷ columns_of (drop (i + 1) s) r ls) at k t f v x
going_row s r ls i row h e g = rw (e, ← columns_more s r ls i h) g

pub going_last : (s : List ℕ) (r : List ℤ) (ls : List ℕ) (i : ℕ) {cs : List Col} {start : ℕ} {line f₀ : List ℕ} {v₀ : List ℤ} {t₀ : List ℕ} {at k t : ℕ} {f : List ℕ} {v : List ℤ} {x : List ℕ} → length s ≤ i → Going cs start line f₀ v₀ t₀ (columns_of (drop i s) r ls) at k t f v x → Going cs start line f₀ v₀ t₀ [] at k t f v x
going_last s r ls i h g = rw (← columns_none s r ls i h) g

-- the bytes of a column, as the code lends them and as the cursor read them
pub part_bytes : (l : List ℕ) (at w : ℕ) → (at + w - at ≡ w) × (slice at (at + w) l ≡ take (at + w - at) (drop at l))
part_bytes l at w =
    let z : at + w - at ≡ w = omega arith in
    (z, rw z (slice_is l at w))
