-- Laws of a row's line, over its list of columns: what a line that was read has passed; every record that is written reads back
use Rattle.std.specs.Prelude.{Ok, Err}
use Rattle.formats.specs.Row.{Made, too_long, has_barred, well}
use Rattle.columns.specs.declared.Refusal.{Refusal}
use Rattle.columns.specs.Answer.{refusal_at}
use Rattle.columns.specs.Table.{flags_of, values_of}
-- the same, and every record that was read is written.
use Rattle.std.specs.Prelude.{Ok}
use mathlib.Core.Path.{◌≡◌, refl, sym, ◌∙◌}
use mathlib.Core.Bool.{false}
use mathlib.Core.Logic.{inl, inr}
use mathlib.Core.List.{List, [], ◌∷◌, ◌++◌, append_assoc}
use Prim.Native.Nat.{ℕ, ◌+◌, ◌-◌, ◌≤◌, ◌<◌}
use native.Mathlib.Omega.{arith}
use lib.ListN.{length, take, drop, get_or, replicate, length-append, length-drop, length-replicate, replicate-append-replicate}
use lib.Seq.{take_at, drop_at, drop-append-le}
use lib.IntN.{ℤ}
use lib.Dec.{ltb}
use borrow.Author.Tests.{le-ltb, lt-ltb, ltb-false, le-leb, lt-leb}
use Rattle.columns.specs.Answer.{ok, refusal, barred_byte, unless, differs, wrong_length}
use Rattle.columns.specs.Column.{Slot, Rec, Col, widths, all_slots, all_texts}
use Rattle.columns.specs.Reading.{read_columns, read_part}
use Rattle.columns.specs.Writing.{write_line}
use Rattle.columns.specs.Table.{ReadPart}
use Rattle.columns.specs.Row.{Fits}
use Rattle.columns.proofs.laws.Answers.{passed, over_whole, done_of, differs_not, differs_is, differs_same}
use Rattle.columns.proofs.laws.Bounds.{column_of, pick_bound, barred_bound, read_bound}
use Rattle.columns.proofs.laws.Clear.{Clear, clear_blanks, clear_drop, clear_none, barred_clear}
use Rattle.columns.proofs.laws.Columns.{Line, columns_back}
use Rattle.columns.proofs.laws.Accepted.{columns_accepted}
use Rattle.columns.proofs.laws.Reader.{Whole, read_whole, part_read}
use Rattle.columns.proofs.laws.Row.{WholeRecord, written_whole, read_opened, read_fills, line_there, line_passed}
use Rattle.columns.proofs.laws.Stretch.{clean_line, line_clean, barred_after}
use Rattle.formats.specs.Row.{lowest_barred_byte, blank_filled, read_row, row_part, write_row}
use Rattle.formats.specs.Format.{format_of, Formed}
use Rattle.formats.specs.declared.format.Format.{Format}
use Rattle.formats.proofs.laws.Lines.{lt_or_le}
use Rattle.columns.specs.Table.{Outcome}

pub filled_size : (w : ℕ) (l : List ℕ) → length l ≤ w → length (blank_filled w l) ≡ w
filled_size w l h = length-append l (drop (length l) (replicate w 32)) ∙ omega (arith, length-drop {A = ℕ} (length l) (replicate w 32), length-replicate {A = ℕ} w 32)

-- a line over the blanks of an array that is longer than the full width
filled_part : (l : List ℕ) (w v n : ℕ) → v ≡ w → length l ≤ w → w ≤ n → take (v - 0) (drop 0 (blank_filled n l)) ≡ blank_filled w l
filled_part l w v n e h k =
    let z : v - 0 ≡ w = omega arith in
    let m : w + (n - w) ≡ n = omega arith in
    let a : List ℕ = replicate w 32 in
    let b : List ℕ = replicate (n - w) 32 in
    let s : replicate n 32 ≡ a ++ b = sym (replicate-append-replicate w (n - w) 32 ∙ rw m) in
    rw (z, s, drop-append-le (length l) a b (omega (arith, length-replicate {A = ℕ} w 32)), ← append_assoc l (drop (length l) a) b) (take_at (blank_filled w l) b w (filled_size w l h))

-- ---- the blanks that a shorter line is filled with are no barred bytes

filled_clear : (w : ℕ) (l : List ℕ) → lowest_barred_byte l ≡ 0 → lowest_barred_byte (blank_filled w l) ≡ 0
filled_clear w l e =
    barred_after 0 0 1 l (drop (length l) (replicate w 32)) (omega arith) e
    ∙ clear_none 0 0 false (1 + length l) (λ i p q. let z : 0 ≤ i = omega arith in let g : 0 < i = omega arith in rw (le-leb 0 i z, lt-leb i 0 g)) (clear_drop (length l) (replicate w 32) (clear_blanks false w))

-- blanks are filled with blanks
blanks_filled : (w n : ℕ) (l : List ℕ) → l ≡ replicate n 32 → n ≤ w → blank_filled w l ≡ replicate w 32
blanks_filled w n l e h =
    let z : n + (w - n) ≡ w = omega arith in
    let a : List ℕ = replicate n 32 in
    let b : List ℕ = replicate (w - n) 32 in
    let s : replicate w 32 ≡ a ++ b = sym (replicate-append-replicate n (w - n) 32 ∙ rw z) in
    rw (e, s, drop_at a b (length a) refl)

-- ---- what a line that was read has passed

pub record PassedRow (cs : List Col) (l : List ℕ) (m : Rec) : Type 0 where
  pub short : length l ≤ widths cs
  pub clear : lowest_barred_byte l ≡ 0
  pub read : read_columns cs [] 0 (blank_filled (widths cs) l) ≡ ok m

pub row_passed : (cs : List Col) (l : List ℕ) (m : Rec) → read_row cs l ≡ ok m → PassedRow cs l m
unfolding read_row
row_passed cs l m e =
    let p = passed (ltb (widths cs) (length l)) wrong_length 0 (unless (differs (lowest_barred_byte l) 0) barred_byte (lowest_barred_byte l) (read_columns cs [] 0 (blank_filled (widths cs) l))) m e in
    let q = passed (differs (lowest_barred_byte l) 0) barred_byte (lowest_barred_byte l) (read_columns cs [] 0 (blank_filled (widths cs) l)) m p.1 in
    record { short = ltb-false (widths cs) (length l) p.0; clear = differs_same (lowest_barred_byte l) 0 q.0; read = q.1 }

-- ---- the lent record

-- a line whose length or bytes are refused: nothing of it stands in the lent record
pub made_unread : {cs : List Col} {l : List ℕ} {o : Outcome} → Made cs l o → (e : Refusal) → o ≡ Err e → {f t : List ℕ} {v : List ℤ} → ReadPart (read_row cs l) (row_part cs l) (Err e) f f v v t t
unfolding read_row row_part flags_of values_of
made_unread {cs} {l} (too_long h) e q =
    let z : refusal_at wrong_length 0 ≡ e = cc in
    rw (← z, lt-ltb (widths cs) (length l) h) (record { answer = refl; flags = refl; values = refl; chars = refl })
made_unread {cs} {l} (has_barred h n) e q =
    let z : refusal_at barred_byte (lowest_barred_byte l) ≡ e = cc in
    rw (← z, le-ltb (widths cs) (length l) h, differs_is (lowest_barred_byte l) 0 n) (record { answer = refl; flags = refl; values = refl; chars = refl })
made_unread (well h n) e q = let z : ◌≡◌ {A = ℕ} 0 1 = cc in absurd (omega arith)

pub made_passed : {cs : List Col} {l : List ℕ} {o : Outcome} → Made cs l o → o ≡ Ok tt → (length l ≤ widths cs) × (lowest_barred_byte l ≡ 0)
made_passed (too_long h) q = let z : ◌≡◌ {A = ℕ} 0 1 = cc in absurd (omega arith)
made_passed (has_barred h n) q = let z : ◌≡◌ {A = ℕ} 0 1 = cc in absurd (omega arith)
made_passed (well h n) q = (h, n)

-- a line that passes its length and its bytes is read by its columns, from an array that is longer than the full width
pub row_read : {kind : ℕ} {f : Format} (o : Formed kind f) (l : List ℕ) {x a a₁ t t₁ : List ℕ} {v v₁ : List ℤ} {r : Outcome} → length l ≤ f.width → lowest_barred_byte l ≡ 0 → x ≡ blank_filled 256 l → ReadPart (read_columns (format_of kind).columns [] 0 (take (f.width - 0) (drop 0 x))) (read_part (format_of kind).columns [] 0 (take (f.width - 0) (drop 0 x))) r a a₁ v v₁ t t₁ → ReadPart (read_row (format_of kind).columns l) (row_part (format_of kind).columns l) r a a₁ v v₁ t t₁
unfolding read_row row_part
row_read {kind} {f} o l h e q p =
    let w = widths (format_of kind).columns in
    let k : length l ≤ w = omega (arith, o.width) in
    rw (le-ltb w (length l) k, differs_not (lowest_barred_byte l) 0 e) (rw (q, filled_part l w f.width 256 o.width k o.fits.wide) at p)

-- what was read stands there
pub row_whole : (cs : List Col) (l : List ℕ) {f f₁ t t₁ : List ℕ} {v v₁ : List ℤ} → ReadPart (read_row cs l) (row_part cs l) (Ok tt) f f₁ v v₁ t t₁ → Whole (read_row cs l) f f₁ v v₁ t t₁
unfolding read_row row_part
row_whole cs l p =
    let d = done_of (read_row cs l) p.answer in
    let q = row_passed cs l d.value d.is in
    let a = le-ltb (widths cs) (length l) q.short in
    let b = differs_not (lowest_barred_byte l) 0 q.clear in
    rw (a, b) (read_whole (part_read cs [] 0 (blank_filled (widths cs) l)) (rw (a, b) at p))

module _ (cs : List Col) (f : Fits cs) where
  -- ---- what is written reads back

  module _ (ns : List Slot) (t ys : List ℕ) (room : ℕ) (a : length ns ≡ all_slots cs) (b : length t ≡ all_texts cs) (e : write_line cs ns t room ≡ ok ys) where
    row_line : Line cs [] 0 ns t ys
    row_line = columns_back cs [] 0 ns t ys f.sound.fine a b (line_passed cs ns t room ys e).1

    pub row_size_lem : length ys ≡ widths cs
    row_size_lem = row_line.size

    pub row_back : read_row cs ys ≡ ok (record { numbers = ns; chars = t })
    unfolding read_row
    row_back =
        let h : length ys ≤ widths cs = omega (arith, row_size_lem) in
        rw (le-ltb (widths cs) (length ys) h, differs_not (lowest_barred_byte ys) 0 (clean_line 0 0 cs 0 ys f.sound.brackets row_size_lem row_line.clean), over_whole ys (replicate (widths cs) 32) (row_size_lem ∙ sym (length-replicate (widths cs) 32)))
        row_line.back

  -- ---- what was read is written, and is whole

  pub record AcceptsRow (m : Rec) : Type 0 where
    pub bytes : List ℕ
    pub is : write_row cs m (widths cs) ≡ ok bytes
    pub numbers : length m.numbers ≡ all_slots cs
    pub chars : length m.chars ≡ all_texts cs
    pub kept : WholeRecord cs m.numbers

  module _ (l : List ℕ) (m : Rec) (e : read_row cs l ≡ ok m) where
    pub row_accepted : AcceptsRow m
    row_accepted =
        let p = row_passed cs l m e in
        let n : length (blank_filled (widths cs) l) ≡ widths cs = filled_size (widths cs) l p.short in
        let x = columns_accepted cs [] 0 (blank_filled (widths cs) l) m f.sound.fine (omega arith) (line_clean 0 0 cs 0 (blank_filled (widths cs) l) f.sound.brackets n (filled_clear (widths cs) l p.clear)) p.read in
        record {
          bytes = x.bytes;
          is = line_there cs m.numbers m.chars (widths cs) (omega arith) ∙ x.written;
          numbers = x.numbers;
          chars = x.chars;
          kept = written_whole cs [] 0 m.numbers m.chars x.bytes f.sound.fine x.numbers x.written;
        }

    -- its bytes are text
    pub row_text : Clear false l
    row_text = barred_clear false 0 l (row_passed cs l m e).clear

    -- it does not begin with a blank and `(`
    pub row_opened : get_or l 0 0 ≡ 32 → get_or l 1 0 ≡ 40 → ⊥
    row_opened = by_line l (row_passed cs l m e)
      where
        by_line : (s : List ℕ) → PassedRow cs s m → get_or s 0 0 ≡ 32 → get_or s 1 0 ≡ 40 → ⊥
        by_line [] p a b = omega arith
        by_line (x ∷ []) p a b = omega arith
        by_line (x ∷ y ∷ s) p a b = read_opened cs [] 0 (blank_filled (widths cs) (x ∷ y ∷ s)) m f.sound.fine f.opened p.read a b

    -- and is not blank, as blanks would fill it
    pub row_some : l ≡ replicate (length l) 32 → ⊥
    row_some b =
        let p = row_passed cs l m e in
        read_fills cs [] 0 (blank_filled (widths cs) l) m f.sound.fine f.filled (blanks_filled (widths cs) (length l) l b p.short) p.read

  -- ---- the column of a refusal

  pub row_bound : (l : List ℕ) → column_of (read_row cs l) ≤ widths cs
  unfolding read_row
  row_bound l = elim (lt_or_le (widths cs) (length l)) [
    | inl p ↦ rw (lt-ltb (widths cs) (length l) p) (omega arith)
    | inr p ↦
        rw (le-ltb (widths cs) (length l) p)
        (pick_bound (widths cs) (differs (lowest_barred_byte l) 0) (refusal barred_byte (lowest_barred_byte l)) (read_columns cs [] 0 (blank_filled (widths cs) l)) (omega (arith, p, barred_bound 0 0 0 l)) (omega (arith, read_bound cs [] 0 (blank_filled (widths cs) l) f.sound.fine)))
  ]
