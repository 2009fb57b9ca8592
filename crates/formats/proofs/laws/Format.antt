-- Every row format's written-out list of columns and its header, tested here and nowhere else, and the code's table of them all.
use mathlib.Core.Path.{◌≡◌, refl, sym, ap, ◌∙◌}
use mathlib.Core.Bool.{Bool, true, false, ◌&&◌}
use mathlib.Core.List.{List, [], ◌∷◌, ◌++◌, append_assoc}
use Prim.Native.Nat.{ℕ, ◌+◌, ◌-◌, ◌≤◌, ◌<◌}
use native.Mathlib.Omega.{arith}
use lib.Dec.{T, leb, ltb, eqb, leb→le, lit≤}
use borrow.Author.Tests.{ltb-true, ne_eqb}
use lib.Seq.{take_all}
use lib.IntN.{ℤ}
use lib.ListN.{length, take, drop, get_or, length-append}
use Rattle.columns.specs.Answer.{pick}
use Rattle.columns.specs.Bytes.{all_text}
use Rattle.columns.specs.Column.{Slot, Col, widths, all_slots, all_texts}
use Rattle.columns.specs.Reading.{read_columns, read_part}
use Rattle.columns.specs.Table.{columns_of, sizes_of, over, Table, ReadPart, Wrote}
use Rattle.columns.specs.Row.{fits, Fits, write_whole}
use Rattle.columns.specs.Table.{Outcome}
use Rattle.columns.proofs.laws.Tests.{T_and, T_true}
use Rattle.columns.proofs.laws.Bytes.{same_self}
use Rattle.columns.proofs.laws.Clear.{Clear, text_clear}
use Rattle.columns.proofs.laws.Table.{columns_among}
use Rattle.columns.proofs.laws.Row.{fits_of}
use Rattle.formats.specs.Block.{trim_end, is_header}
use Rattle.formats.specs.Words.{bytes_of}
use Rattle.formats.specs.Header.{spaced_from, phase_header, arrival_header}
use Rattle.formats.specs.Phase.{phase_columns}
use Rattle.formats.specs.Row.{RowFormat}
use Rattle.formats.specs.Format.{phase_format, other_formats, phase_block, arrival_block, all_columns, table_columns, Place, place_at, place_in, place_of, format_of, first_row, header_of, block_of, HeaderPut, Formed}
use Rattle.formats.specs.declared.format.Format.{Format}
use Rattle.formats.proofs.laws.BlockLine.{trim_other}

-- ---- what holds of a row format

-- a header's bytes are text, and the last is not blank
pub record HeaderFine (header : List ℕ) : Type 0 where
  pub some : 1 ≤ length header
  pub text : Clear false header
  pub own : is_header header header ≡ true

-- the test of a header, and of all formats
abbrev fine_header : List ℕ → Bool
fine_header h = leb 1 (length h) && (all_text h && ltb 32 (get_or h (length h - 1) 0))

abbrev all_fit : List RowFormat → Bool
all_fit [] = true
all_fit (F ∷ Fs) = fits F.columns && all_fit Fs

header_own : (h : List ℕ) → 1 ≤ length h → 32 < get_or h (length h - 1) 0 → is_header h h ≡ true
header_own h n l =
    let e : trim_end h ≡ h = rw (take_all (length h) h (omega arith)) at (trim_other h (length h) (omega arith) (omega arith) (λ q. omega arith)) in
    rw e (same_self h)

fine_of : (h : List ℕ) → T (fine_header h) → HeaderFine h
fine_of h t =
    let q = T_and (leb 1 (length h)) _ t in
    let r = T_and (all_text h) (ltb 32 (get_or h (length h - 1) 0)) q.1 in
    let n = leb→le 1 (length h) q.0 in
    let l = ltb-true 32 (get_or h (length h - 1) 0) (T_true _ r.1) in
    record { some = n; text = text_clear h r.0; own = header_own h n l }

either : {A : Type 0} (P : A → Type 0) (t : Bool) (x y : A) → P x → P y → P (pick t x y)
either P true x y a b = a
either P false x y a b = b

place_fits : (kind first : ℕ) (Fs : List RowFormat) → T (fits phase_format.columns) → T (all_fit Fs) → Fits (place_in kind first Fs).format.columns
place_fits kind first [] p t = fits_of phase_format.columns p
place_fits kind first (F ∷ Fs) p t =
    let q = T_and (fits F.columns) (all_fit Fs) t in
    either (λ (p : Place). Fits p.format.columns) (eqb kind F.kind) (place_at F first) _ (fits_of F.columns q.0) (place_fits kind (first + length F.columns) Fs p q.1)

-- each format and each header is tested by computing, here alone
pub format_fits : (kind : ℕ) → Fits (format_of kind).columns
unfolding format_of
format_fits kind = place_fits kind (length phase_columns) other_formats tt tt

pub header_fine : (kind : ℕ) → HeaderFine (header_of kind)
unfolding header_of phase_header arrival_header spaced_from bytes_of
header_fine kind = either HeaderFine (eqb kind 5) arrival_header phase_header (fine_of arrival_header tt) (fine_of phase_header tt)

-- each format is the one that its record's kind names
abbrev pub named : List RowFormat → List RowFormat
named [] = []
named (F ∷ Fs) = format_of F.kind ∷ named Fs

pub kinds_name : named (phase_format ∷ other_formats) ≡ phase_format ∷ other_formats
unfolding format_of
kinds_name = refl

-- and so each block
pub blocks_name : (block_of 3 ≡ phase_block) × (block_of 5 ≡ arrival_block)
unfolding format_of header_of
blocks_name = (refl, refl)

-- the place of a format by its kind; a number that names none of some formats
pub place_is : (kind k : ℕ) (p : Place) → kind ≡ k → place_of k ≡ p → place_of kind ≡ p
place_is kind k p e q = ap place_of e ∙ q

pub data NoKind (kind : ℕ) : List RowFormat → Type 0 where
  no_formats : NoKind kind []
  not_this : {F : RowFormat} {Fs : List RowFormat} → (kind ≡ F.kind → ⊥) → NoKind kind Fs → NoKind kind (F ∷ Fs)

no_place : (kind first : ℕ) {Fs : List RowFormat} → NoKind kind Fs → place_in kind first Fs ≡ place_at phase_format 0
no_place kind first no_formats = refl
no_place kind first (not_this {F = F} n p) = rw (ne_eqb kind F.kind n) (no_place kind (first + length F.columns) p)

pub phase_place : (kind : ℕ) → NoKind kind other_formats → place_of kind ≡ place_at phase_format 0
phase_place kind p = no_place kind (length phase_columns) p

-- ---- a format as the code gives it for a kind

module _ (kind : ℕ) (F : RowFormat) (first : ℕ) (p : place_of kind ≡ place_at F first) where
  format_is : format_of kind ≡ F
  unfolding format_of
  format_is = ap (λ (x : Place). x.format) p

  -- the code's numbers are those that the list's columns take
  pub formed : (f : Format) → f ≡ record { kind = F.kind; first = first; rows = length F.columns; width = (sizes_of F.columns).width; numbers = (sizes_of F.columns).numbers; texts = (sizes_of F.columns).chars } → Formed kind f
  unfolding first_row
  formed f e =
      let s = rw format_is at (format_fits kind).sound in
      record {
        name = rw (e, format_is);
        first = ap (λ (x : Format). x.first) e ∙ sym (ap (λ (x : Place). x.first) p);
        rows = rw (e, format_is);
        width = rw (e, format_is) (sym s.wide);
        numbers = rw (e, format_is) (sym s.numbers);
        texts = rw (e, format_is) (sym s.chars);
        fits = format_fits kind;
      }

-- a header as the code has it
pub header_put : (kind : ℕ) (h : List ℕ) → header_of kind ≡ h → (n : ℕ) (from to : List ℕ) → n ≡ length h → to ≡ over h from → HeaderPut kind n from to
header_put kind h p n from to e f =
    record { size = rw p e; room = omega (arith, ap length f ∙ length-append h (drop (length h) from)); bytes = rw p f }

pub arrival_header_lem : (kind : ℕ) → kind ≡ 5 → header_of kind ≡ arrival_header
unfolding header_of
arrival_header_lem kind e = rw e

pub phase_header_lem : (kind : ℕ) → (kind ≡ 5 → ⊥) → header_of kind ≡ phase_header
unfolding header_of
phase_header_lem kind n = rw (ne_eqb kind 5 n)

-- ---- the code's table

-- it holds the columns of all row formats: computed where the table is handed over
abbrev pub Holds : List ℕ → List ℤ → List ℕ → Type 0
Holds s rs ls = columns_of s rs ls ≡ table_columns

module _ (s : List ℕ) (rs : List ℤ) (ls : List ℕ) where
  record Rows (p : Place) : Type 0 where
    inside : p.first + length p.format.columns ≤ length s
    is : columns_of (take (length p.format.columns) (drop p.first s)) rs ls ≡ p.format.columns

  among : (F : RowFormat) (a c : List Col) → columns_of s rs ls ≡ a ++ (F.columns ++ c) → Rows (place_at F (length a))
  among F a c e = let q = columns_among s rs ls a F.columns c e in record { inside = q.0; is = q.1 }

  place_rows : Holds s rs ls → (kind : ℕ) (Fs : List RowFormat) (a : List Col) → columns_of s rs ls ≡ a ++ all_columns Fs → Rows (place_in kind (length a) Fs)
  place_rows e kind [] a q = among phase_format [] (all_columns other_formats) e
  place_rows e kind (F ∷ Fs) a q =
      let n : length (a ++ F.columns) ≡ length a + length F.columns = length-append a F.columns in
      either Rows (eqb kind F.kind) (place_at F (length a)) _ (among F a (all_columns Fs) q)
      (rw n at (place_rows e kind Fs (a ++ F.columns) (q ∙ sym (append_assoc a F.columns (all_columns Fs)))))

  module _ {kind : ℕ} {f : Format} (o : Formed kind f) where
    abbrev there : List Col
    there = columns_of (take f.rows (drop f.first s)) rs ls

    rows_of : Holds s rs ls → (f.first + f.rows ≤ length s) × (there ≡ (format_of kind).columns)
    unfolding format_of first_row
    rows_of e = let r = place_rows e kind other_formats phase_columns e in rw (o.first, o.rows) (r.inside, r.is)

    -- what the reader asks for, and the answer that it gives for a line
    pub cells_ready : (n : ℕ) → n ≡ widths (format_of kind).columns → Holds s rs ls → (f.first + f.rows ≤ length s) × Table there 0 n 0 40 40 0 160
    cells_ready n l e =
        let r = rows_of e in
        let b = o.fits in
        (r.0, rw r.1 (record { fine = b.sound.fine; line = omega arith; low = omega (arith, b.wide); same = refl; numbers = omega (arith, b.numbers); chars = omega (arith, b.chars) }))

    pub cells_read : (l : List ℕ) {r : Outcome} {a a₁ t t₁ : List ℕ} {v v₁ : List ℤ} → ReadPart (read_columns there [] 0 l) (read_part there [] 0 l) r a a₁ v v₁ t t₁ → Holds s rs ls → ReadPart (read_columns (format_of kind).columns [] 0 l) (read_part (format_of kind).columns [] 0 l) r a a₁ v v₁ t t₁
    cells_read l h e = rw (rows_of e).1 at h

    -- and so for the writer
    pub line_ready : (nf nv nt : ℕ) → nf ≡ all_slots (format_of kind).columns → nv ≡ all_slots (format_of kind).columns → nt ≡ all_texts (format_of kind).columns → Holds s rs ls → (f.first + f.rows ≤ length s) × ((f.width ≡ widths there) × Table there 0 512 0 nf nv 0 nt)
    line_ready nf nv nt n v t e =
        let r = rows_of e in
        let b = o.fits in
        (r.0, rw r.1 (o.width, record { fine = b.sound.fine; line = omega (arith, b.wide); low = lit≤ tt; same = omega arith; numbers = omega arith; chars = omega arith }))

    pub line_wrote : (fs : List ℕ) (ns : List Slot) (t : List ℕ) (room : ℕ) {from to : List ℕ} {r : Outcome} → Wrote (write_whole there fs ns t room) r from to → Holds s rs ls → Wrote (write_whole (format_of kind).columns fs ns t room) r from to
    line_wrote fs ns t room h e = rw (rows_of e).1 at h
