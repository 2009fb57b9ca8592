-- What a header call and then record calls wrote reads back as a block with those records in that order, for any row format
-- (document 01, "The block").
use Rattle.std.specs.Prelude.{Ok}
use Rattle.formats.specs.Block.{read_as}
use mathlib.Core.Path.{◌≡◌, refl, ap, subst, ◌∙◌}
use mathlib.Core.Bool.{Bool, true, false}
use mathlib.Core.List.{List, [], ◌∷◌, ◌++◌, append_assoc}
use Prim.Native.Nat.{ℕ, suc, ◌+◌, ◌-◌, ◌*◌, ◌≤◌}
use native.Mathlib.Nat.{mul-suc}
use native.Mathlib.Omega.{arith}
use lib.ListN.{length, take, drop, get_or, replicate, length-append}
use lib.Seq.{take_at, drop_at, length-take-le}
use lib.Dec.{eqb, ltb}
use borrow.Author.Tests.{ne_eqb, eqb-true, ltb-false, le-ltb}
use Rattle.columns.specs.Answer.{pick, Answer, ok, refusal, too_short}
use Rattle.columns.specs.Bytes.{is_allowed, is_none}
use Rattle.columns.specs.Column.{Rec, widths}
use Rattle.columns.specs.Row.{Fits}
use Rattle.columns.specs.Table.{placed}
use Rattle.columns.proofs.laws.Answers.{passed}
use Rattle.columns.proofs.laws.Clear.{Clear, none, more}
use Rattle.columns.proofs.laws.Places.{placed_none, placed_split, placed_length, placed_placed}
use Rattle.columns.proofs.laws.Row.{row_wide}
use Rattle.formats.specs.Lines.{on_first, lines_of}
use Rattle.formats.specs.Row.{RowFormat, read_row, write_row_from}
use Rattle.formats.specs.Block.{BlockFormat, before_trimmed, trim_end, row, begins_comment, kind_of, read_lines, read_headed, read_block_by, read_block}
use Rattle.formats.specs.BlockWriting.{ended, write_header, room_from, header_call, record_call, RepliedFrom, RecordCalls, no_calls, call, BlockCalls, written, ReadBack, no_lines, line, WrittenBlock}
use Rattle.formats.proofs.laws.Format.{HeaderFine}
use Rattle.formats.proofs.laws.Row.{row_text, row_opened, row_some}
use Rattle.formats.proofs.laws.RowRecordBack.{row_written}

-- ---- lines one after the other, each with its newline

unfoldable pub text_of : List (List ℕ) → List ℕ
text_of [] = []
text_of (l ∷ ls) = l ++ 10 ∷ text_of ls

-- text bytes are no newlines
text_byte : (b : ℕ) → is_allowed false b ≡ true → b ≡ 10 → ⊥
text_byte b e q = let f : is_allowed false 10 ≡ true = rw q at e in let z : ◌≡◌ {A = ℕ} 0 1 = cc in omega arith

line_ended : {l : List ℕ} (s : List ℕ) → Clear false l → lines_of (l ++ 10 ∷ s) ≡ l ∷ lines_of s
unfolding lines_of on_first
line_ended s none = refl
line_ended s (more {b} e p) = rw (ne_eqb b 10 (text_byte b e), line_ended s p)

-- ---- a line that is not blank and does not begin with a blank and `(` is a row: document 01, "The phase line", "The block"

left_none : (b : ℕ) (s : List ℕ) → is_none (before_trimmed b s) ≡ true → (b ≡ 32) × (is_none s ≡ true)
left_none b [] e = (by_test (eqb b 32) refl e, refl)
  where
    by_test : (t : Bool) → eqb b 32 ≡ t → is_none (pick t [] (b ∷ [])) ≡ true → b ≡ 32
    by_test true p q = eqb-true b 32 p
    by_test false p q = let z : ◌≡◌ {A = ℕ} 0 1 = cc in absurd (omega arith)
left_none b (x ∷ s) e = let z : ◌≡◌ {A = ℕ} 0 1 = cc in absurd (omega arith)

none_left : (l : List ℕ) → is_none (trim_end l) ≡ true → l ≡ replicate (length l) 32
unfolding trim_end
none_left [] e = refl
none_left (b ∷ s) e =
    let p = left_none b (trim_end s) e in
    rw p.0 (ap (λ (x : List ℕ). 32 ∷ x) (none_left s p.1))

pub row_kind_of : (l : List ℕ) → (l ≡ replicate (length l) 32 → ⊥) → (get_or l 0 0 ≡ 32 → get_or l 1 0 ≡ 40 → ⊥) → kind_of l ≡ row
row_kind_of l n o = by_left (is_none (trim_end l)) refl
  where
    by_second : (t : Bool) → eqb (get_or l 1 0) 40 ≡ t → get_or l 0 0 ≡ 32 → t ≡ false
    by_second true p q = absurd (o q (eqb-true (get_or l 1 0) 40 p))
    by_second false p q = refl

    by_first : (t : Bool) → eqb (get_or l 0 0) 32 ≡ t → pick t (eqb (get_or l 1 0) 40) false ≡ false
    by_first true p = by_second (eqb (get_or l 1 0) 40) refl (eqb-true (get_or l 0 0) 32 p)
    by_first false p = refl

    by_left : (t : Bool) → is_none (trim_end l) ≡ t → kind_of l ≡ row
    by_left true p = absurd (n (none_left l p))
    by_left false p = let b : begins_comment l ≡ false = by_first (eqb (get_or l 0 0) 32) refl in rw (p, b)

-- ---- a header and lines after it that are read, where a line that is read is text and, by its kind, a row: no comment, and not blank

data AllRead (read : List ℕ → Answer Rec) : List (List ℕ) → Type 0 where
  no_line_read : AllRead read []
  line_read : {l : List ℕ} {ls : List (List ℕ)} {m : Rec} → read l ≡ ok m → AllRead read ls → AllRead read (l ∷ ls)

module _ (header : List ℕ) (fine : HeaderFine header) (read : List ℕ → Answer Rec) (text : (l : List ℕ) (m : Rec) → read l ≡ ok m → Clear false l) (kind : (l : List ℕ) (m : Rec) → read l ≡ ok m → kind_of l ≡ row) where
  rows_lines : {ls : List (List ℕ)} → AllRead read ls → lines_of (text_of ls) ≡ ls
  unfolding text_of lines_of
  rows_lines no_line_read = refl
  rows_lines (line_read {l = l} {ls = ls} {m = m} e p) = line_ended (text_of ls) (text l m e) ∙ ap (λ (x : List (List ℕ)). l ∷ x) (rows_lines p)

  rows_read : {ls : List (List ℕ)} (n : ℕ) (seen : Bool) → AllRead read ls → read_lines read n seen ls ≡ read_as (length ls) 0 (length (text_of ls))
  unfolding read_lines text_of
  rows_read n seen no_line_read = refl
  rows_read n seen (line_read {l = l} {ls = ls} {m = m} e p) =
      let x : 1 + length ls ≡ suc (length ls) = omega arith in
      let y : length l + 1 + length (text_of ls) ≡ length (l ++ 10 ∷ text_of ls) = omega (arith, length-append l (10 ∷ text_of ls)) in
      rw (kind l m e, e, rows_read (suc n) true p, x, y)

  module _ {ls : List (List ℕ)} (p : AllRead read ls) where
    headed_lines : lines_of (text_of (header ∷ ls)) ≡ header ∷ ls
    unfolding text_of
    headed_lines = line_ended (text_of ls) fine.text ∙ ap (λ (x : List (List ℕ)). header ∷ x) (rows_lines p)

    headed_read : read_headed header read (header ∷ ls) ≡ read_as (length ls) 0 (length (text_of (header ∷ ls)))
    unfolding read_headed text_of
    headed_read =
        let x : 0 + length ls ≡ length ls = omega arith in
        let y : length header + 1 + length (text_of ls) ≡ length (header ++ 10 ∷ text_of ls) = omega (arith, length-append header (10 ∷ text_of ls)) in
        rw (fine.own, rows_read 2 false p, x, y)

    text_read : length (text_of (header ∷ ls)) ≤ 65536 → read_block_by header read (text_of (header ∷ ls)) ≡ read_as (length ls) 0 (length (text_of (header ∷ ls)))
    unfolding read_block_by
    text_read k =
        let n = length (text_of (header ∷ ls)) in
        rw (le-ltb 65536 n k, headed_lines, headed_read, le-ltb n n (omega arith))

-- ---- bytes placed in an output: those before and after stay

module _ (at end : ℕ) (xs out : List ℕ) (e : end ≡ at + length xs) (h : end ≤ length out) where
  front : length (take at out) ≡ at
  front = length-take-le at out (omega arith)

  placed_before : take at (placed at xs out) ≡ take at out
  placed_before = take_at (take at out) _ at front

  placed_after : drop end (placed at xs out) ≡ drop end out
  placed_after = ap (drop end) (placed_split at end xs out e) ∙ drop_at (take at out ++ xs) (drop end out) end (length-append (take at out) xs ∙ omega (arith, front))

  placed_part : written at end (placed at xs out) ≡ xs
  placed_part = ap (take (end - at)) (drop_at (take at out) _ at front) ∙ take_at xs _ (end - at) (omega arith)

-- ---- a call that wrote a line, with its newline

record Called (a : Answer (List ℕ)) (at next : ℕ) (out to : List ℕ) : Type 0 where
  line : List ℕ
  is : a ≡ ok line
  place : next ≡ at + length (line ++ 10 ∷ [])
  bytes : to ≡ placed at (line ++ 10 ∷ []) out

called : (a : Answer (List ℕ)) (at next : ℕ) (out to : List ℕ) → RepliedFrom at (ended a) (Ok next) out to → Called a at next out to
called (ok l) at next out to w = let e = w.answer in record { line = l; is = refl; place = cc; bytes = w.bytes }
called (refusal n k) at next out to w = let e = w.answer in let z : ◌≡◌ {A = ℕ} 0 1 = cc in let y : ⊥ = omega arith in absurd y

-- the lines that were written from a place on
pub record Laid (ls : List (List ℕ)) (at : ℕ) (out : List ℕ) (end : ℕ) (to : List ℕ) : Type 0 where
  pub place : end ≡ at + length (text_of ls)
  pub fits : end ≤ length out
  pub bytes : to ≡ placed at (text_of ls) out

laid_none : (at : ℕ) (out : List ℕ) → at ≤ length out → Laid [] at out at out
unfolding text_of
laid_none at out h = record { place = omega arith; fits = h; bytes = placed_none at out }

module _ {a : Answer (List ℕ)} {at next : ℕ} {out mid : List ℕ} (c : Called a at next out mid) (h : at + (length c.line + 1) ≤ length out) where
  ended_size : length (c.line ++ 10 ∷ []) ≡ length c.line + 1
  ended_size = length-append c.line (10 ∷ [])

  same_size : length mid ≡ length out
  same_size = ap length c.bytes ∙ placed_length at (c.line ++ 10 ∷ []) out (omega (arith, ended_size))

  next_in : next ≤ length mid
  next_in = omega (arith, c.place, ended_size, same_size)

  laid_more : {ls : List (List ℕ)} {end : ℕ} {to : List ℕ} → Laid ls next mid end to → Laid (c.line ∷ ls) at out end to
  unfolding text_of
  laid_more {ls = ls} p =
      let l = c.line in
      let t = text_of ls in
      let k : length (l ++ 10 ∷ t) ≡ length l + 1 + length t = length-append l (10 ∷ t) ∙ omega arith in
      record {
        place = omega (arith, c.place, ended_size, p.place);
        fits = omega (arith, p.fits, same_size);
        bytes = p.bytes ∙ ap (placed next t) c.bytes ∙ placed_placed at next (l ++ 10 ∷ []) t out c.place (omega (arith, p.place, p.fits, same_size)) ∙ rw (append_assoc l (10 ∷ []) t);
      }

-- ---- the calls, each record by the format that its bytes go by

module _ (form : List ℕ → RowFormat) (fit : (r : List ℕ) → Fits (form r).columns) where
  pub back_count : {rs ls : List (List ℕ)} → ReadBack form rs ls → length ls ≡ length rs
  back_count no_lines = refl
  back_count (line a b n p) = ap suc (back_count p)

  -- their lines are text, each ended by its newline
  pub back_lines : {rs ls : List (List ℕ)} → ReadBack form rs ls → lines_of (text_of ls) ≡ ls
  unfolding text_of lines_of
  back_lines no_lines = refl
  back_lines (line {r = r} {l = l} {ls = ls} {m = m} a b n p) =
      line_ended (text_of ls) (row_text (form r).columns (fit r) l m b) ∙ ap (λ (x : List (List ℕ)). l ∷ x) (back_lines p)

  pub record LaidBack (rs : List (List ℕ)) (at : ℕ) (out : List ℕ) (end : ℕ) (to : List ℕ) : Type 0 where
    pub rows : List (List ℕ)
    pub back : ReadBack form rs rows
    pub laid : Laid rows at out end to

  pub records_laid : {rs : List (List ℕ)} {at end : ℕ} {out to : List ℕ} → at ≤ length out → RecordCalls form rs at out end to → LaidBack rs at out end to
  unfolding record_call
  records_laid h no_calls = record { rows = []; back = no_lines; laid = laid_none _ _ h }
  records_laid h (call {r = r} {rs = rs} {at = at} {next = next} {out = out} {mid = mid} w ws) =
      let F = form r in
      let f = fit r in
      let room = room_from at (length out) in
      let c = called (write_row_from F r room) at next out mid w in
      let p = row_written F f r c.line room c.is in
      let k : at + (length c.line + 1) ≤ length out = omega (arith, p.fits, p.size, row_wide F.columns f.sound.fine f.opened) in
      let q = records_laid (next_in c k) ws in
      record {
        rows = c.line ∷ q.rows;
        back = line p.named p.back p.size q.back;
        laid = laid_more c k q.laid;
      }

-- ---- what was laid into an output: the bytes from the first place to the last are the lines, other bytes stay

module _ {ls : List (List ℕ)} {at end : ℕ} {out to : List ℕ} (p : Laid ls at out end to) where
  pub laid_written : written at end to ≡ text_of ls
  laid_written = ap (written at end) p.bytes ∙ placed_part at end (text_of ls) out p.place p.fits

  pub laid_length : end - at ≡ length (text_of ls)
  laid_length = omega (arith, p.place)

  pub laid_size : length to ≡ length out
  laid_size = ap length p.bytes ∙ placed_length at (text_of ls) out (omega (arith, p.place, p.fits))

  pub laid_before : take at to ≡ take at out
  laid_before = ap (take at) p.bytes ∙ placed_before at end (text_of ls) out p.place p.fits

  pub laid_after : drop end to ≡ drop end out
  laid_after = ap (drop end) p.bytes ∙ placed_after at end (text_of ls) out p.place p.fits

-- ---- a block: its header, then records of one format

module _ (F : BlockFormat) (f : Fits F.row.columns) where
  pub row_kind : (l : List ℕ) (m : Rec) → read_row F.row.columns l ≡ ok m → kind_of l ≡ row
  row_kind l m e = row_kind_of l (row_some F.row.columns f l m e) (row_opened F.row.columns f l m e)

  back_read : {rs ls : List (List ℕ)} → ReadBack (λ r. F.row) rs ls → AllRead (read_row F.row.columns) ls
  back_read no_lines = no_line_read
  back_read (line a b n p) = line_read b (back_read p)

  -- all of the full width
  back_size : {rs ls : List (List ℕ)} → ReadBack (λ r. F.row) rs ls → length (text_of ls) ≡ (widths F.row.columns + 1) * length rs
  unfolding text_of
  back_size no_lines = omega arith
  back_size (line {l = l} {rs = rs} {ls = ls} a b n p) =
      let m : (widths F.row.columns + 1) * suc (length rs) ≡ (widths F.row.columns + 1) * length rs + (widths F.row.columns + 1) = mul-suc (widths F.row.columns + 1) (length rs) in
      length-append l (10 ∷ text_of ls) ∙ omega (arith, n, back_size p, m)

  block_laid : HeaderFine F.header → {rs : List (List ℕ)} {next at end : ℕ} {out mid to : List ℕ} (q : LaidBack (λ r. F.row) (λ r. f) rs next mid end to) → Laid (F.header ∷ q.rows) at out end to → WrittenBlock F rs at out end to
  unfolding text_of
  block_laid h {rs} {next} {at} {end} {out} {mid} {to} q p =
      let ls = q.rows in
      let read = read_row F.row.columns in
      let x = laid_written p in
      let n = laid_length p in
      record {
        place = omega (arith, p.place, back_size q.back, length-append F.header (10 ∷ text_of ls));
        size = laid_size p;
        before = laid_before p;
        after = laid_after p;
        rows = ls;
        lines = ap lines_of x ∙ headed_lines F.header h read (row_text F.row.columns f) row_kind (back_read q.back);
        records = q.back;
        block = λ k. ap (read_block F) x ∙ text_read F.header h read (row_text F.row.columns f) row_kind (back_read q.back) (omega arith) ∙ rw (back_count (λ r. F.row) (λ r. f) q.back, n);
      }

  pub block_written : HeaderFine F.header → {rs : List (List ℕ)} {at end : ℕ} {out to : List ℕ} → BlockCalls F rs at out end to → WrittenBlock F rs at out end to
  unfolding header_call
  block_written h {at = at} {end = end} {out = out} {to = to} w =
      let room = room_from at (length out) in
      let c = called (write_header F.header room) at w.next out w.headed w.header in
      let p = passed (ltb room (length F.header)) too_short 0 (ok F.header) c.line c.is in
      let l : c.line ≡ F.header = cc p.1 in
      let n : length c.line ≡ length F.header = ap length l in
      let k : at + (length c.line + 1) ≤ length out = omega (arith, ltb-false room (length F.header) p.0, h.some) in
      let q = records_laid (λ r. F.row) (λ r. f) (next_in c k) w.records in
      block_laid h q (subst (λ (x : List ℕ). Laid (x ∷ q.rows) at out end to) l (laid_more c k q.laid))
