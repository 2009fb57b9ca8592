-- What record calls wrote reads back as a run with those lines in that order, for any lines by their first letter whose columns begin
-- with it (document 02, Wish 5).
use Rattle.std.specs.Prelude.{Ok}
use mathlib.Core.Path.{◌≡◌, refl, sym, ap, subst, ◌∙◌}
use mathlib.Core.Bool.{Bool, true, false}
use mathlib.Core.List.{List, [], ◌∷◌}
use Prim.Native.Nat.{ℕ, suc, ◌≤◌, ◌<◌}
use native.Mathlib.Omega.{arith}
use lib.Dec.{T, eqb, leb}
use lib.ListN.{length, take, drop, get_or, get_or-replicate}
use borrow.Author.Tests.{le-ltb}
use Rattle.columns.specs.Answer.{pick, ok}
use Rattle.columns.specs.Column.{Rec, Col, mark, widths}
use Rattle.columns.specs.Reading.{read_columns}
use Rattle.columns.specs.Row.{Fits, row_size}
use Rattle.columns.proofs.laws.Tests.{T_and, T_true}
use Rattle.columns.proofs.laws.Row.{read_marked, row_wide}
use Rattle.formats.specs.Lines.{lines_of}
use Rattle.formats.specs.Row.{blank_filled, read_row, write_row, row_bytes, write_row_from}
use Rattle.formats.specs.Format.{format_of}
use Rattle.formats.specs.BlockWriting.{RecordCalls, ReadBack, no_lines, line, written}
use Rattle.formats.specs.declared.lettered.LineKind.{LineKind}
use Rattle.formats.specs.Lettered.{at_start, Lettered, kinds_of, format_for, named, leading, read_placed, read_lettered_into, numbered, kind_in, record_format, write_lettered}
use Rattle.formats.specs.Run.{events_of, first_refused, counts_size, read_run}
use Rattle.formats.specs.RunWriting.{is_in_order, letters_in, first_bytes, WrittenRun}
use Rattle.formats.proofs.laws.Format.{format_fits}
use Rattle.formats.proofs.laws.Row.{row_passed, filled_size}
use Rattle.formats.proofs.laws.RowRecord.{row_into_read}
use Rattle.formats.proofs.laws.RowRecordBack.{row_written, row_from_back, row_from_there}
use Rattle.formats.proofs.laws.Lettered.{placed_row}
use Rattle.formats.proofs.laws.BlockWriting.{back_lines, records_laid, laid_written, laid_length, laid_size, laid_before, laid_after}
use Rattle.formats.specs.Run.{Run}

-- ---- a row whose first column is a mark begins with it

filled_first : (w : ℕ) (l : List ℕ) (b : ℕ) → 1 ≤ w → 32 < b → get_or (blank_filled w l) 0 0 ≡ b → get_or l 0 0 ≡ b
filled_first w [] b h k e = absurd (omega (arith, k, e, get_or-replicate {A = ℕ} w 0 32 0 h))
filled_first w (x ∷ l) b h k e = e

row_marked : (cs : List Col) → Fits cs → (b : ℕ) → cs ≡ mark b ∷ drop 1 cs → 32 < b → (l : List ℕ) (m : Rec) → read_row cs l ≡ ok m → get_or l 0 0 ≡ b
row_marked cs f b e k l m q =
    let p = row_passed cs l m q in
    let w = row_wide cs f.sound.fine f.opened in
    let n = filled_size (widths cs) l p.short in
    filled_first (widths cs) l b w k (read_marked b (drop 1 cs) [] 0 (blank_filled (widths cs) l) m (omega (arith, n, w)) (subst (λ (x : List Col). read_columns x [] 0 (blank_filled (widths cs) l) ≡ ok m) e p.read))

-- ---- kinds that are named by their letters, whose columns begin with them, and by the first byte of their records

pub record OwnLetter (L : Lettered) (k : LineKind) : Type 0 where
  pub own : named (kinds_of L) k.letter ≡ ok k
  pub begins : (format_of k.kind).columns ≡ mark k.letter ∷ drop 1 (format_of k.kind).columns
  pub kept : (format_of k.kind).kind ≡ k.kind
  pub numbered_own : numbered L.opener (kinds_of L) k.kind ≡ k
  pub above : 32 < k.letter

abbrev pub All : (LineKind → Type 0) → List LineKind → Type 0
All P [] = Unit {0}
All P (k ∷ ks) = P k × All P ks

all_by : (P : LineKind → Type 0) (t : Bool) (k y : LineKind) → P k → P y → P (pick t k y)
all_by P true k y p q = p
all_by P false k y p q = q

pub all_numbered : (P : LineKind → Type 0) (x : LineKind) (ks : List LineKind) (b : ℕ) → P x → All P ks → P (numbered x ks b)
unfolding numbered
all_numbered P x [] b p a = p
all_numbered P x (k ∷ ks) b p a = all_by P (eqb b k.kind) k (numbered x ks b) a.0 (all_numbered P x ks b p a.1)

named_all : (P : LineKind → Type 0) (ks : List LineKind) (b : ℕ) (k : LineKind) → All P ks → named ks b ≡ ok k → P k
unfolding named
named_all P [] b k a e = let z : ◌≡◌ {A = ℕ} 0 1 = cc in let y : ⊥ = omega arith in absurd y
named_all P (x ∷ ks) b k a e = by_letter (eqb b x.letter) (named_all P ks b k a.1) e
  where
    by_letter : (t : Bool) → (named ks b ≡ ok k → P k) → pick t (ok x) (named ks b) ≡ ok k → P k
    by_letter true g e = let d : x ≡ k = cc in subst P d a.0
    by_letter false g e = g e

pub leading_all : (P : LineKind → Type 0) (ks : List LineKind) (l : List ℕ) (k : LineKind) → All P ks → leading ks l ≡ ok k → P k
unfolding leading
leading_all P ks [] k a e = let z : ◌≡◌ {A = ℕ} 0 1 = cc in let y : ⊥ = omega arith in absurd y
leading_all P ks (b ∷ l) k a e = named_all P ks b k a e

module _ (L : Lettered) (fine : All (OwnLetter L) (kinds_of L)) where
  record_own : (r : List ℕ) → OwnLetter L (kind_in L r)
  record_own r = all_numbered (OwnLetter L) L.opener (kinds_of L) (get_or r 0 0) fine.0 fine

  fit : (r : List ℕ) → Fits (record_format L r).columns
  fit r = format_fits (kind_in L r).kind

  -- the line of a record begins with its kind's letter, which names the kind
  line_letter : (r l : List ℕ) (m : Rec) → read_row (record_format L r).columns l ≡ ok m → get_or l 0 0 ≡ (kind_in L r).letter
  line_letter r l m e = let o = record_own r in row_marked (record_format L r).columns (fit r) (kind_in L r).letter o.begins o.above l m e

  led_by : (l : List ℕ) (k : LineKind) → 32 < k.letter → get_or l 0 0 ≡ k.letter → named (kinds_of L) k.letter ≡ ok k → leading (kinds_of L) l ≡ ok k
  unfolding leading
  led_by [] k h e o = absurd (omega arith)
  led_by (b ∷ l) k h e o = ap (named (kinds_of L)) e ∙ o

  line_led : (r l : List ℕ) (m : Rec) → read_row (record_format L r).columns l ≡ ok m → leading (kinds_of L) l ≡ ok (kind_in L r)
  line_led r l m e = let o = record_own r in led_by l (kind_in L r) o.above (line_letter r l m e) o.own

  -- a line that is written from a record alone reads back to the same bytes
  pub lettered_back : (r ys : List ℕ) (room most : ℕ) → row_size (record_format L r).columns ≤ most → write_lettered L r room ≡ ok ys → read_lettered_into (kinds_of L) most ys most ≡ ok (take (row_size (record_format L r).columns) r)
  unfolding write_lettered read_lettered_into
  lettered_back r ys room most h e =
      let F = record_format L r in
      let p = row_written F (fit r) r ys room e in
      let n : most ≤ most = omega arith in
      rw (le-ltb most most n, line_led r ys p.value p.back)
      (row_into_read F ys most h ∙ sym (row_into_read F ys (row_size F.columns) (omega arith)) ∙ row_from_back F (fit r) r ys room e)

  -- and a record that was read is written as a line of its kind again
  pub lettered_there : (l : List ℕ) (k : LineKind) (m : Rec) → leading (kinds_of L) l ≡ ok k → read_row (format_for k).columns l ≡ ok m → (room : ℕ) → write_lettered L (row_bytes (format_for k) m) room ≡ write_row (format_for k).columns m room
  unfolding write_lettered
  lettered_there l k m e q room =
      let o = leading_all (OwnLetter L) (kinds_of L) l k fine e in
      let d : kind_in L (row_bytes (format_for k) m) ≡ k = ap (numbered L.opener (kinds_of L)) o.kept ∙ o.numbered_own in
      ap (λ (x : LineKind). write_row_from (format_for x) (row_bytes (format_for k) m) room) d ∙ row_from_there (format_for k) (format_fits k.kind) l m q room

  back_letters : {rs ls : List (List ℕ)} → ReadBack (record_format L) rs ls → first_bytes ls ≡ letters_in L rs
  unfolding first_bytes letters_in
  back_letters no_lines = refl
  back_letters (line {r = r} {l = l} {m = m} a b n p) = rw (line_letter r l m b, back_letters p)

  -- lines that may come in that order are all accepted
  back_accepted : {rs ls : List (List ℕ)} (n before : ℕ) (x : Run) → ReadBack (record_format L) rs ls → T (is_in_order L before rs) → first_refused (kinds_of L) n before ls x ≡ x
  unfolding first_refused is_in_order
  back_accepted n before x no_lines t = refl
  back_accepted n before x (line {r = r} {l = l} {rs = rs} {m = m} a b s p) t =
      let q = T_and (leb before (kind_in L r).after) (is_in_order L (kind_in L r).rank rs) t in
      let g : read_placed (leb before (kind_in L r).after) (record_format L r).columns l ≡ ok m = rw (T_true (leb before (kind_in L r).after) q.0) (placed_row (record_format L r).columns l ∙ b) in
      rw (line_led r l m b, g) (back_accepted (suc n) (kind_in L r).rank x p q.1)

  pub run_written : {rs : List (List ℕ)} {at end : ℕ} {out to : List ℕ} → at ≤ length out → RecordCalls (record_format L) rs at out end to → WrittenRun L rs at out end to
  unfolding read_run
  run_written {rs} {at} {end} {out} {to} h calls =
      let q = records_laid (record_format L) fit h calls in
      let ls = q.rows in
      let w = laid_written q.laid in
      let d : lines_of (written at end to) ≡ ls = ap lines_of w ∙ back_lines (record_format L) fit q.back in
      record {
        size = laid_size q.laid;
        before = laid_before q.laid;
        after = laid_after q.laid;
        rows = ls;
        lines = d;
        letters = back_letters q.back;
        records = q.back;
        run = λ t low room g.
            let n : length (written at end to) ≤ 65536 = omega (arith, ap length w, laid_length q.laid, low) in
            rw (le-ltb room (counts_size L) g, le-ltb 65536 (length (written at end to)) n, d) (back_accepted 1 at_start (Ok (events_of L ls)) q.back t);
      }
