-- What a row's record bytes keep, over its format: one encoding for each record, what is written reads back to the same bytes, and
-- what is read is a record; how large the answers can be.
use mathlib.Core.Path.{◌≡◌, refl, sym, ap, ◌∙◌}
use mathlib.Core.Bool.{◌&&◌}
use mathlib.Core.List.{List, [], ◌∷◌, ◌++◌, append_assoc}
use Prim.Native.Nat.{ℕ, suc, ◌+◌, ◌*◌, ◌^◌, ◌-◌, ◌≤◌, ◌<◌}
use native.Mathlib.Omega.{arith}
use lib.IntN.{ℤ, pos, negsuc}
use lib.ListN.{length, take, drop}
use lib.Dec.{ltb}
use lib.Seq.{length-take-le, take_all, take_at, drop_at, drop-drop}
use borrow.Author.Tests.{ltb-false, lt-ltb, le-ltb}
use Rattle.columns.specs.Answer.{pick, Answer, ok, refusal, bad_form, too_short}
use Rattle.columns.specs.Column.{Slot, missing, given, Rec, widths, all_slots, all_texts}
use Rattle.columns.specs.Table.{value_of, flags_of, values_of}
use Rattle.columns.specs.Row.{whole, SmallSlot, SmallSlots, row_size, Fits}
use Rattle.columns.proofs.laws.Answers.{passed, held}
use Rattle.columns.proofs.laws.Bounds.{column_of, pick_bound}
use Rattle.columns.proofs.laws.Row.{line_passed, line_bound}
use Rattle.columns.proofs.laws.Table.{flags_length, values_length, flags_cons, values_cons, flag_slot}
use Rattle.columns.proofs.laws.Tests.{both_true}
use Rattle.columns.specs.Word.{word_bytes, word_of}
use Rattle.columns.specs.Bytes.{same_bytes}
use Rattle.formats.specs.Record.{pattern_of, signed_of, top_bit, all_ones, words_by, value_bytes, slots_in}
use Rattle.formats.specs.Row.{RowFormat, read_row, write_row, row_bytes, row_in, named_row, read_row_record, row_answer, read_row_into, row_line_answer, write_row_from}
use Rattle.columns.proofs.laws.Bytes.{same_is, same_self}
use Rattle.columns.proofs.laws.Word.{word_length, word_back}
use Rattle.formats.proofs.laws.Record.{bytes_length}
use Rattle.formats.proofs.laws.CubeRecordBack.{size_of, size_bound}
use Rattle.formats.proofs.laws.Row.{row_back, row_size_lem, row_accepted, row_bound}
use Rattle.formats.proofs.laws.RowRecord.{row_bytes_length, numbers_size, chars_size, row_into_read}

-- ---- a number's bytes, read back

pattern_low : (v : ℤ) → SmallSlot (given v) → pattern_of v < 256 ^ 8
pattern_low (pos n) h = omega (arith, h)
pattern_low (negsuc n) h = omega (arith, h)

signed_back : (v : ℤ) → SmallSlot (given v) → signed_of (pattern_of v) ≡ v
signed_back (pos n) h = rw (lt-ltb n top_bit h)
signed_back (negsuc n) h =
    let k : top_bit ≤ all_ones - n = omega (arith, h) in
    let z : all_ones - (all_ones - n) ≡ n = omega (arith, h) in
    rw (le-ltb (all_ones - n) top_bit k, z)

value_small : (x : Slot) → SmallSlot x → SmallSlot (given (value_of x))
value_small missing h = omega arith
value_small (given v) h = h

numbers_back : (ns : List Slot) (fs t : List ℕ) → SmallSlots ns → slots_in (length ns) (flags_of ns ++ fs) (value_bytes (values_of ns) ++ t) ≡ ns
unfolding slots_in words_by
numbers_back [] fs t s = refl
numbers_back (x ∷ ns) fs t s =
    let b : List ℕ = word_bytes 8 (pattern_of (value_of x)) in
    let rest : List ℕ = value_bytes (values_of ns) ++ t in
    let n : length b ≡ 8 = word_length 8 (pattern_of (value_of x)) in
    let w : signed_of (word_of 0 b) ≡ value_of x = ap signed_of (word_back 8 (pattern_of (value_of x)) (pattern_low (value_of x) (value_small x s.0))) ∙ signed_back (value_of x) (value_small x s.0) in
    rw (flags_cons x ns, values_cons x ns, append_assoc, take_at b rest 8 n, drop_at b rest 8 n, w, flag_slot x, numbers_back ns fs t s.1)

-- ---- one encoding

module _ (F : RowFormat) (f : Fits F.columns) where
  pub record WasRecord (r : List ℕ) (m : Rec) : Type 0 where
    pub bytes : take (row_size F.columns) r ≡ row_bytes F m
    pub long : row_size F.columns ≤ length r
    pub numbers : length m.numbers ≡ all_slots F.columns
    pub chars : length m.chars ≡ all_texts F.columns

  -- bytes that are a record of m are the record of m
  pub row_record_one : (r : List ℕ) (m : Rec) → read_row_record F r ≡ ok m → WasRecord r m
  unfolding read_row_record named_row
  row_record_one r m e =
      let s = take (row_size F.columns) r in
      let x = row_in F.columns s in
      let p = passed (ltb (length r) (row_size F.columns)) bad_form 0 (named_row F s) m e in
      let q = held (same_bytes (row_bytes F x) s && whole F.columns (flags_of x.numbers)) bad_form 0 (ok x) m p.1 in
      let n : x ≡ m = cc q.1 in
      let long : row_size F.columns ≤ length r = ltb-false (length r) (row_size F.columns) p.0 in
      rw (← n)
      (record {
        bytes = sym (same_is (row_bytes F x) s (both_true (same_bytes (row_bytes F x) s) (whole F.columns (flags_of x.numbers)) q.0).0);
        long = long;
        numbers = numbers_size F s;
        chars = chars_size F s (length-take-le (row_size F.columns) r long);
      })

  -- ---- a line that was written from some bytes: they are a record, and the line reads back to it

  pub record WrittenRow (r ys : List ℕ) (room : ℕ) : Type 0 where
    pub value : Rec
    pub named : read_row_record F r ≡ ok value
    pub back : read_row F.columns ys ≡ ok value
    pub size : length ys ≡ widths F.columns
    pub fits : widths F.columns ≤ room

  pub row_written : (r ys : List ℕ) (room : ℕ) → write_row_from F r room ≡ ok ys → WrittenRow r ys room
  unfolding write_row_from
  row_written r ys room = by_record (read_row_record F r) refl
    where
      by_record : (a : Answer Rec) → read_row_record F r ≡ a → row_line_answer F.columns a room ≡ ok ys → WrittenRow r ys room
      by_record (ok m) q e =
          let w = row_record_one r m q in
          record {
            value = m;
            named = q;
            back = row_back F.columns f m.numbers m.chars ys room w.numbers w.chars e;
            size = row_size_lem F.columns f m.numbers m.chars ys room w.numbers w.chars e;
            fits = (line_passed F.columns m.numbers m.chars room ys e).0;
          }
      by_record (refusal n k) q e = let z : ◌≡◌ {A = ℕ} 0 1 = cc in let y : ⊥ = omega arith in absurd y

  -- a record that is written reads back to the same bytes
  pub row_from_back : (r ys : List ℕ) (room : ℕ) → write_row_from F r room ≡ ok ys → read_row_into F ys (row_size F.columns) ≡ ok (take (row_size F.columns) r)
  row_from_back r ys room e =
      let p = row_written r ys room e in
      row_into_read F ys (row_size F.columns) (omega arith) ∙ ap (row_answer F) p.back ∙ ap ok (sym (row_record_one r p.value p.named).bytes)

  -- ---- a record that was read, as bytes: they name it, and are a record

  module _ (l : List ℕ) (m : Rec) (e : read_row F.columns l ≡ ok m) where
    named_back : row_in F.columns (row_bytes F m) ≡ m
    named_back =
        let p = row_accepted F.columns f l m e in
        let n = all_slots F.columns in
        let r = row_bytes F m in
        let vb = value_bytes (values_of m.numbers) in
        let z : 1 + n ≡ suc n = omega arith in
        let values_at : drop (1 + n) r ≡ vb ++ m.chars = rw z (drop_at (flags_of m.numbers) (vb ++ m.chars) n (flags_length m.numbers ∙ p.numbers)) in
        let text_at : drop (1 + n + 8 * n) r ≡ m.chars = sym (drop-drop (8 * n) (1 + n) r) ∙ ap (drop (8 * n)) values_at ∙ drop_at vb m.chars (8 * n) (bytes_length (values_of m.numbers) ∙ omega (arith, values_length m.numbers, p.numbers)) in
        let nums : slots_in n (drop 1 r) (drop (1 + n) r) ≡ m.numbers = rw (values_at, ← p.numbers) (numbers_back m.numbers (vb ++ m.chars) m.chars p.kept.small) in
        let txt : take (all_texts F.columns) (drop (1 + n + 8 * n) r) ≡ m.chars = rw text_at (take_all (all_texts F.columns) m.chars (omega (arith, p.chars))) in
        rw (nums, txt)

    pub row_there : read_row_record F (row_bytes F m) ≡ ok m
    unfolding read_row_record named_row
    row_there =
        let p = row_accepted F.columns f l m e in
        let r = row_bytes F m in
        let n : length r ≡ row_size F.columns = row_bytes_length F m p.numbers p.chars in
        rw (le-ltb (length r) (row_size F.columns) (omega arith), take_all (row_size F.columns) r (omega arith))
        (ap (λ (x : Rec). pick (same_bytes (row_bytes F x) r && whole F.columns (flags_of x.numbers)) (ok x) (refusal bad_form 0)) named_back
        ∙ rw (same_self r, p.kept.whole_flags))

    -- and is written as a line again
    pub row_from_there : (room : ℕ) → write_row_from F (row_bytes F m) room ≡ write_row F.columns m room
    unfolding write_row_from
    row_from_there room = rw row_there

  -- ---- the column of a refusal, and the number of bytes written

  as_bytes : (a : Answer Rec) → column_of a ≤ widths F.columns → column_of (row_answer F a) ≤ widths F.columns
  as_bytes (ok m) h = h
  as_bytes (refusal n k) h = h

  pub row_into_bound : (l : List ℕ) (room : ℕ) → column_of (read_row_into F l room) ≤ widths F.columns
  unfolding read_row_into
  row_into_bound l room = pick_bound (widths F.columns) (ltb room (row_size F.columns)) _ _ (omega arith) (as_bytes (read_row F.columns l) (row_bound F.columns f l))

  as_line : (a : Answer Rec) (room : ℕ) → column_of a ≤ 0 → column_of (row_line_answer F.columns a room) ≤ widths F.columns
  as_line (ok m) room h = line_bound F.columns m.numbers m.chars room f.sound.fine
  as_line (refusal n k) room h = omega arith

  pub row_from_bound : (r : List ℕ) (room : ℕ) → column_of (write_row_from F r room) ≤ widths F.columns
  unfolding write_row_from read_row_record named_row
  row_from_bound r room =
      let s = take (row_size F.columns) r in
      as_line (read_row_record F r) room (pick_bound 0 (ltb (length r) (row_size F.columns)) (refusal bad_form 0) (named_row F s) (omega arith) (pick_bound 0 (same_bytes (row_bytes F (row_in F.columns s)) s && whole F.columns (flags_of (row_in F.columns s).numbers)) (ok (row_in F.columns s)) (refusal bad_form 0) (omega arith) (omega arith)))

  pub row_into_size : (l : List ℕ) (room : ℕ) → size_of (read_row_into F l room) ≤ row_size F.columns
  unfolding read_row_into
  row_into_size l room = size_bound (row_size F.columns) (read_row_into F l room) (λ ys e. rw (passed (ltb room (row_size F.columns)) too_short 0 (row_answer F (read_row F.columns l)) ys e).1 at (by_line (read_row F.columns l) refl))
    where
      by_line : (a : Answer Rec) → read_row F.columns l ≡ a → size_of (row_answer F a) ≤ row_size F.columns
      by_line (ok m) e = let s = row_accepted F.columns f l m e in omega (arith, row_bytes_length F m s.numbers s.chars)
      by_line (refusal n k) e = omega arith

  pub row_from_size : (r : List ℕ) (room : ℕ) → size_of (write_row_from F r room) ≤ widths F.columns
  row_from_size r room = size_bound (widths F.columns) (write_row_from F r room) (λ ys e. omega (arith, (row_written r ys room e).size))
