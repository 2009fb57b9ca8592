-- Each answer of a CUBE record that is written, as the code comes to it, and the bytes of its line.
use Rattle.std.specs.Prelude.{Ok, Err}
use Rattle.columns.specs.declared.Reason.{Reason}
use Rattle.columns.specs.declared.Refusal.{Refusal}
use mathlib.Core.Path.{◌≡◌, refl, ap, ◌∙◌}
use mathlib.Core.Bool.{Bool, true, false}
use mathlib.Core.List.{List, [], ◌∷◌, ◌++◌}
use Prim.Native.Nat.{ℕ, ◌+◌, ◌≤◌, ◌<◌}
use native.Mathlib.Omega.{arith}
use lib.ListN.{length, take, set, replicate, length-append, length-set}
use lib.Dec.{ltb}
use borrow.Author.Tests.{le-ltb, lt-ltb, ltb-false}
use lib.Seq.{take_at, set_at}
use Rattle.columns.specs.Answer.{pick, ok, refusal, unless, differs, barred_byte, bad_form, too_short, wrong_length}
use Rattle.columns.specs.Column.{Slot}
use Rattle.columns.specs.Writing.{write_columns, write_part, in_place}
use Rattle.columns.specs.Table.{over, placed, Wrote, WrotePart}
use Rattle.formats.specs.Check.{check_character}
use Rattle.formats.specs.Cube.{event_columns, event, delete_line, sealed, barred_to, text_written, put_text, write_message}
use Rattle.columns.proofs.laws.Places.{set_placed, placed_placed, placed_split, part_over}
use Rattle.columns.proofs.laws.Answers.{passed, held, wrote_refused, wrote_whole, refused_of, done_of, differs_not, differs_same}
use Rattle.columns.proofs.laws.Columns.{columns_size}
use Rattle.columns.proofs.laws.Writer.{part_wrote}
use Rattle.formats.proofs.laws.EventColumns.{event_sound}

-- ---- a DE or an LI line

module _ (low high last : ℕ) (l : List ℕ) (f : Bool) (room : ℕ) where
  pub put_text_lem : low ≤ length l → length l ≤ high → length l ≤ room → barred_to last l ≡ 0 → f ≡ true → put_text low high last l f room ≡ ok l
  unfolding put_text
  put_text_lem h k r b e = rw (le-ltb _ _ h, le-ltb _ _ k, le-ltb _ _ r, differs_not (barred_to last l) 0 b, e)

  pub put_long : high < length l → put_text low high last l f room ≡ refusal wrong_length 0
  unfolding put_text
  put_long h = rw (lt-ltb _ _ h) (by_test (ltb (length l) low))
    where
      by_test : (t : Bool) → unless {A = List ℕ} t wrong_length 0 (refusal wrong_length 0) ≡ refusal wrong_length 0
      by_test true = refl
      by_test false = refl

  -- what a line that is written says
  pub record TextPut (ys : List ℕ) : Type 0 where
    pub long : low ≤ length l
    pub short : length l ≤ high
    pub clear : barred_to last l ≡ 0
    pub parts : f ≡ true
    pub is : l ≡ ys

  pub text_put : (ys : List ℕ) → put_text low high last l f room ≡ ok ys → TextPut ys
  unfolding put_text
  text_put ys e =
      let written = text_written last l f in
      let p = passed (ltb (length l) low) wrong_length 0 (unless (ltb high (length l)) wrong_length 0 (in_place room (length l) written)) ys e in
      let q = passed (ltb high (length l)) wrong_length 0 (in_place room (length l) written) ys p.1 in
      let r = passed (ltb room (length l)) too_short 0 written ys q.1 in
      let s = passed (differs (barred_to last l) 0) barred_byte (barred_to last l) (pick f (ok l) (refusal bad_form 15)) ys r.1 in
      let t = held f bad_form 15 (ok l) ys s.1 in
      record {
        long = ltb-false (length l) low p.0;
        short = ltb-false high (length l) q.0;
        clear = differs_same (barred_to last l) 0 s.0;
        parts = t.0;
        is = cc t.1;
      }

pub two_placed : (l : List ℕ) (a b : ℕ) → 2 ≤ length l → set (set l 0 a) 1 b ≡ placed 0 (a ∷ b ∷ []) l
two_placed l a b h =
    set_placed 1 (set l 0 a) b (omega (arith, length-set l 0 a))
    ∙ ap (placed 1 (b ∷ [])) (set_placed 0 l a (omega arith))
    ∙ placed_placed 0 1 (a ∷ []) (b ∷ []) l refl (omega arith)

-- the type, the names and the text, one after the other
pub delete_laid : (names t : List ℕ) → length names ≡ 11 → length t ≤ 67 → placed 13 t (placed 2 names (set (set (replicate 80 0) 0 68) 1 69)) ≡ over (delete_line names t) (replicate 80 0)
delete_laid names t n h =
    part_over (68 ∷ 69 ∷ names) t (replicate 80 0) _ 13 (part_over (68 ∷ 69 ∷ []) names (replicate 80 0) _ 2 (two_placed (replicate 80 0) 68 69 (omega arith)) refl (omega arith)) (omega arith) (omega arith)

pub delete_taken : (names t line : List ℕ) (n : ℕ) → length names ≡ 11 → n ≡ 13 + length t → line ≡ over (delete_line names t) (replicate 80 0) → take n line ≡ delete_line names t
delete_taken names t line n k e q = ap (take n) q ∙ take_at (delete_line names t) _ n (omega (arith, length-append names t))

-- ---- an event, whose columns stand after its type and before its check character

module _ (ns : List Slot) (t : List ℕ) (room : ℕ) where
  pub put_event_short : room < 80 → write_message (event ns t) room ≡ refusal too_short 0
  unfolding write_message
  put_event_short h = rw (lt-ltb _ _ h)

  module _ (h : 80 ≤ room) where
    pub put_event_refused : (m : Reason) (j : ℕ) → write_columns event_columns [] 2 ns t ≡ refusal m j → write_message (event ns t) room ≡ refusal m j
    unfolding write_message
    put_event_refused m j e = rw (le-ltb _ _ h, e)

    pub put_event : (ys : List ℕ) → write_columns event_columns [] 2 ns t ≡ ok ys → write_message (event ns t) room ≡ ok (sealed ys)
    unfolding write_message
    put_event ys e = rw (le-ltb _ _ h, e)

-- the line before its columns are written
abbrev pub blank_event : List ℕ
blank_event = set (replicate 80 32) 0 69

-- what was written, with the check character that the code found
pub sealed_line : (ys line : List ℕ) (c : ℕ) → length ys ≡ 77 → line ≡ placed 2 ys blank_event → c ≡ check_character (take 79 line) → set line 79 c ≡ sealed ys
sealed_line ys line c n e q =
    let p : length (69 ∷ 32 ∷ ys) ≡ 79 = omega arith in
    let z : 79 ≡ 2 + length ys = omega arith in
    let a : line ≡ (69 ∷ 32 ∷ ys) ++ 32 ∷ [] = e ∙ placed_split 2 79 ys blank_event z in
    let b : take 79 line ≡ 69 ∷ 32 ∷ ys = ap (take 79) a ∙ take_at (69 ∷ 32 ∷ ys) (32 ∷ []) 79 p in
    ap (λ (x : List ℕ). set x 79 c) a ∙ set_at (69 ∷ 32 ∷ ys) 32 [] c 79 p ∙ ap (λ (x : ℕ). (69 ∷ 32 ∷ ys) ++ x ∷ []) (q ∙ ap check_character b)

module _ (ns : List Slot) (t from : List ℕ) (h : 80 ≤ length from) {line : List ℕ} where
  pub event_refused : (e : Refusal) → WrotePart (write_columns event_columns [] 2 ns t) (write_part event_columns [] 2 ns t) 2 (Err e) blank_event line → Wrote (write_message (event ns t) (length from)) (Err e) from from
  event_refused e p =
      wrote_refused _ from e.reason e.column (put_event_refused ns t (length from) h e.reason e.column (refused_of (write_columns event_columns [] 2 ns t) e p.answer))

  pub event_done : (to : List ℕ) (c : ℕ) → length ns ≡ 19 → length t ≡ 13 → WrotePart (write_columns event_columns [] 2 ns t) (write_part event_columns [] 2 ns t) 2 (Ok tt) blank_event line → c ≡ check_character (take 79 line) → to ≡ over (set line 79 c) from → Wrote (write_message (event ns t) (length from)) (Ok tt) from to
  event_done to c a b p k q =
      let d = done_of (write_columns event_columns [] 2 ns t) p.answer in
      let v : length d.value ≡ 77 = columns_size event_columns [] 2 ns t d.value event_sound.fine (omega (arith, a, event_sound.numbers)) (omega (arith, b, event_sound.chars)) d.is ∙ event_sound.wide in
      let u : line ≡ placed 2 d.value blank_event = p.bytes ∙ ap (λ (x : List ℕ). placed 2 x blank_event) (part_wrote event_columns [] 2 ns t d.value d.is) in
      let s : set line 79 c ≡ sealed d.value = sealed_line d.value line c v u k in
      wrote_whole (put_event ns t (length from) h d.value d.is) (q ∙ ap (λ (x : List ℕ). over x from) s)
