-- Every CUBE record that is written reads back the same, and every record that was read is written.
use mathlib.Core.Path.{◌≡◌, refl, sym, ap, ◌∙◌, subst}
use mathlib.Core.Bool.{true}
use mathlib.Core.List.{List, [], ◌∷◌, ◌++◌}
use Prim.Native.Nat.{ℕ, ◌+◌, ◌≤◌, ◌-◌}
use native.Mathlib.Omega.{arith}
use lib.ListN.{length, take, get_or, length-append, drop, length-drop, take-append-drop}
use lib.Dec.{ltb, eqb}
use borrow.Author.Tests.{eqb-true}
use lib.Seq.{take_at, drop_at, get_or_at, length-take-le, drop-drop, take-add, take-take}
use Rattle.columns.specs.Answer.{Answer, ok, refusal, too_short}
use Rattle.columns.specs.Bytes.{barred}
use Rattle.columns.specs.Column.{Slot}
use Rattle.columns.specs.Writing.{write_columns}
use Rattle.formats.specs.Check.{check_character}
use Rattle.formats.specs.Cube.{event_columns, event, delete, link, sealed, sealed_answer, lowest_barred, read_line, as_event, event_written, delete_line, delete_parts, write_message, Message, read_event, read_delete}
use Rattle.columns.proofs.laws.Columns.{Line, columns_back, columns_more_bytes}
use Rattle.columns.proofs.laws.Stretch.{clean_line, barred_split, barred_cons, line_clean}
use Rattle.columns.proofs.laws.Answers.{passed}
use Rattle.columns.proofs.laws.Tests.{both_true}
use Rattle.formats.proofs.laws.Cube.{line_event, event_columns_lem, event_read_lem, line_delete, delete_read, text_read, Came, by_event, by_delete, by_link, came}
use Rattle.columns.specs.Reading.{read_columns}
use Rattle.columns.proofs.laws.Accepted.{columns_accepted}
use Rattle.formats.proofs.laws.EventColumns.{event_sound}
use Rattle.formats.proofs.laws.CubeWriting.{put_event, put_text_lem, TextPut, text_put}
use Rattle.formats.proofs.laws.LinkBack.{ReadLink, link_read, parts_inside, link_accepted}
use Rattle.formats.proofs.laws.Link.{text_length}

-- ---- what an accepted record says

record Sealed (a : Answer (List ℕ)) (ys : List ℕ) : Type 0 where
  columns : List ℕ
  wrote : a ≡ ok columns
  is : sealed columns ≡ ys

sealed_of : (a : Answer (List ℕ)) (ys : List ℕ) → sealed_answer a ≡ ok ys → Sealed a ys
sealed_of (ok zs) ys e = record { columns = zs; wrote = refl; is = cc }
sealed_of (refusal n k) ys e = let z : ◌≡◌ {A = ℕ} 0 1 = cc in let y : ⊥ = omega arith in absurd y

-- ---- an event

module _ (ns : List Slot) (t zs : List ℕ) (a : length ns ≡ 19) (b : length t ≡ 13) (e : write_columns event_columns [] 2 ns t ≡ ok zs) where
  event_line : Line event_columns [] 2 ns t zs
  event_line =
      columns_back event_columns [] 2 ns t zs event_sound.fine (a ∙ sym event_sound.numbers) (b ∙ sym event_sound.chars) e

  event_width : length zs ≡ 77
  event_width = event_line.size ∙ event_sound.wide

  head_length : length (69 ∷ 32 ∷ zs) ≡ 79
  head_length = omega (arith, event_width)

  head_is : take 79 (sealed zs) ≡ 69 ∷ 32 ∷ zs
  head_is = take_at (69 ∷ 32 ∷ zs) (check_character (69 ∷ 32 ∷ zs) ∷ []) 79 head_length

  event_clear : lowest_barred (take 79 (sealed zs)) ≡ 0
  event_clear =
      ap (barred 3 13 1) head_is
      ∙ barred_cons 3 13 1 69 (32 ∷ zs) refl
      ∙ barred_cons 3 13 2 32 zs refl
      ∙ clean_line 3 13 event_columns 2 zs event_sound.brackets event_line.size event_line.clean

  event_sealed : read_line (sealed zs) ≡ ok (event ns t)
  unfolding read_event
  event_sealed =
      let n : length (sealed zs) ≡ 80 = omega (arith, head_length, length-append (69 ∷ 32 ∷ zs) (check_character (69 ∷ 32 ∷ zs) ∷ [])) in
      let c : get_or (sealed zs) 79 0 ≡ check_character (take 79 (sealed zs)) =
      get_or_at (69 ∷ 32 ∷ zs) (check_character (69 ∷ 32 ∷ zs)) [] 0 79 head_length ∙ ap check_character (sym head_is) in
      line_event (sealed zs) (omega arith) refl refl
      ∙ ap as_event (event_columns_lem (sealed zs) n event_clear c ∙ columns_more_bytes event_columns [] 2 zs (check_character (69 ∷ 32 ∷ zs) ∷ []) (omega (arith, event_width, event_sound.wide)) ∙ event_line.back)

event_wrote : (ns : List Slot) (t ys : List ℕ) (room : ℕ) → write_message (event ns t) room ≡ ok ys → Sealed (write_columns event_columns [] 2 ns t) ys
unfolding write_message
event_wrote ns t ys room e = sealed_of (write_columns event_columns [] 2 ns t) ys (passed (ltb room 80) too_short 0 (event_written ns t) ys e).1

pub event_back : (ns : List Slot) (t ys : List ℕ) (room : ℕ) → length ns ≡ 19 → length t ≡ 13 → write_message (event ns t) room ≡ ok ys → read_line ys ≡ ok (event ns t)
event_back ns t ys room a b e =
    let s = event_wrote ns t ys room e in
    ap read_line (sym s.is) ∙ event_sealed ns t s.columns a b s.wrote

pub event_size : (ns : List Slot) (t ys : List ℕ) (room : ℕ) → length ns ≡ 19 → length t ≡ 13 → write_message (event ns t) room ≡ ok ys → length ys ≡ 80
event_size ns t ys room a b e =
    let s = event_wrote ns t ys room e in
    ap length (sym s.is) ∙ omega (arith, head_length ns t s.columns a b s.wrote, length-append (69 ∷ 32 ∷ s.columns) (check_character (69 ∷ 32 ∷ s.columns) ∷ []))

-- ---- a delete

module _ (names t ys : List ℕ) (room : ℕ) (n : length names ≡ 11) (e : write_message (delete names t) room ≡ ok ys) where
  deleted : TextPut 13 80 13 (delete_line names t) true room ys
  unfolding write_message
  deleted = text_put 13 80 13 (delete_line names t) true room ys e

  pub delete_size : length ys ≡ 13 + length t
  delete_size = ap length (sym deleted.is) ∙ omega (arith, length-append names t)

  pub delete_low_size : length ys ≤ 80
  delete_low_size = let w = deleted in omega (arith, ap length w.is, w.short)

  pub delete_back : read_line ys ≡ ok (delete names t)
  delete_back =
      let w = deleted in
      ap read_line (sym w.is)
      ∙ line_delete (delete_line names t) (omega arith) refl refl
      ∙ delete_read (delete_line names t) w.long w.short w.clear
      ∙ ap ok (rw (take_at names t 11 n, drop_at names t 11 n))

-- ---- what was read is accepted

-- the parts of a message that was read
abbrev pub Sized : Message → Type 0
Sized (event ns t) = (length ns ≡ 19) × (length t ≡ 13)
Sized (delete names t) = (length names ≡ 11) × (length t ≤ 67)
Sized (link names ty ad tx) = (length names ≡ 12) × (length ty + length ad + length tx ≤ 238)

pub record Accepts (m : Message) : Type 0 where
  pub bytes : List ℕ
  pub is : write_message m 255 ≡ ok bytes
  pub sized : Sized m

-- nothing is barred after the type either
pub after_type : (l s : List ℕ) → 2 ≤ length l → take 2 l ++ s ≡ l → lowest_barred l ≡ 0 → barred 3 13 3 s ≡ 0
after_type l s h e b =
    let n : length (take 2 l) ≡ 2 = length-take-le 2 l h in
    let p = (barred_split 3 13 1 (take 2 l) s (omega arith) (ap (barred 3 13 1) e ∙ b)).1 in
    let z : 1 + length (take 2 l) ≡ 3 = omega arith in
    ap (λ (k : ℕ). barred 3 13 k s) (sym z) ∙ p

event_accepted : (l : List ℕ) (m : Message) → read_event l ≡ ok m → Accepts m
event_accepted l m e =
    let w = event_read_lem l m e in
    let n : length l ≡ 80 = w.read.size in
    let k : length (take 77 (drop 2 l)) ≡ 77 = length-take-le 77 (drop 2 l) (omega (arith, length-drop 2 l)) in
    let lt : length (take 79 l) ≡ 79 = length-take-le 79 l (omega arith) in
    let c : take 2 (take 79 l) ++ take 77 (drop 2 l) ≡ take 79 l = ap (λ (x : List ℕ). x ++ take 77 (drop 2 l)) (take-take 2 79 l (omega arith)) ∙ sym (take-add 2 77 l) in
    let b = after_type (take 79 l) (take 77 (drop 2 l)) (omega arith) c w.read.clear in
    let d : read_columns event_columns [] 2 (take 77 (drop 2 l)) ≡ ok w.row =
    sym (columns_more_bytes event_columns [] 2 (take 77 (drop 2 l)) (drop 77 (drop 2 l)) (omega (arith, event_sound.wide))) ∙ ap (read_columns event_columns [] 2) (take-append-drop 77 (drop 2 l)) ∙ w.read.columns in
    let x = columns_accepted event_columns [] 2 (take 77 (drop 2 l)) w.row event_sound.fine (omega (arith, event_sound.wide)) (line_clean 3 13 event_columns 2 (take 77 (drop 2 l)) event_sound.brackets (k ∙ sym event_sound.wide) b) d in
    subst Accepts w.is (record { bytes = sealed x.bytes; is = put_event w.row.numbers w.row.chars 255 (omega arith) x.bytes x.written; sized = (x.numbers ∙ event_sound.numbers, x.chars ∙ event_sound.chars) })

delete_accepted : (l : List ℕ) (m : Message) → read_delete l ≡ ok m → Accepts m
unfolding read_delete write_message
delete_accepted l m e =
    let p = text_read 13 80 13 delete_parts l m e in
    let i : delete (take 11 (drop 2 l)) (drop 13 l) ≡ m = cc p.rest in
    let h : 13 ≤ length l = p.long in
    let k : length l ≤ 80 = p.short in
    let d : drop 11 (drop 2 l) ≡ drop 13 l = drop-drop 11 2 l in
    let b = after_type l (drop 2 l) (omega arith) (take-append-drop 2 l) p.clear in
    let n : length (drop 2 l) ≡ length l - 2 = length-drop 2 l in
    let j : take 11 (drop 2 l) ++ drop 13 l ≡ drop 2 l = ap (λ (x : List ℕ). take 11 (drop 2 l) ++ x) (sym d) ∙ take-append-drop 11 (drop 2 l) in
    let t : length (drop 13 l) ≡ length l - 13 = length-drop 13 l in
    let s : length (delete_line (take 11 (drop 2 l)) (drop 13 l)) ≡ length l = omega (arith, ap length j) in
    let c : lowest_barred (delete_line (take 11 (drop 2 l)) (drop 13 l)) ≡ 0 = barred_cons 3 13 1 68 _ refl ∙ barred_cons 3 13 2 69 _ refl ∙ ap (barred 3 13 3) j ∙ b in
    let w = put_text_lem 13 80 13 (delete_line (take 11 (drop 2 l)) (drop 13 l)) true 255 (omega arith) (omega arith) (omega arith) c refl in
    subst Accepts i (record { bytes = delete_line (take 11 (drop 2 l)) (drop 13 l); is = w; sized = (length-take-le 11 (drop 2 l) (omega arith), omega arith) })

link_sized : (l : List ℕ) {m : Message} → ReadLink l m → Sized m
link_sized l w =
    subst Sized w.is
    (length-take-le 12 (drop 2 l) (omega (arith, length-drop 2 l, w.long)), omega (arith, parts_inside l w, text_length l, w.short))

by_type : (l : List ℕ) (m : Message) → Came l m → Accepts m
by_type l m (by_event t e) = event_accepted l m e
by_type l m (by_delete e) = delete_accepted l m e
by_type l m (by_link t e) =
    let w = link_read l m e in
    let p = both_true (eqb (get_or l 0 0) 76) (eqb (get_or l 1 0) 73) t in
    record { bytes = l; is = link_accepted l w (eqb-true (get_or l 0 0) 76 p.0) (eqb-true (get_or l 1 0) 73 p.1) 255 w.short; sized = link_sized l w }

pub line_accepted : (l : List ℕ) (m : Message) → read_line l ≡ ok m → Accepts m
line_accepted l m e = by_type l m (came l m e)
