-- What a CUBE record's bytes keep: one encoding for each record, what is written reads back to the same bytes, and the
-- column of a refusal is one of the line's.
use Rattle.columns.specs.declared.Reason.{Reason}
use mathlib.Core.Path.{◌≡◌, refl, sym, ap, ◌∙◌, subst}
use mathlib.Core.Bool.{Bool, true, false, ◌&&◌}
use mathlib.Core.List.{List, []}
use Prim.Native.Nat.{ℕ, ◌≤◌}
use native.Mathlib.Omega.{arith}
use lib.ListN.{length, take, drop, get_or, length-drop, length-take}
use lib.Dec.{eqb, ltb}
use lib.Seq.{length-take-le}
use borrow.Author.Tests.{ltb-false}
use Rattle.columns.specs.Answer.{pick, Answer, ok, refusal, bad_form, too_short, barred_byte, wrong_length, unless, differs}
use Rattle.columns.specs.Bytes.{same_bytes}
use Rattle.columns.specs.Column.{Rec}
use Rattle.columns.specs.Reading.{read_columns}
use Rattle.columns.specs.Writing.{write_columns}
use Rattle.columns.proofs.laws.Answers.{passed, held}
use Rattle.columns.proofs.laws.Bounds.{column_of, pick_bound, barred_bound, read_bound, write_bound}
use Rattle.formats.specs.Check.{check_character}
use Rattle.formats.specs.Link.{type_of, address_of, text_of, formed}
use Rattle.formats.specs.Cube.{Message, event, delete, link, event_columns, as_event, barred_to, lowest_barred, read_text, delete_parts, link_parts, is_type, event_row, read_event, read_delete, read_link, read_line, sealed_answer, delete_line, link_line, put_text, write_message}
use Rattle.formats.specs.CubeRecord.{record_size, record_of, event_in, delete_in, link_in, message_in, read_record, record_answer, read_into, line_answer, write_from}
use Rattle.columns.proofs.laws.Bytes.{same_is}
use Rattle.formats.proofs.laws.Record.{numbers_length}
use Rattle.formats.proofs.laws.EventColumns.{event_sound}
use Rattle.formats.proofs.laws.CubeBack.{event_back, delete_back, line_accepted, event_size, delete_low_size}
use Rattle.formats.proofs.laws.LinkBack.{link_back, link_low_size}
use Rattle.formats.proofs.laws.CubeRecord.{into_read, record_size_lem}

-- ---- one encoding

pub record Was (r : List ℕ) (m : Message) : Type 0 where
  pub bytes : take 268 r ≡ record_of m
  pub named : message_in (take 268 r) ≡ m
  pub long : 268 ≤ length r

-- bytes that are a record of m are the record of m
pub record_one : (r : List ℕ) (m : Message) → read_record r ≡ ok m → Was r m
unfolding read_record
record_one r m e =
    let p = passed (ltb (length r) record_size) bad_form 0 (pick (same_bytes (record_of (message_in (take 268 r))) (take 268 r)) (ok (message_in (take 268 r))) (refusal bad_form 0)) m e in
    let q = held (same_bytes (record_of (message_in (take 268 r))) (take 268 r)) bad_form 0 (ok (message_in (take 268 r))) m p.1 in
    let n : message_in (take 268 r) ≡ m = cc q.1 in
    record { bytes = sym (same_is (record_of (message_in (take 268 r))) (take 268 r) q.0) ∙ ap record_of n; named = n; long = ltb-false (length r) 268 p.0 }

-- ---- what is written reads back

-- the message that 268 bytes name has parts of the right sizes
abbrev Parts : Message → Type 0
Parts (event ns t) = (length ns ≡ 19) × (length t ≡ 13)
Parts (delete names t) = length names ≡ 11
Parts (link names ty ad tx) = length names ≡ 12

named_parts : (r : List ℕ) → length r ≡ 268 → (k j : Bool) → Parts (pick k (event_in r) (pick j (link_in r) (delete_in r)))
named_parts r h true j = (numbers_length 19 (drop 1 r) (drop 20 r), length-take-le 13 (drop 172 r) (omega (arith, length-drop 172 r)))
named_parts r h false true = length-take-le 12 (drop 4 r) (omega (arith, length-drop 4 r))
named_parts r h false false = length-take-le 11 (drop 2 r) (omega (arith, length-drop 2 r))

message_back : (m : Message) (ys : List ℕ) (room : ℕ) → Parts m → write_message m room ≡ ok ys → (read_line ys ≡ ok m) × (length ys ≤ 255)
message_back (event ns t) ys room p e = (event_back ns t ys room p.0 p.1 e, omega (arith, event_size ns t ys room p.0 p.1 e))
message_back (delete names t) ys room p e = (delete_back names t ys room p e, omega (arith, delete_low_size names t ys room p e))
message_back (link names ty ad tx) ys room p e = (link_back names ty ad tx ys room p e, link_low_size names ty ad tx ys room p e)

record Through (a : Answer Message) (room : ℕ) (ys : List ℕ) : Type 0 where
  value : Message
  is : a ≡ ok value
  wrote : write_message value room ≡ ok ys

through : (a : Answer Message) (room : ℕ) (ys : List ℕ) → line_answer a room ≡ ok ys → Through a room ys
through (ok m) room ys e = record { value = m; is = refl; wrote = e }
through (refusal n k) room ys e = let z : ◌≡◌ {A = ℕ} 0 1 = cc in let y : ⊥ = omega arith in absurd y

written_back : (r ys : List ℕ) (room : ℕ) → write_from r room ≡ ok ys → (read_into ys 268 ≡ ok (take 268 r)) × (length ys ≤ 255)
unfolding write_from
written_back r ys room e =
    let t = through (read_record r) room ys e in
    let w = record_one r t.value t.is in
    let p = subst Parts w.named (named_parts (take 268 r) (length-take-le 268 r w.long) (eqb (get_or (take 268 r) 0 0) 1) (eqb (get_or (take 268 r) 0 0) 4)) in
    let b = message_back t.value ys room p t.wrote in
    (into_read ys 268 (omega arith) ∙ ap record_answer b.0 ∙ ap ok (sym w.bytes), b.1)

-- a record that is written reads back to the same bytes
pub from_back : (r ys : List ℕ) (room : ℕ) → write_from r room ≡ ok ys → read_into ys 268 ≡ ok (take 268 r)
from_back r ys room e = (written_back r ys room e).0

-- ---- the column of a refusal

event_bound : (l : List ℕ) → column_of (read_event l) ≤ 80
unfolding read_event event_row
event_bound l =
    let b : lowest_barred (take 79 l) ≤ 80 = omega (arith, barred_bound 3 13 0 (take 79 l), length-take 79 l) in
    let c : column_of (read_columns event_columns [] 2 (drop 2 l)) ≤ 80 = omega (arith, read_bound event_columns [] 2 (drop 2 l) event_sound.fine, event_sound.wide) in
    as_event_lem (event_row l)
    (pick_bound 80 (differs (length l) 80) _ _ (omega arith)
    (pick_bound 80 (differs (lowest_barred (take 79 l)) 0) _ _ b (pick_bound 80 (differs (get_or l 79 0) (check_character (take 79 l))) _ _ (omega arith) c)))
  where
    as_event_lem : (a : Answer Rec) → column_of a ≤ 80 → column_of (as_event a) ≤ 80
    as_event_lem (ok r) h = h
    as_event_lem (refusal n k) h = h

-- a test on a length, before what holds of bytes within the limit
limit_case : {A : Type 0} (m most : ℕ) (t : Bool) (s : List ℕ) (x : Answer A) → ltb most (length s) ≡ t → (length s ≤ most → column_of x ≤ m) → column_of (unless t wrong_length 0 x) ≤ m
limit_case m most true s x e f = omega arith
limit_case m most false s x e f = f (ltb-false most (length s) e)

text_bound : {A : Type 0} (low high last : ℕ) (parts : List ℕ → Answer A) (l : List ℕ) → column_of (parts l) ≤ high → column_of (read_text low high last parts l) ≤ high
text_bound low high last parts l b =
    pick_bound high (ltb (length l) low) _ _ (omega arith)
    (limit_case high high (ltb high (length l)) l _ refl
    (λ h. pick_bound high (differs (barred_to last l) 0) (refusal barred_byte (barred_to last l)) (parts l) (omega (arith, barred_bound 3 last 0 l)) b))

link_bound : (l : List ℕ) → column_of (link_parts l) ≤ 255
unfolding link_parts
link_bound l = pick_bound 255 (eqb (get_or l 14 0) 32 && formed (type_of l) (address_of l) (text_of l)) _ _ (omega arith) (omega arith)

pub line_bound : (l : List ℕ) → column_of (read_line l) ≤ 255
unfolding read_line read_delete read_link
line_bound l =
    pick_bound 255 (ltb (length l) 2) _ _ (omega arith)
    (pick_bound 255 (is_type 69 32 l) _ _ (omega (arith, event_bound l))
    (pick_bound 255 (is_type 68 69 l) _ _ (omega (arith, text_bound 13 80 13 delete_parts l (omega arith))) (pick_bound 255 (is_type 76 73 l) _ _ (text_bound 20 255 14 link_parts l (link_bound l)) (omega arith))))

as_record : (a : Answer Message) → column_of a ≤ 255 → column_of (record_answer a) ≤ 255
as_record (ok m) h = h
as_record (refusal n k) h = h

pub into_bound : (l : List ℕ) (room : ℕ) → column_of (read_into l room) ≤ 255
unfolding read_into
into_bound l room = pick_bound 255 (ltb room record_size) _ _ (omega arith) (as_record (read_line l) (line_bound l))

as_sealed : (a : Answer (List ℕ)) → column_of a ≤ 255 → column_of (sealed_answer a) ≤ 255
as_sealed (ok ys) h = h
as_sealed (refusal n k) h = h

put_bound : (low last : ℕ) (l : List ℕ) (f : Bool) (room high : ℕ) → 15 ≤ high → column_of (put_text low high last l f room) ≤ high
unfolding put_text
put_bound low last l f room high m =
    pick_bound high (ltb (length l) low) _ _ (omega arith)
    (limit_case high high (ltb high (length l)) l _ refl
    (λ h. pick_bound high (ltb room (length l)) _ _ (omega arith)
    (pick_bound high (differs (barred_to last l) 0) (refusal barred_byte (barred_to last l)) _ (omega (arith, barred_bound 3 last 0 l)) (pick_bound high f (ok l) (refusal bad_form 15) (omega arith) m))))

message_bound : (m : Message) (room : ℕ) → column_of (write_message m room) ≤ 255
unfolding write_message
message_bound (event ns t) room =
    pick_bound 255 (ltb room 80) _ _ (omega arith) (as_sealed (write_columns event_columns [] 2 ns t) (omega (arith, write_bound event_columns [] 2 ns t event_sound.fine, event_sound.wide)))
message_bound (delete names t) room = omega (arith, put_bound 13 13 (delete_line names t) true room 80 (omega arith))
message_bound (link names ty ad tx) room = put_bound 20 14 (link_line names ty ad tx) (formed ty ad tx) room 255 (omega arith)

-- bytes that are no record are refused at column 0
none_case : (t u : Bool) (m : Message) (n : Reason) (k : ℕ) → unless t bad_form 0 (pick u (ok m) (refusal bad_form 0)) ≡ refusal n k → k ≡ 0
none_case true u m n k e = cc
none_case false true m n k e = let z : ◌≡◌ {A = ℕ} 0 1 = cc in let y : ⊥ = omega arith in absurd y
none_case false false m n k e = cc

none_bound : (r : List ℕ) (n : Reason) (k : ℕ) → read_record r ≡ refusal n k → k ≤ 255
unfolding read_record
none_bound r n k e = omega (arith, none_case (ltb (length r) record_size) (same_bytes (record_of (message_in (take 268 r))) (take 268 r)) (message_in (take 268 r)) n k e)

pub from_bound : (r : List ℕ) (room : ℕ) → column_of (write_from r room) ≤ 255
unfolding write_from
from_bound r room = by_record (read_record r) refl
  where
    by_record : (a : Answer Message) → read_record r ≡ a → column_of (line_answer a room) ≤ 255
    by_record (ok m) e = message_bound m room
    by_record (refusal n k) e = none_bound r n k e

-- ---- the number of bytes written

-- the bytes written, where there are some
abbrev pub size_of : Answer (List ℕ) → ℕ
size_of (ok ys) = length ys
size_of (refusal n k) = 0

pub size_bound : (m : ℕ) (a : Answer (List ℕ)) → ((ys : List ℕ) → a ≡ ok ys → length ys ≤ m) → size_of a ≤ m
size_bound m (ok ys) f = f ys refl
size_bound m (refusal n k) f = omega arith

pub into_size : (l : List ℕ) (room : ℕ) → size_of (read_into l room) ≤ 268
unfolding read_into
into_size l room = by_test (ltb room record_size)
  where
    by_line : (a : Answer Message) → read_line l ≡ a → size_of (record_answer a) ≤ 268
    by_line (ok m) e = omega (arith, record_size_lem m (line_accepted l m e).sized)
    by_line (refusal n k) e = omega arith

    by_test : (t : Bool) → size_of (unless t too_short 0 (record_answer (read_line l))) ≤ 268
    by_test true = omega arith
    by_test false = by_line (read_line l) refl

pub from_size : (r : List ℕ) (room : ℕ) → size_of (write_from r room) ≤ 255
from_size r room = size_bound 255 (write_from r room) (λ ys e. (written_back r ys room e).1)
