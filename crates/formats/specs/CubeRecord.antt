-- The bytes of a CUBE record, one size for the three kinds. Document 01, its opening: a record crosses in a byte layout, and bytes
-- that are no record get 6, column 0; docs/RECORDS.md.
use Rattle.std.specs.Prelude.{ℕ, ◌+◌, List, ◌∷◌, ◌++◌, length, take, drop, get_or, replicate, eqb, ltb}
use Rattle.columns.specs.Answer.{pick, Answer, ok, refusal, bad_form, unless}
use Rattle.columns.specs.Table.{flags_of, values_of, over}
use Rattle.columns.specs.Writing.{in_place}
use Rattle.formats.specs.Cube.{Message, event, delete, link, event_kind, delete_kind, link_kind, read_line, write_message}
use Rattle.columns.specs.Bytes.{same_bytes}
use Rattle.formats.specs.Record.{packed, slots_in}

-- 268 bytes, zero where the record says nothing
abbrev pub record_size : ℕ
record_size = 268

abbrev pub filled : List ℕ → List ℕ
filled s = over s (replicate 268 0)

-- an event: its kind, its 19 flags, its 19 numbers, its 13 text bytes
-- a delete: its kind, the length of its text, identifier, source and version, its text
-- a link: its kind, the lengths of type, address and text, identifier, source and version, then type, address and text
abbrev pub record_of : Message → List ℕ
record_of (event ns t) = filled (packed event_kind (flags_of ns) (values_of ns) t)
record_of (delete names t) = filled (delete_kind ∷ length t ∷ (names ++ t))
record_of (link names ty ad tx) = filled (link_kind ∷ length ty ∷ length ad ∷ length tx ∷ (names ++ (ty ++ (ad ++ tx))))

-- the message that some bytes name
abbrev pub event_in : List ℕ → Message
event_in r = event (slots_in 19 (drop 1 r) (drop 20 r)) (take 13 (drop 172 r))

abbrev pub delete_in : List ℕ → Message
delete_in r = delete (take 11 (drop 2 r)) (take (get_or r 1 0) (drop 13 r))

abbrev pub link_in : List ℕ → Message
link_in r =
    link (take 12 (drop 4 r)) (take (get_or r 1 0) (drop 16 r)) (take (get_or r 2 0) (drop (16 + get_or r 1 0) r))
    (take (get_or r 3 0) (drop (16 + get_or r 1 0 + get_or r 2 0) r))

abbrev pub message_in : List ℕ → Message
message_in r =
    pick (eqb (get_or r 0 0) event_kind) (event_in r) (pick (eqb (get_or r 0 0) link_kind) (link_in r) (delete_in r))

-- bytes are a record when they are those of the message that they name; else 6 at column 0
unfoldable pub read_record : List ℕ → Answer Message
read_record r =
    unless (ltb (length r) record_size) bad_form 0
    (pick (same_bytes (record_of (message_in (take 268 r))) (take 268 r)) (ok (message_in (take 268 r))) (refusal bad_form 0))

-- ---- a line read into a record: 11 first where the place for it is short, then the line's refusals

abbrev pub record_answer : Answer Message → Answer (List ℕ)
record_answer (ok m) = ok (record_of m)
record_answer (refusal n k) = refusal n k

unfoldable pub read_into : List ℕ → ℕ → Answer (List ℕ)
read_into l room = in_place room record_size (record_answer (read_line l))

-- ---- a line written from a record: 6 where there is none, then as the message is written

abbrev pub line_answer : Answer Message → ℕ → Answer (List ℕ)
line_answer (ok m) room = write_message m room
line_answer (refusal n k) room = refusal n k

unfoldable pub write_from : List ℕ → ℕ → Answer (List ℕ)
write_from r room = line_answer (read_record r) room
