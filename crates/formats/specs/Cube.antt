-- CUBE lines: E, DE and LI messages, as they are read and written. Document 01, "The E line", "The DE line"; document 02,
-- "Take the links".
use Rattle.std.specs.Prelude.{ℕ, ◌+◌, ◌≡◌, List, [], ◌∷◌, ◌++◌, Bool, true, ◌&&◌, ℤ, length, take, drop, get_or, eqb, ltb, Result, Ok, Err}
use Rattle.columns.specs.Answer.{pick, Answer, ok, refusal, refusal_at, unless, differs, wrong_length, barred_byte, bad_form}
use Rattle.columns.specs.Bytes.{barred}
use Rattle.columns.specs.Column.{Slot, Rec, Col, integer, text, as_held, not_negative, calendar_day, required, optional, no_brackets, any_text}
use Rattle.columns.specs.Reading.{read_columns, read_part, nothing}
use Rattle.columns.specs.Writing.{write_columns, in_place}
use Rattle.columns.specs.Table.{flags_of, values_of, over}
use Rattle.formats.specs.Ranges.{year_range, month_range, hour_range, minute_range, second_range, latitude_range, longitude_range}
use Rattle.formats.specs.Check.{check_character}
use Rattle.formats.specs.Link.{type_of, address_of, text_of, formed}
use Rattle.columns.specs.declared.Reason.{Reason}
use Rattle.columns.specs.declared.Reason.TheVariants as Why
use Rattle.columns.specs.declared.Refusal.{Refusal}
use Rattle.formats.specs.declared.cube.Parts.{Parts}
use Rattle.formats.specs.declared.cube.Parts.TheVariants as P

abbrev pub wrong_type : Reason
wrong_type = Why.Type

abbrev pub wrong_check : Reason
wrong_check = Why.Check

-- the columns of an E line after its type, 3 to 79
abbrev pub event_columns : List Col
event_columns =
    -- 3-10 identifier, 11-12 source, 13 version
    text 8 no_brackets
    ∷ text 2 no_brackets
    ∷ text 1 no_brackets
    -- 14-17 year, 18-19 month, 20-21 day, which the calendar has (document 02, Wish 3)
    ∷ integer 4 required year_range
    ∷ integer 2 required month_range
    ∷ integer 2 required calendar_day
    -- 22-23 hour, 24-25 minute, 26-28 second x 10
    ∷ integer 2 required hour_range
    ∷ integer 2 required minute_range
    ∷ integer 3 required second_range
    -- 29-35 latitude x 10000, 36-43 longitude x 10000
    ∷ integer 7 required latitude_range
    ∷ integer 8 required longitude_range
    -- 44-47 depth, km x 10, 48-49 magnitude x 10: as the column holds
    ∷ integer 4 optional as_held
    ∷ integer 2 optional as_held
    -- 50-52 stations, 53-55 phases, 56-59 nearest station, km x 10: later numbers are not negative
    ∷ integer 3 optional not_negative
    ∷ integer 3 optional not_negative
    ∷ integer 4 optional not_negative
    -- 60-63 rms, s x 100, 64-67 horizontal error, 68-71 vertical error, km x 10
    ∷ integer 4 optional not_negative
    ∷ integer 4 optional not_negative
    ∷ integer 4 optional not_negative
    -- 72-73 gap, percent, 74 magnitude letter
    ∷ integer 2 optional not_negative
    ∷ text 1 any_text
    -- 75-76 magnitude stations, 77-78 magnitude error x 10, 79 method
    ∷ integer 2 optional not_negative
    ∷ integer 2 optional not_negative
    ∷ text 1 any_text
    ∷ []

-- a message: an event's 19 numbers and its 13 text bytes (identifier, source, version, magnitude letter, method); a delete's
-- identifier, source and version, 11 bytes, and its free text; or a link's identifier, source and version, 12 bytes, and its
-- type, address and text
pub data Message : Type 0 where
  event : List Slot → List ℕ → Message
  delete : List ℕ → List ℕ → Message
  link : List ℕ → List ℕ → List ℕ → List ℕ → Message

-- ---- read: under 2 bytes 1; type 3; length 1; lowest barred byte 2; check 9; fields left to right

abbrev pub as_event : Answer Rec → Answer Message
as_event (ok r) = ok (event r.numbers r.chars)
as_event (refusal n k) = refusal n k

-- a line of `low` to `high` bytes, else 1
abbrev pub of_length : {A : Type 0} → ℕ → ℕ → List ℕ → Answer A → Answer A
of_length low high l o =
    unless (ltb (length l) low) wrong_length 0 (unless (ltb high (length l)) wrong_length 0 o)

-- the lowest barred byte, brackets barred in columns 3 to `last`
abbrev pub barred_to : ℕ → List ℕ → ℕ
barred_to last l = barred 3 last 1 l

-- no barred byte, else 2 at the lowest
abbrev pub clear_to : {A : Type 0} → ℕ → List ℕ → Answer A → Answer A
clear_to last l o = unless (differs (barred_to last l) 0) barred_byte (barred_to last l) o

-- brackets are barred in identifier, source and version: a link's version has two bytes
abbrev pub lowest_barred : List ℕ → ℕ
lowest_barred l = barred_to 13 l

abbrev pub link_barred : List ℕ → ℕ
link_barred l = barred_to 14 l

-- an E line: 80 bytes, the check character in column 80 over the 79 before it
unfoldable pub event_row : List ℕ → Answer Rec
event_row l =
    unless (differs (length l) 80) wrong_length 0
    (clear_to 13 (take 79 l)
    (unless (differs (get_or l 79 0) (check_character (take 79 l))) wrong_check 80 (read_columns event_columns [] 2 (drop 2 l))))

unfoldable pub read_event : List ℕ → Answer Message
read_event l = as_event (event_row l)

-- a DE or an LI line: its length, its lowest barred byte, then its parts
abbrev pub read_text : {A : Type 0} → ℕ → ℕ → ℕ → (List ℕ → Answer A) → List ℕ → Answer A
read_text low high last parts l = of_length low high l (clear_to last l (parts l))

-- the parts of a DE line, free text from column 14 on
abbrev pub delete_of : List ℕ → Message
delete_of l = delete (take 11 (drop 2 l)) (drop 13 l)

abbrev pub delete_parts : List ℕ → Answer Message
delete_parts l = ok (delete_of l)

-- a DE line: 13 to 80 bytes
unfoldable pub read_delete : List ℕ → Answer Message
read_delete l = read_text 13 80 13 delete_parts l

-- the parts of an LI line, or 6 at column 15 where they are malformed
unfoldable pub link_parts : List ℕ → Answer Message
link_parts l =
    pick (eqb (get_or l 14 0) 32 && formed (type_of l) (address_of l) (text_of l))
    (ok (link (take 12 (drop 2 l)) (type_of l) (address_of l) (text_of l))) (refusal bad_form 15)

-- the same by the lengths of type and address, a blank after each
abbrev pub link_of : List ℕ → ℕ → ℕ → Message
link_of l t d = link (take 12 (drop 2 l)) (take t (drop 15 l)) (take d (drop (16 + t) l)) (drop (17 + t + d) l)

-- an LI line: 20 to 255 bytes, a version of two bytes, a blank in column 15, then the parts
unfoldable pub read_link : List ℕ → Answer Message
read_link l = read_text 20 255 14 link_parts l

abbrev pub is_type : ℕ → ℕ → List ℕ → Bool
is_type a b l = eqb (get_or l 0 0) a && eqb (get_or l 1 0) b

-- `E ` is an event, `DE` a delete, `LI` a link, any other type 3
unfoldable pub read_line : List ℕ → Answer Message
read_line l =
    unless (ltb (length l) 2) wrong_length 0
    (pick (is_type 69 32 l) (read_event l)
    (pick (is_type 68 69 l) (read_delete l) (pick (is_type 76 73 l) (read_link l) (refusal wrong_type 1))))

-- ---- what the code answers for a line: the lengths of its parts, or the refusal

-- the kinds of record, as docs/RECORDS.md numbers them
abbrev pub event_kind : ℕ
event_kind = 1

abbrev pub delete_kind : ℕ
delete_kind = 2

abbrev pub link_kind : ℕ
link_kind = 4

abbrev pub line_read : Answer Message → Result Parts Refusal
line_read (ok (event ns t)) = Ok P.Event
line_read (ok (delete names t)) = Ok (P.Delete (length t))
line_read (ok (link names ty ad tx)) = Ok (P.Link (length ty) (length ad) (length tx))
line_read (refusal n k) = Err (refusal_at n k)

-- what stands in the arrays lent for an event's record: where a column is refused, those before it
abbrev pub event_part : List ℕ → Rec
event_part l =
    pick (differs (length l) 80) nothing
    (pick (differs (lowest_barred (take 79 l)) 0) nothing
    (pick (differs (get_or l 79 0) (check_character (take 79 l))) nothing (read_part event_columns [] 2 (drop 2 l))))

abbrev pub line_part : List ℕ → Rec
line_part l = pick (is_type 69 32 l) (event_part l) nothing

-- the outcome, and the lent arrays: the numbers and the text over their first places
pub record LineRead (a : Answer Message) (part : Rec) (r : Result Parts Refusal) (f f₁ : List ℕ) (v v₁ : List ℤ) (t t₁ : List ℕ) : Type 0 where
  pub answer : r ≡ line_read a
  pub flags : f₁ ≡ over (flags_of part.numbers) f
  pub values : v₁ ≡ over (values_of part.numbers) v
  pub chars : t₁ ≡ over part.chars t

-- ---- what is written, whatever the place for it: fields left to right

-- the type before the columns of an E line, and the check character after them
abbrev pub sealed : List ℕ → List ℕ
sealed ys = (69 ∷ 32 ∷ ys) ++ check_character (69 ∷ 32 ∷ ys) ∷ []

abbrev pub sealed_answer : Answer (List ℕ) → Answer (List ℕ)
sealed_answer (ok ys) = ok (sealed ys)
sealed_answer (refusal n k) = refusal n k

abbrev pub event_written : List Slot → List ℕ → Answer (List ℕ)
event_written ns t = sealed_answer (write_columns event_columns [] 2 ns t)

abbrev pub delete_line : List ℕ → List ℕ → List ℕ
delete_line names t = 68 ∷ 69 ∷ (names ++ t)

abbrev pub link_line : List ℕ → List ℕ → List ℕ → List ℕ → List ℕ
link_line names ty ad tx = 76 ∷ 73 ∷ (names ++ (32 ∷ ty ++ (32 ∷ ad ++ (32 ∷ tx))))

-- a DE or an LI line, and whether its parts are well formed: 2 in every column comes before 6 at column 15
abbrev pub text_written : ℕ → List ℕ → Bool → Answer (List ℕ)
text_written last l f = clear_to last l (pick f (ok l) (refusal bad_form 15))

-- ---- written into a place: 1 for a DE line outside 13 to 80 bytes or an LI line outside 20 to 255; 11; then what is written

unfoldable pub put_text : ℕ → ℕ → ℕ → List ℕ → Bool → ℕ → Answer (List ℕ)
put_text low high last l f room = of_length low high l (in_place room (length l) (text_written last l f))

unfoldable pub write_message : Message → ℕ → Answer (List ℕ)
write_message (event ns t) room = in_place room 80 (event_written ns t)
write_message (delete names t) room = put_text 13 80 13 (delete_line names t) true room
write_message (link names ty ad tx) room = put_text 20 255 14 (link_line names ty ad tx) (formed ty ad tx) room
