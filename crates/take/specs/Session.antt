-- The input taken byte by byte, as it comes in chunks, and what the program prints for a whole input. Document 01, "The program".
use Rattle.std.specs.Prelude.{ℕ, ◌+◌, List, [], ◌∷◌, ◌++◌, map, eqb, length, take, replicate}
use Rattle.columns.specs.Answer.{pick}
use Rattle.formats.specs.Lines.{newline, lines_of}
use Rattle.catalogue.specs.Room.{room_size, call_of, room_after, contents, feed}
use Rattle.take.specs.Text.{heading, answer_line, answers, catalogue_text}

-- a line past 1,024 bytes answers as its first 1,024 do
unfoldable pub cut : List ℕ → List ℕ
cut l = take 1024 l

-- the room, what has come of the line that is not ended yet, cut, and how many lines were taken
pub record Session : Type 0 where
  pub room : List ℕ
  pub line : List ℕ
  pub number : ℕ

-- the session of a room, of the array kept for a line, of how many of its bytes have come, and of how many lines were taken
abbrev pub session_of : List ℕ → List ℕ → ℕ → ℕ → Session
session_of room line len number = record { room = room; line = take len line; number = number }

-- the line ends: it is taken, and its answer said
unfoldable pub ended : Session → Session
ended s = record { room = room_after s.room s.line; line = []; number = s.number + 1 }

unfoldable pub ended_said : Session → List ℕ
ended_said s = answer_line (s.number + 1) (call_of s.room s.line)

-- more of the line has come
unfoldable pub grown : Session → List ℕ → Session
grown s part = record { room = s.room; line = cut (s.line ++ part); number = s.number }

-- one byte more
unfoldable pub byte : Session → ℕ → Session
byte s b = pick (eqb b newline) (ended s) (grown s (b ∷ []))

-- the bytes one by one, and what is said meanwhile
unfoldable pub bytes : Session → List ℕ → Session
bytes s [] = s
bytes s (b ∷ bs) = bytes (byte s b) bs

unfoldable pub said : Session → List ℕ → List ℕ
said s [] = []
said s (b ∷ bs) = pick (eqb b newline) (ended_said s) [] ++ said (byte s b) bs

-- the end of the input ends a line that has any bytes
unfoldable pub closed : Session → Session
closed s = pick (eqb (length s.line) 0) s (ended s)

unfoldable pub closed_said : Session → List ℕ
closed_said s = pick (eqb (length s.line) 0) [] (ended_said s)

unfoldable pub opened : List ℕ → Session
opened room = record { room = room; line = []; number = 0 }

-- all that document 01 has printed for an input. The law all-printed: an opened session that has taken the input, in whatever
-- chunks, and is closed has said this between the heading and its catalogue
unfoldable pub printed : List ℕ → List ℕ
printed input =
    heading ++ (answers 0 (replicate room_size 0) (map cut (lines_of input))
    ++ catalogue_text (contents (feed (replicate room_size 0) (map cut (lines_of input)))))
