-- What each step of the code is given and leaves.
use Rattle.std.specs.Prelude.{ℕ, ◌+◌, ◌≤◌, ◌<◌, ◌≡◌, List, ◌++◌, length, take}
use Rattle.catalogue.specs.Catalogue.{named}
use Rattle.catalogue.specs.Ordered.{Ordered}
use Rattle.catalogue.specs.Room.{call_of, room_after, contents}
use Rattle.take.specs.Text.{answer_line, catalogue_text}
use Rattle.take.specs.Session.{Session, bytes, said, closed, closed_said}

-- 2^63: the lines are fewer, so their number never wraps
abbrev pub most_lines : ℕ
most_lines = 9223372036854775808

-- the line l is taken into the room, and its answer put, in at most 63 bytes
pub record Answered (room out : List ℕ) (number : ℕ) (l room' out' : List ℕ) (named' : ℕ) : Type 0 where
  pub taken : room' ≡ room_after room l
  pub ordered : Ordered room'
  pub named_are : named' ≡ named (contents room')
  pub put : out' ≡ out ++ answer_line number (call_of room l)
  pub short : length out' ≤ length out + 63

-- one line, or what has come of it, in n bytes: the session is the one after them, and what they have said is put
pub record Stepped (s : Session) (out rest : List ℕ) (s' : Session) (out' : List ℕ) (n : ℕ) : Type 0 where
  pub onward : 0 < n
  pub within : n ≤ length rest
  pub session : s' ≡ bytes s (take n rest)
  pub text : out' ≡ out ++ said s (take n rest)
  pub counted : s'.number ≤ s.number + 1

-- what a read brought is taken: the first n bytes of the chunk, and so many lines at most
pub record Brought (s : Session) (chunk : List ℕ) (n : ℕ) (s' : Session) : Type 0 where
  pub session : s' ≡ bytes s (take n chunk)
  pub counted : s'.number ≤ s.number + 65536

-- the session is the one after some bytes: no contract can say which bytes are read
pub record Passed (s s' : Session) : Type 0 where
  pub input : List ℕ
  pub session : s' ≡ bytes s input

-- the end of the input: the session is closed, and what that has said is put
pub record Closed (s : Session) (out : List ℕ) (s' : Session) (out' : List ℕ) : Type 0 where
  pub session : s' ≡ closed s
  pub text : out' ≡ out ++ closed_said s

-- the session is closed, and the catalogue that it leaves is gathered
pub record Finished (s s' : Session) (out' : List ℕ) : Type 0 where
  pub session : s' ≡ closed s
  pub ordered : Ordered s'.room
  pub text : out' ≡ catalogue_text (contents s'.room)
