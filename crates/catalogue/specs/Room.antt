-- A room, the bytes of one catalogue: its layout, what in order means, and what a call answers and leaves. Document 01, "The
-- catalogue", "Numbers answered".
use Rattle.std.specs.Prelude.{ℕ, Result, Ok, Err, ⊤, ◌-◌, Bool, ◌&&◌, List, [], ◌∷◌, ◌++◌, leb, length, take, drop, replicate}
use Rattle.columns.specs.Answer.{pick, too_short}
use Rattle.columns.specs.Bytes.{same_bytes}
use Rattle.columns.specs.declared.Reason.{Reason}
use Rattle.catalogue.specs.Answers.{not_in_order, Call, declined_as}
use Rattle.catalogue.specs.Section.{Part, laid, said, capacity}
use Rattle.catalogue.specs.Catalogue.{Catalogue, empty, parts, from_parts}
use Rattle.catalogue.specs.Taking.{step}
use Rattle.catalogue.specs.Good.{good}

-- the sections, then zeros to the end
unfoldable pub room_of : ℕ → List Part → List ℕ
room_of n ps = laid ps ++ replicate (n - length (laid ps)) 0

-- a room has the bytes of full sections: 62,982
unfoldable pub room_size : ℕ
room_size = capacity (parts empty)

unfoldable pub encode : Catalogue → List ℕ
encode c = room_of room_size (parts c)

-- what the room's bytes say, in order or not
unfoldable pub contents : List ℕ → Catalogue
contents r = from_parts (said (parts empty) r)

-- the room is the layout of what it says, zeros after it, and that is good
unfoldable pub is_in_order : List ℕ → Bool
is_in_order r = good (contents r) && same_bytes (encode (contents r)) r

-- ---- what a call answers and leaves: 11, 13, then what the room in order gives; of a longer room the first bytes count

unfoldable pub checked : {A : Type 0} → List ℕ → (Reason → A) → A → A
checked room refused fine = pick (leb room_size (length room)) (pick (is_in_order (take room_size room)) fine (refused not_in_order)) (refused too_short)

-- any bytes, judged: in order, or why not
abbrev pub order_of : List ℕ → Result ⊤ Reason
order_of room = checked room (λ n. Err n) (Ok tt)

-- a call's answer on a room and a line
abbrev pub call_of : List ℕ → List ℕ → Call
call_of room line = checked room declined_as (step (contents (take room_size room)) line).answer

-- the room after the call
abbrev pub room_after : List ℕ → List ℕ → List ℕ
room_after room line = checked room (λ n. room) (encode (step (contents (take room_size room)) line).after ++ drop room_size room)

-- the lines one by one, each into the room as the last call left it
unfoldable pub feed : List ℕ → List (List ℕ) → List ℕ
feed room [] = room
feed room (l ∷ ls) = feed (room_after room l) ls
