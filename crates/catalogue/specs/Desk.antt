-- A desk: a list of lines taken into its room, and what two desks leave. Document 01, demand 3, about code.
use Rattle.std.specs.Prelude.{ℕ, suc, ◌+◌, ◌-◌, ◌≡◌, List, [], ◌∷◌, ◌++◌, ltb, leb, is_err, length, take, drop}
use Rattle.columns.specs.Answer.{pick}
use Rattle.catalogue.specs.declared.desk.Tally.{Tally}
use Rattle.catalogue.specs.declared.desk.Tallies.{Tallies}
use Rattle.catalogue.specs.Catalogue.{Catalogue}
use Rattle.catalogue.specs.Lists.{SameLines, Settled}
use Rattle.catalogue.specs.Room.{encode, call_of, room_after, feed}
use Rattle.catalogue.specs.Ordered.{Ordered}
use Rattle.catalogue.specs.Demand.{zeroed, TheCatalogue}

-- where a line ends that starts at a place of n bytes: an end before its start is its start, one past the bytes is the last
unfoldable pub end_in : ℕ → ℕ → ℕ → ℕ
end_in n start end = pick (ltb end start) start (pick (leb end n) end n)

-- the lines whose bytes stand one after the other, each up to its end; any bytes may stand in them
unfoldable pub lines_from : List ℕ → ℕ → List ℕ → List (List ℕ)
lines_from s start [] = []
lines_from s start (e ∷ es) = take (end_in (length s) start e - start) (drop start s) ∷ lines_from s (end_in (length s) start e) es

abbrev pub lines_at : List ℕ → List ℕ → List (List ℕ)
lines_at s ends = lines_from s 0 ends

-- the ends of lines whose bytes stand one after the other from a place on
unfoldable pub ends_from : ℕ → List (List ℕ) → List ℕ
ends_from start [] = []
ends_from start (l ∷ ls) = (start + length l) ∷ ends_from (start + length l) ls

-- how many of the lines are refused, each taken into the room as the last call left it
unfoldable pub refusals : List ℕ → List (List ℕ) → ℕ
refusals room [] = 0
refusals room (l ∷ ls) = pick (is_err (call_of room l)) (suc (refusals (room_after room l) ls)) (refusals (room_after room l) ls)

-- a list of lines was taken: the room after, how many lines there were and how many were refused; a room too short or out of order is
-- left as it was, and each line is refused
pub record Fed (room after : List ℕ) (ls : List (List ℕ)) (t : Tally) : Type 0 where
  pub room_is : after ≡ feed room ls
  pub lines_are : t.lines ≡ length ls
  pub refused_are : t.refused ≡ refusals room ls
  pub idle : (Ordered room → ⊥) → (after ≡ room) × (t.refused ≡ t.lines)

-- two desks: `ls` was taken into the first room, `ms` into the second
pub record Desks (first second : List ℕ) (ls ms : List (List ℕ)) (first_after second_after : List ℕ) (t : Tallies) : Type 0 where
  pub first_fed : Fed first first_after ls t.first
  pub second_fed : Fed second second_after ms t.second
  -- demand 3: both rooms were zeroed, and the same acceptable lines occur in both lists, settled ones (Lists.antt); then both rooms are
  -- the layout of the catalogue from the set of lines, and the bytes past them are untouched
  pub agree : (p q : List ℕ) → first ≡ zeroed p → second ≡ zeroed q → SameLines ls ms → Settled ls
      → (c : Catalogue) × (first_after ≡ encode c ++ p) × (second_after ≡ encode c ++ q) × TheCatalogue ls c
