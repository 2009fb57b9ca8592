-- What a call leaves as it was. Document 01, "Numbers answered": refusals 1 to 19 change nothing lent; 22, 23, 26 change nothing.
use Rattle.std.specs.Prelude.{ℕ, ◌≡◌, List, Ok, Err}
use Rattle.catalogue.specs.declared.Effect.TheVariants.{Stored, Replaced, Repeated, Outdated, Removed, Noted, NothingHeld}
use Rattle.catalogue.specs.Answers.{Call}
use Rattle.catalogue.specs.Line.{link, kind}
use Rattle.catalogue.specs.Catalogue.{Catalogue}
use Rattle.catalogue.specs.Taking.{step}
use Rattle.catalogue.specs.Room.{call_of, room_after}

abbrev pub ChangesNothing : Call → Type 0
ChangesNothing (Err r) = Unit {0}
ChangesNothing (Ok Repeated) = Unit {0}
ChangesNothing (Ok Outdated) = Unit {0}
ChangesNothing (Ok NothingHeld) = Unit {0}
ChangesNothing (Ok Stored) = ⊥
ChangesNothing (Ok Replaced) = ⊥
ChangesNothing (Ok Removed) = ⊥
ChangesNothing (Ok Noted) = ⊥

-- for every room and line: where the answer is such a one, the room after is the room before
abbrev pub Untouched : Type 0
Untouched = (room line : List ℕ) → ChangesNothing (call_of room line) → room_after room line ≡ room

-- a link leaves the held lines and the deletions as they were, any other line the links. Document 02, "Take the links"
abbrev pub Apart : Type 0
Apart =
    (c : Catalogue) (l : List ℕ) → (kind l ≡ link → ((step c l).after.held ≡ c.held) × ((step c l).after.deletions ≡ c.deletions))
    × ((kind l ≡ link → ⊥) → (step c l).after.links ≡ c.links)
