-- Looking a pair up: the place of its held line, from 0, or that none is held. Document 01, "Numbers answered".
use Rattle.std.specs.Prelude.{ℕ, Option, Some, None, Result, Ok, Err, List, [], ◌++◌, eqb, length, take}
use Rattle.std.proofs.Math.Option.{none, some}
use Rattle.std.proofs.Math.Option as math
use Rattle.columns.specs.Answer.{pick, wrong_length}
use Rattle.columns.specs.Answer.{number_of}
use Rattle.columns.specs.declared.Reason.{Reason}
use Rattle.catalogue.specs.Answers.{is_held, not_held}
use Rattle.catalogue.specs.Assoc.{find, below}
use Rattle.catalogue.specs.Line.{key_of, key}
use Rattle.catalogue.specs.Catalogue.{Catalogue}
use Rattle.catalogue.specs.Room.{room_size, contents, checked}

abbrev pub Looked : Type 0
Looked = Result (Option ℕ) Reason

-- its number, 27 or 28 where it is not refused, and the place
abbrev pub look_number : Looked → ℕ
look_number (Ok (Some i)) = is_held
look_number (Ok None) = not_held
look_number (Err n) = number_of n

abbrev pub look_place : Looked → ℕ
look_place (Ok (Some i)) = i
look_place (Ok None) = 0
look_place (Err n) = 0

abbrev pub looked_by : math.Option (List ℕ) → ℕ → Option ℕ
looked_by none i = None
looked_by (some h) i = Some i

-- the held line of a pair's key; its place is the number of held lines below it
unfoldable pub looked_in : Catalogue → ℕ → Option ℕ
looked_in c k = looked_by (find key k c.held) (below key k c.held)

-- 11, 13, then 1 for a source not of 2 bytes or an identifier not of 8
unfoldable pub look_up : List ℕ → List ℕ → List ℕ → Looked
look_up room source identifier =
    checked room (λ n. Err n)
    (pick (eqb (length source) 2)
    (pick (eqb (length identifier) 8) (Ok (looked_in (contents (take room_size room)) (key_of (source ++ identifier) []))) (Err wrong_length))
    (Err wrong_length))
