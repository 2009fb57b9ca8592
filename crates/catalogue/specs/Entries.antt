-- A section's entries as the code reads them off the bytes, and what a search among them answers.
use Rattle.std.specs.Prelude.{ℕ, ◌+◌, ◌*◌, ◌≤◌, ◌<◌, ◌≡◌, true, List, [], length, drop, get_or, Result, Ok, Err}
use Rattle.std.proofs.Math.Option.{Option, none, some}
use Rattle.catalogue.specs.Assoc.{below}
use Rattle.catalogue.specs.Section.{rows}
use Rattle.catalogue.specs.Keys.{key_in}
use Rattle.catalogue.specs.declared.section.Section.{Section}

unfoldable pub entries_of : Section → List ℕ → List (List ℕ)
entries_of of s = rows of.count of.size (drop (of.at + 2) s)

unfoldable pub key_of_entry : Section → List ℕ → ℕ
key_of_entry of x = key_in of.typed of.source of.identifier x

-- the section lies in the bytes, and a key in its entries
pub record Inside (of : Section) (s : List ℕ) : Type 0 where
  pub fits : of.at + 2 + of.size * of.count ≤ length s
  pub source : of.source + 2 ≤ of.size
  pub identifier : of.identifier + 8 ≤ of.size
  pub type : of.typed ≡ true → of.identifier + 29 ≤ of.size

-- found: the place of the key, where it stands; missing: the place where it would stand
abbrev pub Sought : (List ℕ → ℕ) → ℕ → List (List ℕ) → Result ℕ ℕ → Type 0
Sought key k xs (Ok i) = (i ≡ below key k xs) × (i < length xs) × (key (get_or xs i []) ≡ k)
Sought key k xs (Err i) = (i ≡ below key k xs) × (i < length xs → key (get_or xs i []) ≡ k → ⊥)

-- the entry that was found
abbrev pub entry_of : List (List ℕ) → Result ℕ ℕ → Option (List ℕ)
entry_of xs (Ok i) = some (get_or xs i [])
entry_of xs (Err i) = none

-- its place is one of the entries, or one where an entry can stand
abbrev pub IsPlaceOf : Result ℕ ℕ → ℕ → Type 0
IsPlaceOf (Ok i) n = i < n
IsPlaceOf (Err i) n = i ≤ n

-- a new entry needs room
abbrev pub RoomFor : Result ℕ ℕ → ℕ → ℕ → Type 0
RoomFor (Ok i) need have = Unit {0}
RoomFor (Err i) need have = need ≤ have
