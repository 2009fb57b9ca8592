-- An entry put into a section or taken out of it: what the code does to the bytes of a room, which end at `used`.
use Rattle.std.specs.Prelude.{ℕ, ◌+◌, ◌*◌, ◌-◌, List, length, Result, Ok, Err}
use Rattle.std.proofs.Math.Seq.{paste}
use Rattle.catalogue.specs.Splice.{spliced, cut_out, counted}
use Rattle.catalogue.specs.declared.section.Section.{Section}

-- where an entry stands
abbrev pub entry_at : Section → ℕ → ℕ
entry_at of i = of.at + 2 + of.size * i

-- an entry with a new key goes in at its place; one with a key that is there replaces the entry that has it
unfoldable pub put_in : List ℕ → Section → ℕ → Result ℕ ℕ → List ℕ → List ℕ
put_in r of used (Ok i) l = paste r (entry_at of i) l (length l)
put_in r of used (Err i) l = counted (spliced r (entry_at of i) used l) of.at (of.count + 1)

unfoldable pub taken_out : List ℕ → Section → ℕ → ℕ → List ℕ
taken_out r of used i = counted (cut_out r (entry_at of i) used of.size) of.at (of.count - 1)
