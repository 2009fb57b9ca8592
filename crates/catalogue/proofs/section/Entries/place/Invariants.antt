use Prim.Native.Nat.{◌-◌}
use Rattle.catalogue.specs.Assoc.{below}
use Rattle.catalogue.specs.Keys.{key_number}
use Rattle.catalogue.specs.Entries.{entries_of, key_of_entry}
use Rattle.catalogue.proofs.laws.section.Search.{Stretch}
use Rattle.catalogue.proofs.section.Entries.place.Given as goal

-- The stretch between low and high has the place in it, and grows shorter.
abbrev pub invariant-loop-low : goal.invariant-loop-low
invariant-loop-low l =
    Stretch (below (key_of_entry l.self.of) (key_number l.key) (entries_of l.self.of l.self.bytes.now)) l.self.of.count l.low l.high

abbrev pub decreases-loop-low : goal.decreases-loop-low
decreases-loop-low l =
    l.high - l.low
