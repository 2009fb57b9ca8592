use mathlib.Core.Path.{◌≡◌}
use Prim.Native.Nat.{suc, ◌-◌, ◌≤◌, ◌<◌}
use mathlib.Core.List.{[]}
use lib.ListN.{drop, get_or}
use Rattle.catalogue.specs.Good.{ascends}
use Rattle.catalogue.specs.Entries.{entries_of, key_of_entry}
use Rattle.catalogue.proofs.section.Entries.ascending.Given as goal

-- The ascent is that of the entries from the i-th on, above the one before it.
abbrev pub invariant-loop-i : goal.invariant-loop-i
invariant-loop-i l =
    (1 ≤ l.i)
    × (0 < l.self.of.count → ascends (key_of_entry l.self.of) 0 (entries_of l.self.of l.self.bytes.now) ≡ ascends (key_of_entry l.self.of) (suc (key_of_entry l.self.of (get_or (entries_of l.self.of l.self.bytes.now) (l.i - 1) []))) (drop l.i (entries_of l.self.of l.self.bytes.now)))
