use Prim.Native.Nat.{◌≤◌}
use Rattle.catalogue.specs.Assoc.{below}
use Rattle.catalogue.specs.Keys.{key_number}
use Rattle.catalogue.specs.Entries.{entries_of, key_of_entry}
use Rattle.catalogue.proofs.section.Entries.advance.Given as goal

-- The place is not passed; each turn passes an entry below the key.
abbrev pub invariant-loop-j : goal.invariant-loop-j
invariant-loop-j l =
    l.j ≤ below (key_of_entry l.self.of) (key_number l.key) (entries_of l.self.of l.self.bytes.now)
