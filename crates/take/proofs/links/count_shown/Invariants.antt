use mathlib.Core.Path.{◌≡◌}
use Prim.Native.Nat.{◌+◌, ◌≤◌}
use lib.ListN.{length, drop}
use Rattle.catalogue.specs.Entries.{entries_of}
use Rattle.take.specs.Links.{shown}
use Rattle.take.proofs.links.count_shown.Given as goal

-- Those counted and those left are all.
abbrev pub invariant-loop-i : goal.invariant-loop-i
invariant-loop-i l =
    (l.n + length (shown (drop l.i (entries_of l.links.of l.links.bytes.now))) ≡ length (shown (entries_of l.links.of l.links.bytes.now))) × (l.n ≤ l.i)
