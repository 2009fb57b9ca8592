use Rattle.catalogue.specs.Entries.{entries_of}
use Rattle.catalogue.proofs.laws.room.Weight.{Walk}
use Rattle.catalogue.proofs.order.only_held.Given as goal

-- The walk over the held lines, a turn at a time; the deletions are walked beside them.
abbrev pub invariant-loop-i : goal.invariant-loop-i
invariant-loop-i l =
    Walk (entries_of l.deletions.of l.deletions.bytes.now) (entries_of l.held.of l.held.bytes.now) l.k l.i l.j
