use mathlib.Core.Path.{◌≡◌}
use lib.ListN.{drop}
use Rattle.catalogue.specs.Good.{every, deletion_ok}
use Rattle.catalogue.specs.Entries.{entries_of}
use Rattle.catalogue.proofs.order.deletions_allowed.Given as goal

-- Every entry from the i-th on is allowed where all are.
abbrev pub invariant-loop-i : goal.invariant-loop-i
invariant-loop-i l =
    every deletion_ok (entries_of l.deletions.of l.deletions.bytes.now) ≡ every deletion_ok (drop l.i (entries_of l.deletions.of l.deletions.bytes.now))
