use mathlib.Core.Path.{◌≡◌}
use mathlib.Core.List.{◌++◌}
use Prim.Native.Nat.{◌+◌, ◌*◌, ◌≤◌}
use lib.ListN.{drop, length}
use Rattle.catalogue.specs.Entries.{entries_of}
use Rattle.take.specs.Text.{row_lines}
use Rattle.take.specs.Links.{shown}
use Rattle.take.proofs.links.put_shown.Given as goal

-- Each turn puts a link's line, if it is printed, behind what is put.
abbrev pub invariant-loop-i : goal.invariant-loop-i
invariant-loop-i g l =
    (l.out ++ row_lines (shown (drop l.i (entries_of l.links.of l.links.bytes.now))) ≡ l.initial.out ++ row_lines (shown (entries_of l.links.of l.links.bytes.now)))
    × (length l.out ≤ length l.initial.out + 256 * l.i)
