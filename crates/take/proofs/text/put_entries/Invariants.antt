use mathlib.Core.Path.{◌≡◌}
use Prim.Native.Nat.{◌+◌, ◌*◌}
use lib.ListN.{drop, length}
use mathlib.Core.List.{◌++◌}
use Rattle.take.specs.Text.{row_lines}
use Rattle.catalogue.specs.Entries.{entries_of}
use Rattle.take.proofs.text.put_entries.Given as goal

-- Each turn puts an entry and a newline behind what is put.
abbrev pub invariant-loop-i : goal.invariant-loop-i
invariant-loop-i g l =
    (l.out ++ row_lines (drop l.i (entries_of l.entries.of l.entries.bytes.now)) ≡ l.initial.out ++ row_lines (entries_of l.entries.of l.entries.bytes.now))
    × (length l.out ≡ length l.initial.out + (l.entries.of.size + 1) * l.i)
