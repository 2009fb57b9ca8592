use Rattle.formats.specs.Record.{value_bytes}
use Rattle.columns.specs.Table.{over}
use Prim.Native.Nat.{◌≤◌, ◌-◌}
use mathlib.Core.Path.{◌≡◌}
use lib.ListN.{length, take}
use Rattle.formats.proofs.record.put_values.Given as goal

abbrev pub invariant-loop-i : goal.invariant-loop-i
invariant-loop-i l =
    (l.i ≤ length l.values) × (length l.out ≡ length l.initial.out) × (l.out ≡ over (value_bytes (take l.i l.values)) l.initial.out)

abbrev pub decreases-loop-i : goal.decreases-loop-i
decreases-loop-i l =
    length l.values - l.i
