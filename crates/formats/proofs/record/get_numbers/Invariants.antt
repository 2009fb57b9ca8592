use Rattle.columns.specs.Table.{over, flags_of, values_of}
use Rattle.formats.specs.Record.{slots_in}
use Prim.Native.Nat.{◌≤◌, ◌-◌}
use lib.ListN.{length}
use mathlib.Core.Path.{◌≡◌}
use Rattle.formats.proofs.record.get_numbers.Given as goal

abbrev pub invariant-loop-i : goal.invariant-loop-i
invariant-loop-i l =
    (l.i ≤ length l.values) × (length l.flags ≡ length l.initial.flags) × (length l.values ≡ length l.initial.values) × (l.flags ≡ over (flags_of (slots_in l.i l.from l.bytes)) l.initial.flags) × (l.values ≡ over (values_of (slots_in l.i l.from l.bytes)) l.initial.values)

abbrev pub decreases-loop-i : goal.decreases-loop-i
decreases-loop-i l =
    length l.values - l.i
