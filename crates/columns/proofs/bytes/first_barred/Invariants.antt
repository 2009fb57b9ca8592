use Prim.Native.Nat.{◌≤◌, ◌-◌}
use Rattle.columns.specs.Bytes.{Free}
use Rattle.columns.proofs.bytes.first_barred.Given as goal

abbrev pub invariant-loop-i : goal.invariant-loop-i
invariant-loop-i l =
    (l.i ≤ l.n) × Free l.from l.to l.column l.i l.s

abbrev pub decreases-loop-i : goal.decreases-loop-i
decreases-loop-i l =
    l.n - l.i
