use Rattle.take.specs.Steps.{Passed}
use Prim.Native.Nat.{◌*◌, ◌≤◌}
use Rattle.take.proofs.stream.read_all.Given as goal

abbrev pub invariant-loop : goal.invariant-loop
invariant-loop g l =
    Passed l.initial.intake l.intake × (l.intake.number ≤ 65536 * l.counter)
