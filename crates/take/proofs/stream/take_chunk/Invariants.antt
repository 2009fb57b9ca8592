use Rattle.take.specs.Session.{bytes}
use mathlib.Core.Path.{◌≡◌}
use Prim.Native.Nat.{◌≤◌, ◌+◌}
use lib.ListN.{length}
use Rattle.take.proofs.stream.take_chunk.Given as goal

abbrev pub invariant-loop-rest : goal.invariant-loop-rest
invariant-loop-rest g l =
    (bytes l.intake l.rest ≡ bytes l.initial.intake l.initial.rest)
    × (l.intake.number + length l.rest ≤ l.initial.intake.number + length l.initial.rest)

abbrev pub decreases-loop-rest : goal.decreases-loop-rest
decreases-loop-rest g l = length l.rest
