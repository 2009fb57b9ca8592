use mathlib.Core.Path.{◌≡◌}
use Prim.Native.Nat.{◌≤◌}
use lib.ListN.{drop}
use Rattle.formats.proofs.laws.CheckEight.{weigh}
use Rattle.formats.proofs.check.with_eight.Given as goal

abbrev pub invariant-loop-k : goal.invariant-loop-k
invariant-loop-k l =
    (l.k ≤ 8) × (l.ahead ≤ 130050) × (l.ahead ≡ weigh (drop l.k l.part))
