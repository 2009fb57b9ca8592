use Prim.Native.Nat.{◌-◌}
use lib.ListN.{length}
use mathlib.Core.List.{◌∷◌}
use Rattle.formats.proofs.laws.Run.{Running}
use Rattle.formats.proofs.run.judge_lines.Given as goal

abbrev pub invariant-loop-found : goal.invariant-loop-found
invariant-loop-found l =
    Running (l.kinds.opener ∷ l.kinds.others.now) l.run l.at l.line l.before l.tally

abbrev pub decreases-loop-found : goal.decreases-loop-found
decreases-loop-found l =
    length l.run - l.at
