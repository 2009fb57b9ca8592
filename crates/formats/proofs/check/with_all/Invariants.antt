use mathlib.Core.Path.{◌≡◌}
use lib.ListN.{drop}
use Rattle.formats.specs.Check.{check_sum}
use Rattle.formats.proofs.check.with_all.Given as goal

abbrev pub invariant-loop-b : goal.invariant-loop-b
invariant-loop-b l =
    check_sum l.before l.s ≡ check_sum l.sum (drop l.b-index l.s)
