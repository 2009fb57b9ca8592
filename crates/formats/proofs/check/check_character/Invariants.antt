use mathlib.Core.Path.{◌≡◌}
use lib.ListN.{length}
use Rattle.formats.specs.Check.{check_sum}
use Rattle.formats.proofs.check.check_character.Given as goal

abbrev pub invariant-loop-rest : goal.invariant-loop-rest
invariant-loop-rest l =
    check_sum l.sum l.rest ≡ check_sum 0 l.s

abbrev pub decreases-loop-rest : goal.decreases-loop-rest
decreases-loop-rest l =
    length l.rest
