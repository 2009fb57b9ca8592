-- The stretch grows shorter.
use Rattle.std.proofs.Common.{◌-◌}
use Rattle.catalogue.proofs.quick_look_up.+search.Given as goal

abbrev pub decreases-search : goal.decreases-search
decreases-search l = l.end - l.first
