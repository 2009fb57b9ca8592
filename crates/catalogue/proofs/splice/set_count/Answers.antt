use native.Mathlib.Omega.{arith}
use mathlib.Core.Path.{refl}
use lib.ListN.{length-set}
use Rattle.catalogue.specs.Splice.{counted}
use Rattle.catalogue.proofs.splice.set_count.Goals as goal

pub bounds-room-at-2 : goal.bounds-room-at-2
bounds-room-at-2 c =
    simp length-set (omega arith)

pub returns : goal.returns
unfolding counted
returns c =
    refl
