use Rattle.catalogue.proofs.laws.room.Encode.{zeroed_ordered, zeroed_named}
use native.Mathlib.Omega.{arith}
use mathlib.Core.Path.{sym}
use Rattle.take.proofs.intake.Intake.new.Goals as goal

pub resumed-requires : goal.resumed-requires
resumed-requires c =
    (zeroed_ordered, sym zeroed_named, omega arith)
