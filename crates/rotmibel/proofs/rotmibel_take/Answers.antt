use native.Mathlib.Omega.{arith}
use mathlib.Core.Path.{ap}
use Rattle.catalogue.specs.Answers.{call_column}
use Rattle.catalogue.proofs.laws.room.Answered.{column_low}
use Rattle.rotmibel.proofs.rotmibel_take.Goals as goal

pub parts_of-requires : goal.parts_of-requires
parts_of-requires c =
    let a = c.args in
    (omega (arith, c.column_of.ensures, ap call_column c.take_line-call.ensures.0, column_low a.room.now a.line.now), omega arith)

pub returns : goal.returns
returns c =
    (rw (c.number_of.ensures, c.column_of.ensures, c.take_line-call.ensures.0) at c.parts_of.ensures, c.take_line-call.ensures.1)
