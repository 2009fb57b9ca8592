use native.Mathlib.Omega.{arith}
use lib.ListN.{length}
use Rattle.formats.proofs.laws.CubeRecordBack.{from_size, from_bound}
use Rattle.rotmibel.proofs.laws.Answers.{answered, few}
use Rattle.rotmibel.proofs.rotmibel_write_line.Goals as goal

pub number_of-requires : goal.number_of-requires
number_of-requires c =
    let a = c.args in
    few c.write_from.ensures (omega (arith, from_size a.from.now (length a.out.now))) (omega (arith, from_bound a.from.now (length a.out.now)))

pub returns : goal.returns
returns c =
    answered _ c.number_of.ensures c.write_from.ensures
