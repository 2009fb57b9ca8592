use native.Mathlib.Omega.{arith}
use lib.ListN.{length}
use Rattle.formats.proofs.laws.CubeRecordBack.{into_size, into_bound}
use Rattle.rotmibel.proofs.laws.Answers.{answered, few}
use Rattle.rotmibel.proofs.rotmibel_read_line.Goals as goal

pub number_of-requires : goal.number_of-requires
number_of-requires c =
    let a = c.args in
    few c.read_into.ensures (omega (arith, into_size a.line.now (length a.out.now))) (omega (arith, into_bound a.line.now (length a.out.now)))

pub returns : goal.returns
returns c =
    answered _ c.number_of.ensures c.read_into.ensures
