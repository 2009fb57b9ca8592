use native.Mathlib.Omega.{arith}
use lib.ListN.{length}
use Rattle.formats.specs.Cards.{cards}
use Rattle.formats.proofs.laws.RunBounds.{written_small}
use Rattle.rotmibel.proofs.laws.Answers.{answered, few}
use Rattle.rotmibel.proofs.rotmibel_write_card.Goals as goal

pub number_of-requires : goal.number_of-requires
number_of-requires c =
    let a = c.args in
    let s = written_small cards a.from.now (length a.out.now) in
    few c.write_card.ensures (omega (arith, s.1)) (omega (arith, s.0))

pub returns : goal.returns
returns c =
    answered _ c.number_of.ensures c.write_card.ensures
