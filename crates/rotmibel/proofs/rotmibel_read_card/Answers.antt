use native.Mathlib.Omega.{arith}
use lib.ListN.{length}
use Rattle.formats.specs.Lettered.{kinds_of}
use Rattle.formats.specs.Cards.{cards, card_record}
use Rattle.formats.proofs.laws.RunBounds.{into_small}
use Rattle.rotmibel.proofs.laws.Answers.{answered, few}
use Rattle.rotmibel.proofs.rotmibel_read_card.Goals as goal

pub number_of-requires : goal.number_of-requires
number_of-requires c =
    let a = c.args in
    let s = into_small (kinds_of cards) card_record a.line.now (length a.out.now) in
    few c.read_card.ensures (omega (arith, s.1)) (omega (arith, s.0))

pub returns : goal.returns
returns c =
    answered _ c.number_of.ensures c.read_card.ensures
