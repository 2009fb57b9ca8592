use native.Mathlib.Omega.{arith}
use lib.ListN.{length}
use Rattle.formats.specs.Cards.{cards}
use Rattle.formats.proofs.laws.RunBounds.{recorded_column}
use Rattle.rotmibel.proofs.laws.Answers.{answered_from, low_from}
use Rattle.rotmibel.proofs.rotmibel_write_card_record.Goals as goal

pub place_of-requires : goal.place_of-requires
place_of-requires c =
    let a = c.args in
    low_from c.write_card_record.ensures (omega (arith, recorded_column cards a.from.now a.at (length a.out.now)))

pub returns : goal.returns
returns c =
    answered_from _ c.place_of.ensures c.write_card_record.ensures
