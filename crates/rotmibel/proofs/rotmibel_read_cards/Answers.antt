use native.Mathlib.Omega.{arith}
use mathlib.Core.Path.{sym, ◌∙◌}
use lib.ListN.{length}
use Rattle.formats.specs.Cards.{cards}
use Rattle.formats.specs.Run.{read_run}
use Rattle.formats.proofs.laws.Cards.{cards_small}
use Rattle.rotmibel.proofs.laws.Answers.{run_read_number, run_refused_number, answered_run}
use Rattle.rotmibel.proofs.rotmibel_read_cards.Goals as goal

pub parts_of-requires : goal.parts_of-requires
parts_of-requires c =
    let a = c.args in
    (run_read_number (read_run cards a.run.now (length a.counts.now)) _ (sym c.read_cards.ensures.answer ∙ c.in-Ok.is) (cards_small a.run.now (length a.counts.now)), omega arith)

pub parts_of-requires-in-Err : goal.parts_of-requires-in-Err
parts_of-requires-in-Err c =
    let a = c.args in
    let w = run_refused_number (read_run cards a.run.now (length a.counts.now)) _ (sym c.read_cards.ensures.answer ∙ c.in-Err.is) (cards_small a.run.now (length a.counts.now)) in
    (w.0, omega (arith, w.1))

pub returns-in-Ok : goal.returns-in-Ok
returns-in-Ok c =
    answered_run _ _ c.read_cards.ensures c.in-Ok.is c.parts_of.ensures

pub returns-in-Err : goal.returns-in-Err
returns-in-Err c =
    answered_run _ _ c.read_cards.ensures c.in-Err.is (rw c.from.ensures at c.parts_of-in-Err.ensures)
