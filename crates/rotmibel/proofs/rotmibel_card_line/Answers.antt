use mathlib.Core.Path.{ap, ◌∙◌}
use Rattle.rotmibel.specs.Answers.{line_number}
use Rattle.rotmibel.proofs.laws.Answers.{line_small, card_line_small}
use Rattle.rotmibel.proofs.rotmibel_card_line.Goals as goal

pub line_number-requires : goal.line_number-requires
line_number-requires c =
    let a = c.args in
    line_small _ _ c.met_card.ensures (card_line_small a.run.now a.before)

pub returns : goal.returns
returns c =
    c.line_number.ensures ∙ ap line_number c.met_card.ensures
