use mathlib.Core.Path.{ap, ◌∙◌}
use Rattle.formats.specs.Cards.{cards}
use Rattle.formats.specs.RunWalk.{first_told, next_told}
use Rattle.rotmibel.proofs.laws.Answers.{met_first, met_next}
use Rattle.rotmibel.proofs.met_card.Goals as goal

pub returns-then-before-eq0 : goal.returns-then-before-eq0
returns-then-before-eq0 c =
    let a = c.args in
    c.first_card.ensures ∙ met_first _ (next_told cards a.run.now) a.before c.if-before-eq0.true

pub returns : goal.returns
returns c =
    let a = c.args in
    c.next_card.ensures ∙ ap (next_told cards a.run.now) c.line_of.ensures ∙ met_next (first_told cards a.run.now) (next_told cards a.run.now) a.before c.if-before-eq0.false
