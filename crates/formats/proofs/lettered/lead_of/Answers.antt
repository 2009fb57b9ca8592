use mathlib.Core.Path.{sym, ap, ◌∙◌}
use Rattle.formats.specs.RunSteps.{as_kind}
use Rattle.formats.proofs.laws.Lettered.{kind_answer, lead_none, lead_found}
use Rattle.formats.proofs.lettered.lead_of.Goals as goal

pub returns-then-line-eq0 : goal.returns-then-line-eq0
returns-then-line-eq0 c =
    rw c.at.ensures (lead_none _ _ c.if-line-eq0.true)

pub returns-in-None : goal.returns-in-None
returns-in-None c =
    rw c.at-in-None.ensures (ap as_kind (ap kind_answer (sym c.in-None.is) ∙ lead_found _ _ c.if-line-eq0.false c.with_letter.ensures))

pub returns-in-Some : goal.returns-in-Some
returns-in-Some c =
    ap as_kind (ap kind_answer (sym c.in-Some.is) ∙ lead_found _ _ c.if-line-eq0.false c.with_letter.ensures)
