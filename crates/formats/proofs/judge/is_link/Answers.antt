use mathlib.Core.Path.{sym, ◌∙◌}
use borrow.Author.Rules.{rules}
use Rattle.formats.proofs.laws.Judge.{judged_link, judged_no_link}
use Rattle.formats.proofs.judge.is_link.Goals as goal

pub returns-in-Ok-Link : goal.returns-in-Ok-Link
returns-in-Ok-Link c =
    let w = c.in-Ok-Link in
    judged_link _ _ _ _ (sym c.read_line.ensures.answer ∙ rw w.field-0-is at w.is)

pub returns-in_default : goal.returns-in_default
returns-in_default c =
    judged_no_link _ (λ t d n e. let p = sym c.in_default.is ∙ c.read_line.ensures.answer ∙ e in search rules)

pub returns-in_default-2 : goal.returns-in_default-2
returns-in_default-2 c =
    judged_no_link _ (λ t d n e. let p = sym c.in_default.is ∙ c.read_line.ensures.answer ∙ e in cc)
