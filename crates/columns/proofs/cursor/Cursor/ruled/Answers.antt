use mathlib.Core.Path.{ap, ◌∙◌}
use Rattle.columns.specs.Reading.{rule_refuses}
use Rattle.columns.proofs.laws.Cursor.{text_refused, text_there}
use Rattle.columns.proofs.cursor.Cursor.ruled.Goals as goal

pub returns-then-refuses : goal.returns-then-refuses
returns-then-refuses c =
    let a = c.args in
    let told = c.refuses.ensures ∙ ap (rule_refuses a.rule) c.field.ensures in
    λ seen. record { answer = rw (c.past.ensures.0, c.at.ensures, c.rule_reason.ensures) (text_refused seen a.line.now a.self.at a.width a.rule _ _ told c.if-refuses.true); next = c.past.ensures.1 }

pub returns : goal.returns
returns c =
    let a = c.args in
    let told = c.refuses.ensures ∙ ap (rule_refuses a.rule) c.field.ensures in
    λ seen. record { answer = rw c.past-2.ensures.0 (text_there seen a.line.now a.self.at a.width a.rule _ _ told c.if-refuses.false); next = c.past-2.ensures.1 }
