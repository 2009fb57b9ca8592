use mathlib.Core.Path.{sym, ◌∙◌}
use Rattle.columns.proofs.laws.Cursor.{letter_known, letter_other}
use Rattle.columns.proofs.cursor.Cursor.letter.Goals as goal

pub returns-then-has : goal.returns-then-has
returns-then-has c =
    let a = c.args in
    λ seen. record { answer = rw c.past.ensures.0 (letter_known seen a.line.now a.self.at a.set.now (sym c.has.ensures ∙ c.if-has.true)); next = c.past.ensures.1 }

pub returns : goal.returns
returns c =
    let a = c.args in
    λ seen. record { answer = rw (c.past-2.ensures.0, c.at.ensures) (letter_other seen a.line.now a.self.at a.set.now (sym c.has.ensures ∙ c.if-has.false)); next = c.past-2.ensures.1 }
