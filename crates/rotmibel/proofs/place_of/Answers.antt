use mathlib.Core.Path.{subst}
use Rattle.rotmibel.specs.Answers.{place_in, HasLowColumn}
use mathlib.Core.Path.{sym, ap, ◌∙◌}
use borrow.Author.Rules.{rules}
use Rattle.rotmibel.proofs.place_of.Goals as goal

pub parts_of-requires-in-Err : goal.parts_of-requires-in-Err
parts_of-requires-in-Err c =
    (subst HasLowColumn c.in-Err.is c.requires, search rules)

pub returns-in-Ok : goal.returns-in-Ok
returns-in-Ok c =
    c.parts_of.ensures ∙ sym (ap place_in c.in-Ok.is)

pub returns-in-Err : goal.returns-in-Err
returns-in-Err c =
    rw c.from.ensures at c.parts_of-in-Err.ensures ∙ sym (ap place_in c.in-Err.is)
