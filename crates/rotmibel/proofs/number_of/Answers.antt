use mathlib.Core.Path.{subst, ◌∙◌, ap, sym}
use Rattle.rotmibel.specs.Answers.{IsSmall, number_in}
use Rattle.rotmibel.proofs.number_of.Goals as goal

pub parts_of-requires : goal.parts_of-requires
parts_of-requires c =
    let h = subst IsSmall c.in-Ok.is c.requires in (h.1, h.0)

pub parts_of-requires-in-Err : goal.parts_of-requires-in-Err
parts_of-requires-in-Err c =
    let h = subst IsSmall c.in-Err.is c.requires in (h.1, h.0)

pub returns-in-Ok : goal.returns-in-Ok
returns-in-Ok c =
    c.parts_of.ensures ∙ sym (ap number_in c.in-Ok.is)

pub returns-in-Err : goal.returns-in-Err
returns-in-Err c =
    rw c.from.ensures at c.parts_of-in-Err.ensures ∙ sym (ap number_in c.in-Err.is)
