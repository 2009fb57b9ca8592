use native.Mathlib.Omega.{arith}
use mathlib.Core.Path.{sym, ap, ◌∙◌}
use Rattle.catalogue.specs.LookUp.{look_place}
use Rattle.catalogue.proofs.laws.room.Answered.{place_low}
use Rattle.rotmibel.specs.Answers.{looked_number}
use Rattle.rotmibel.proofs.rotmibel_look_up.Goals as goal

pub parts_of-requires : goal.parts_of-requires
parts_of-requires c =
    let a = c.args in
    let f = rw c.in-Ok-Some.field-0-is at c.in-Ok-Some.is in
    (omega arith, omega (arith, ap look_place (sym c.look_up.ensures ∙ f), place_low a.room.now a.source.now a.identifier.now))

pub returns-in-Ok-Some : goal.returns-in-Ok-Some
returns-in-Ok-Some c =
    c.parts_of.ensures ∙ ap looked_number (sym (rw c.in-Ok-Some.field-0-is at c.in-Ok-Some.is) ∙ c.look_up.ensures)

pub returns-in-Ok-None : goal.returns-in-Ok-None
returns-in-Ok-None c =
    c.parts_of-in-Ok-None.ensures ∙ ap looked_number (sym (rw c.in-Ok-None.field-0-is at c.in-Ok-None.is) ∙ c.look_up.ensures)

pub returns-in-Err : goal.returns-in-Err
returns-in-Err c =
    rw c.from.ensures at c.parts_of-in-Err.ensures ∙ ap looked_number (sym c.in-Err.is ∙ c.look_up.ensures)
