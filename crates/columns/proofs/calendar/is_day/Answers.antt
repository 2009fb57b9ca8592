use borrow.Author.Rules.{rules}
use mir.Syntax.{w64}
use mir.ValLaws.{to_z-of_z}
use Rattle.columns.specs.Column.{slot_in, last_day}
use Rattle.columns.proofs.laws.Calendar.{last_least, early_day, late_day}
use Rattle.columns.proofs.calendar.is_day.Goals as goal

pub returns-then-v-lt29 : goal.returns-then-v-lt29
returns-then-v-lt29 c =
    let a = c.args in
    let z = to_z-of_z w64 a.v (search rules) in
    rw z (early_day _ a.v (last_least (slot_in a.year) (slot_in a.month)) (rw z at c.if-v-lt29.true))

pub returns : goal.returns
returns c =
    let a = c.args in
    let z = to_z-of_z w64 a.v (search rules) in
    let zr = to_z-of_z w64 c.last_day.result (record { sfits = c.last_day.type_inv }) in
    rw (z, zr, c.last_day.ensures) (late_day (last_day (slot_in a.year) (slot_in a.month)) a.v (rw z at c.if-v-lt29.false))
