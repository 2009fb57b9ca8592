use borrow.Author.Rules.{rules}
use mathlib.Core.Path.{◌≡◌, sym, ap, ◌∙◌}
use mathlib.Core.Bool.{true, false}
use lib.IntN.{pos}
use mir.Syntax.{w64}
use mir.ValLaws.{to_z-of_z}
use Rattle.columns.proofs.laws.Calendar.{month_is, february, thirty, thirty_one}
use Rattle.columns.proofs.calendar.days_in.Goals as goal

pub returns-then-is_leap : goal.returns-then-is_leap
returns-then-is_leap c =
    let a = c.args in
    let m : a.month ≡ pos 2 = month_is a.month 2 (search rules) c.in-2.in-2-own.keys1 in
    let z = to_z-of_z w64 a.year (search rules) in
    rw m (ap pos (february a.year true (sym (rw z at c.is_leap.ensures) ∙ c.if-is_leap.true)))

pub returns-else-is_leap : goal.returns-else-is_leap
returns-else-is_leap c =
    let a = c.args in
    let m : a.month ≡ pos 2 = month_is a.month 2 (search rules) c.in-2.in-2-own.keys1 in
    let z = to_z-of_z w64 a.year (search rules) in
    rw m (ap pos (february a.year false (sym (rw z at c.is_leap.ensures) ∙ c.if-is_leap.false)))

pub returns-in-4 : goal.returns-in-4
returns-in-4 c =
    let a = c.args in ap pos (thirty a.year a.month (search rules) c.in-4.in-4-own.keys2)

pub returns-in_default : goal.returns-in_default
returns-in_default c =
    let a = c.args in
    ap pos (thirty_one a.year a.month c.in_default.in_default-own.rest.0.1 c.in_default.in_default-own.rest.1)
