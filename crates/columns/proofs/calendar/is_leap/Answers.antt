use borrow.Author.Rules.{rules}
use mir.Syntax.{w64}
use mir.ValLaws.{to_z-of_z}
use Rattle.columns.proofs.laws.Calendar.{leap_hundred, leap_other}
use Rattle.columns.proofs.calendar.is_leap.Goals as goal

pub returns-then-n-eq0 : goal.returns-then-n-eq0
returns-then-n-eq0 c =
    let y = c.args.year in
    let z = to_z-of_z w64 y (search rules) in
    leap_hundred y _ (rw z at c.magnitude_of-n.ensures) c.if-n-eq0.true

pub returns : goal.returns
returns c =
    let y = c.args.year in
    let z = to_z-of_z w64 y (search rules) in
    leap_other y _ (rw z at c.magnitude_of-n.ensures) c.if-n-eq0.false
