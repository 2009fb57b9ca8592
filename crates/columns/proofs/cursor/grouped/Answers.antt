use borrow.Author.Rules.{rules}
use mathlib.Core.Path.{sym, ◌∙◌}
use mir.Syntax.{w64}
use mir.ValLaws.{to_z-of_z}
use Rattle.columns.proofs.cursor.grouped.Goals as goal

pub returns-in-Given : goal.returns-in-Given
returns-in-Given c =
    let zx = to_z-of_z w64 c.in-Given.x (search rules) in
    let zy = to_z-of_z w64 c.in-Given.y (search rules) in
    let zz = to_z-of_z w64 c.in-Given.z (search rules) in
    λ seen f. rw (zx, zy, zz, c.in-Given.is, sym (rw (zx, zy, zz) at (c.in_group.ensures seen)) ∙ c.if-in_group.true)

pub returns-in-Given-2 : goal.returns-in-Given-2
returns-in-Given-2 c =
    let zx = to_z-of_z w64 c.in-Given.x (search rules) in
    let zy = to_z-of_z w64 c.in-Given.y (search rules) in
    let zz = to_z-of_z w64 c.in-Given.z (search rules) in
    λ seen f. rw (c.at-in-Given-2.ensures, c.in-Given.is, sym (rw (zx, zy, zz) at (c.in_group.ensures seen)) ∙ c.if-in_group.false)
