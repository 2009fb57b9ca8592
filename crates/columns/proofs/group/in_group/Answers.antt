use borrow.Author.Rules.{rules}
use mathlib.Core.Path.{sym, ◌∙◌}
use mir.Syntax.{w64}
use mir.ValLaws.{to_z-of_z}
use Rattle.columns.proofs.laws.Ranges.{group_undated, group_out, group_dated}
use Rattle.columns.proofs.group.in_group.Goals as goal
use Rattle.columns.proofs.group.in_group.Goals.{else-g-via-then-g+else-in_parts, else-g-via-else-g}

pub returns-then-in_parts : goal.returns-then-in_parts
returns-then-in_parts c =
    let a = c.args in
    let zx = to_z-of_z w64 a.x (search rules) in
    let zy = to_z-of_z w64 a.y (search rules) in
    let zz = to_z-of_z w64 a.z (search rules) in
    λ seen. rw (zx, zy, zz) at c.is_day.ensures
    ∙ group_dated a.g seen a.x a.y a.z c.if-g.true (sym (rw (zx, zy, zz) at (c.in_parts.ensures seen)) ∙ c.if-in_parts.true)

pub returns-else-g : goal.returns-else-g
returns-else-g c =
    let a = c.args in
    let zx = to_z-of_z w64 a.x (search rules) in
    let zy = to_z-of_z w64 a.y (search rules) in
    let zz = to_z-of_z w64 a.z (search rules) in
    λ seen. let told = rw (zx, zy, zz) at (c.in_parts-else-g.ensures seen) in
    elim c.else-g.branch [
      | else-g-via-then-g+else-in_parts w ↦
          let no = sym (rw (zx, zy, zz) at (w.in_parts.ensures seen)) ∙ w.if-in_parts.false in
          told ∙ no ∙ group_out a.g seen a.x a.y a.z no
      | else-g-via-else-g w ↦ told ∙ group_undated a.g seen a.x a.y a.z w.if-g.false
    ]
