use borrow.Author.Rules.{rules}
use mathlib.Core.Path.{◌∙◌}
use mathlib.Core.List.{[], ◌∷◌, ◌++◌}
use mir.Syntax.{w64}
use mir.ValLaws.{to_z-of_z}
use Rattle.columns.proofs.laws.Ranges.{part_allowed}
use Rattle.columns.specs.Column.{given}
use Rattle.columns.proofs.group.in_parts.Goals as goal

pub returns : goal.returns
returns c =
    let a = c.args in
    let zx = to_z-of_z w64 a.x (search rules) in
    let zy = to_z-of_z w64 a.y (search rules) in
    let zz = to_z-of_z w64 a.z (search rules) in
    let la = to_z-of_z w64 a.g.first.low (search (rules, c.well_formed)) in
    let ha = to_z-of_z w64 a.g.first.high (search (rules, c.well_formed)) in
    let lb = to_z-of_z w64 a.g.second.low (search (rules, c.well_formed)) in
    let hb = to_z-of_z w64 a.g.second.high (search (rules, c.well_formed)) in
    let lc = to_z-of_z w64 a.g.third.low (search (rules, c.well_formed)) in
    let hc = to_z-of_z w64 a.g.third.high (search (rules, c.well_formed)) in
    λ seen. rw (rw (zx, la, ha) at c.in_range-3.ensures ∙ part_allowed a.g.first seen a.x, rw (zy, lb, hb) at c.in_range.ensures ∙ part_allowed a.g.second (seen ++ given a.x ∷ []) a.y, rw (zz, lc, hc) at c.in_range-2.ensures ∙ part_allowed a.g.third (seen ++ given a.x ∷ given a.y ∷ []) a.z)
