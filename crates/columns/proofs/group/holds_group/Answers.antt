use borrow.Author.Rules.{rules}
use mir.Syntax.{w64}
use mir.ValLaws.{to_z-of_z}
use Rattle.columns.proofs.laws.GroupBack.{fine, part_form}
use Rattle.columns.proofs.group.holds_group.Goals as goal

pub holds_number-requires : goal.holds_number-requires
holds_number-requires c =
    part_form c.args.g.second (fine c.args.g c.requires).second

pub holds_number-requires-2 : goal.holds_number-requires-2
holds_number-requires-2 c =
    part_form c.args.g.third (fine c.args.g c.requires).third

pub holds_number-requires-3 : goal.holds_number-requires-3
holds_number-requires-3 c =
    part_form c.args.g.first (fine c.args.g c.requires).first

pub returns : goal.returns
returns c =
    let a = c.args in
    let zx = to_z-of_z w64 a.x (search rules) in
    let zy = to_z-of_z w64 a.y (search rules) in
    let zz = to_z-of_z w64 a.z (search rules) in
    rw (rw zx at c.holds_number-3.ensures, rw zy at c.holds_number.ensures, rw zz at c.holds_number-2.ensures)
