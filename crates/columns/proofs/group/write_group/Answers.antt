use borrow.Author.Rules.{rules}
use Prim.Native.Nat.{◌+◌}
use lib.ListN.{get_or}
use lib.IntN.{pos}
use mir.Syntax.{w64}
use mir.ValLaws.{to_z-of_z}
use Rattle.columns.proofs.group.write_group.Goals as goal

pub returns : goal.returns
returns c =
    let a = c.args in
    let zx = to_z-of_z w64 (get_or a.values.now a.k (pos 0)) (search rules) in
    let zy = to_z-of_z w64 (get_or a.values.now (a.k + 1) (pos 0)) (search rules) in
    let zz = to_z-of_z w64 (get_or a.values.now (a.k + 2) (pos 0)) (search rules) in
    λ seen. rw (zx, zy, zz) at (c.write_flagged.ensures seen)
