use borrow.Author.Rules.{rules}
use Prim.Native.Nat.{◌+◌}
use mir.Syntax.{w64}
use mir.ValLaws.{to_z-of_z}
use Rattle.columns.specs.Answer.{required_blank}
use Rattle.columns.specs.Group.{put_group}
use Rattle.columns.specs.Table.{slot_of}
use Rattle.columns.proofs.laws.Answers.{wrote_refused, wrote_as}
use Rattle.columns.proofs.laws.Puts.{no_first, no_second, no_third, all_three}
use Rattle.columns.proofs.group.write_flagged.Goals as goal
use Rattle.columns.proofs.group.write_flagged.Goals.{then-fb-eq0-via-then-fb-eq0, then-fb-eq0-via-else-fb-eq0+then-fc-eq0}

pub returns-then-fa-eq0 : goal.returns-then-fa-eq0
returns-then-fa-eq0 c =
    let a = c.args in
    let zx = to_z-of_z w64 a.x (search rules) in
    let zy = to_z-of_z w64 a.y (search rules) in
    let zz = to_z-of_z w64 a.z (search rules) in
    λ seen. wrote_as _ a.out.now _ _ _ (no_first a.g seen a.at a.fa a.fb a.fc a.x a.y a.z c.if-fa-eq0.true) (rw (zy, zz) at (c.write_none.ensures seen))

pub returns-then-fb-eq0 : goal.returns-then-fb-eq0
returns-then-fb-eq0 c =
    let a = c.args in
    λ seen. rw c.at.ensures
    (wrote_refused (put_group a.g seen a.at (slot_of a.fa a.x) (slot_of a.fb a.y) (slot_of a.fc a.z)) a.out.now required_blank (a.at + 1)
    (elim c.then-fb-eq0.branch [
      | then-fb-eq0-via-then-fb-eq0 w ↦ no_second a.g seen a.at a.fa a.fb a.fc a.x a.y a.z c.if-fa-eq0.false w.if-fb-eq0.true
      | then-fb-eq0-via-else-fb-eq0+then-fc-eq0 w ↦ no_third a.g seen a.at a.fa a.fb a.fc a.x a.y a.z c.if-fa-eq0.false w.if-fb-eq0.false w.if-fc-eq0.true
    ]))

pub returns : goal.returns
returns c =
    let a = c.args in
    let zx = to_z-of_z w64 a.x (search rules) in
    let zy = to_z-of_z w64 a.y (search rules) in
    let zz = to_z-of_z w64 a.z (search rules) in
    λ seen. wrote_as _ a.out.now _ _ _ (all_three a.g seen a.at a.fa a.fb a.fc a.x a.y a.z c.if-fa-eq0.false c.if-fb-eq0.false c.if-fc-eq0.false) (rw (zx, zy, zz) at (c.write_three.ensures seen))
