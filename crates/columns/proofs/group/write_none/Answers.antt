use mathlib.Core.Path.{sym, ◌∙◌}
use Prim.Native.Nat.{◌+◌}
use lib.ListN.{replicate, length-replicate}
use Rattle.columns.specs.Answer.{required_blank}
use Rattle.columns.specs.Column.{missing, group_width}
use Rattle.columns.specs.Group.{put_group}
use Rattle.columns.specs.Table.{slot_of}
use Rattle.columns.proofs.laws.Answers.{wrote_refused, wrote_done}
use Rattle.columns.proofs.laws.Puts.{none_second, none_third, none_all}
use Rattle.columns.proofs.group.write_none.Goals as goal
use Rattle.columns.proofs.group.write_none.Goals.{then-fb-ne0-via-then-fb-ne0, then-fb-ne0-via-else-fb-ne0+then-fc-ne0}

pub returns-then-fb-ne0 : goal.returns-then-fb-ne0
returns-then-fb-ne0 c =
    let a = c.args in
    λ seen. rw c.at.ensures
    (wrote_refused (put_group a.g seen a.at missing (slot_of a.fb a.y) (slot_of a.fc a.z)) a.out.now required_blank (a.at + 1)
    (elim c.then-fb-ne0.branch [
      | then-fb-ne0-via-then-fb-ne0 w ↦ none_second a.g seen a.at a.fb a.fc a.y a.z w.if-fb-ne0.true
      | then-fb-ne0-via-else-fb-ne0+then-fc-ne0 w ↦ none_third a.g seen a.at a.fb a.fc a.y a.z w.if-fb-ne0.false w.if-fc-ne0.true
    ]))

pub returns : goal.returns
returns c =
    let a = c.args in
    let l = c.requires.0 in
    λ seen. wrote_done (put_group a.g seen a.at missing (slot_of a.fb a.y) (slot_of a.fc a.z)) a.out.now (replicate (group_width a.g) 32) _
    (none_all a.g seen a.at a.fb a.fc a.y a.z c.if-fb-ne0.false c.if-fc-ne0.false) (length-replicate (group_width a.g) 32 ∙ sym l) (c.blanks.ensures ∙ rw l)
