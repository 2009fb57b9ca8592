use borrow.Author.Rules.{rules}
use mathlib.Core.Path.{sym, ◌∙◌}
use Prim.Native.Nat.{◌+◌}
use lib.IntN.{nat_abs}
use mir.Syntax.{w64}
use mir.ValLaws.{to_z-of_z}
use borrow.Author.Tests.{not-true, not-false}
use Rattle.columns.specs.Answer.{out_of_range, too_wide}
use Rattle.columns.specs.Column.{given}
use Rattle.columns.specs.Group.{put_group, group_bytes}
use Rattle.columns.proofs.laws.Answers.{wrote_refused, wrote_done}
use Rattle.columns.proofs.laws.Puts.{three_wide, three_out, three_in}
use Rattle.columns.proofs.laws.GroupBack.{group_length}
use Rattle.columns.proofs.group.write_three.Goals as goal

pub returns-then-not-holds_group : goal.returns-then-not-holds_group
returns-then-not-holds_group c =
    let a = c.args in
    let zx = to_z-of_z w64 a.x (search rules) in
    let zy = to_z-of_z w64 a.y (search rules) in
    let zz = to_z-of_z w64 a.z (search rules) in
    λ seen. rw c.at.ensures
    (wrote_refused (put_group a.g seen a.at (given a.x) (given a.y) (given a.z)) a.out.now too_wide (a.at + 1)
    (three_wide a.g seen a.at a.x a.y a.z (sym (rw (zx, zy, zz) at c.holds_group.ensures) ∙ not-true _ c.if-not-holds_group.true-raw)))

pub returns-then-not-in_group : goal.returns-then-not-in_group
returns-then-not-in_group c =
    let a = c.args in
    let zx = to_z-of_z w64 a.x (search rules) in
    let zy = to_z-of_z w64 a.y (search rules) in
    let zz = to_z-of_z w64 a.z (search rules) in
    λ seen. rw c.at-then-not-in_group.ensures
    (wrote_refused (put_group a.g seen a.at (given a.x) (given a.y) (given a.z)) a.out.now out_of_range (a.at + 1)
    (three_out a.g seen a.at a.x a.y a.z (sym (rw (zx, zy, zz) at c.holds_group.ensures) ∙ not-false _ c.if-not-holds_group.false-raw)
    (sym (rw (zx, zy, zz) at (c.in_group.ensures seen)) ∙ not-true _ c.if-not-in_group.true-raw)))

pub returns : goal.returns
returns c =
    let a = c.args in
    let zx = to_z-of_z w64 a.x (search rules) in
    let zy = to_z-of_z w64 a.y (search rules) in
    let zz = to_z-of_z w64 a.z (search rules) in
    λ seen. wrote_done (put_group a.g seen a.at (given a.x) (given a.y) (given a.z)) a.out.now (group_bytes a.g (nat_abs a.x) (nat_abs a.y) (nat_abs a.z)) _
    (three_in a.g seen a.at a.x a.y a.z (sym (rw (zx, zy, zz) at c.holds_group.ensures) ∙ not-false _ c.if-not-holds_group.false-raw)
    (sym (rw (zx, zy, zz) at (c.in_group.ensures seen)) ∙ not-false _ c.if-not-in_group.false-raw))
    (group_length a.g (nat_abs a.x) (nat_abs a.y) (nat_abs a.z) c.requires.1.0 ∙ sym c.requires.0)
    (c.write_parts.ensures ∙ rw (c.magnitude_of.ensures, c.magnitude_of-2.ensures, c.magnitude_of-3.ensures, zx, zy, zz))
