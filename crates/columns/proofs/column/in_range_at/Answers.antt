use borrow.Author.Rules.{rules}
use mathlib.Core.Path.{◌∙◌}
use mir.Syntax.{w64}
use mir.ValLaws.{to_z-of_z}
use native.Mathlib.Omega.{arith}
use Rattle.columns.proofs.laws.Ranges.{allowed_held, allowed_from_zero, allowed_span}
use Rattle.columns.proofs.column.in_range_at.Goals as goal

pub returns-in-0 : goal.returns-in-0
returns-in-0 c = λ seen. allowed_held c.args.ranges.now c.args.k seen c.args.v c.in-0.is

pub returns-in-1 : goal.returns-in-1
returns-in-1 c =
    let a = c.args in
    let z = to_z-of_z w64 a.v (search rules) in
    λ seen. rw z (allowed_from_zero a.ranges.now a.k seen a.v c.in-1.is)

pub returns-in_default : goal.returns-in_default
returns-in_default c =
    let a = c.args in
    let z = to_z-of_z w64 a.v (search rules) in
    let zl = to_z-of_z w64 c.end_at.result (search rules) in
    let zh = to_z-of_z w64 c.end_at-in_default.result (search rules) in
    λ seen. rw (z, zl, zh) at c.in_range.ensures ∙ rw (c.end_at.ensures, c.end_at-in_default.ensures) (allowed_span a.ranges.now a.k seen a.v (λ e. omega arith) (λ e. omega arith) c.requires.1)
