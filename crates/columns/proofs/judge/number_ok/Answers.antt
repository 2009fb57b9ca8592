use native.Mathlib.Omega.{arith}
use borrow.Author.Rules.{rules}
use mathlib.Core.Path.{sym, ap, ◌∙◌}
use Prim.Native.Nat.{ℕ, ◌+◌}
use lib.IntN.{pos}
use mir.Syntax.{w64}
use mir.ValLaws.{to_z-of_z}
use Rattle.columns.specs.Answer.{required_blank, out_of_range}
use Rattle.columns.specs.Column.{missing, given, within}
use Rattle.columns.specs.Reading.{one_number}
use Rattle.columns.proofs.laws.Judge.{ok_pick, ok_unless}
use Rattle.columns.proofs.laws.Ranges.{allowed_day}
use Rattle.columns.proofs.judge.number_ok.Goals as goal

pub day_before-requires : goal.day_before-requires
day_before-requires c = (c.requires.1 c.if-range-eq2.true, c.requires.0)

pub returns-in-Missing : goal.returns-in-Missing
returns-in-Missing c = λ seen k h. rw c.in-Missing.is (ok_unless c.args.required (one_number missing) required_blank (k + 1))

pub returns-in-Bad : goal.returns-in-Bad
returns-in-Bad c = λ seen k h. rw c.in-Bad.is

pub returns-in-Value : goal.returns-in-Value
returns-in-Value c =
    let a = c.args in
    let t = c.if-range-eq2.true in
    let z = to_z-of_z w64 c.in-Value.v (search rules) in
    λ seen k h. rw c.in-Value.is (rw z at c.day_before.ensures ∙ ap (λ (d : ℕ). within (pos 1) (pos d) c.in-Value.v) (sym (h t)) ∙ allowed_day a.ranges.now a.range seen c.in-Value.v t ∙ ok_pick _ (one_number (given c.in-Value.v)) out_of_range (k + 1))

pub returns-in-Value-2 : goal.returns-in-Value-2
returns-in-Value-2 c =
    let z = to_z-of_z w64 c.in-Value-2.v (search rules) in
    λ seen k h. rw c.in-Value-2.is (rw z at (c.in_range_at.ensures seen) ∙ ok_pick _ (one_number (given c.in-Value-2.v)) out_of_range (k + 1))

pub in_range_at-requires : goal.in_range_at-requires
in_range_at-requires c = (c.requires.2, c.if-range-eq2.false)
