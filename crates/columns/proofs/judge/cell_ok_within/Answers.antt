use borrow.Author.Rules.{rules}
use native.Mathlib.Omega.{arith}
use mathlib.Core.Path.{◌≡◌, refl, ◌∙◌}
use Prim.Native.Nat.{◌+◌, ◌-◌}
use lib.ListN.{drop, length-take, length-drop}
use lib.Seq.{slice}
use Rattle.columns.specs.Column.{text, numeric}
use Rattle.columns.specs.Judge.{last_day_before}
use Rattle.columns.specs.Table.{range_at}
use Rattle.columns.specs.declared.column.Column.TheVariants as K
use Rattle.columns.specs.declared.number.Form.TheVariants as N
use Rattle.columns.proofs.laws.Bytes.{slice_is}
use Rattle.columns.proofs.laws.Table.{good_text}
use Rattle.columns.proofs.laws.Form.{good_int, form_integer}
use Rattle.columns.proofs.laws.Judge.{day_looks, number_judged, text_judged}
use Rattle.columns.proofs.judge.cell_ok_within.Goals as goal

pub read_int-field-requires : goal.read_int-field-requires
read_int-field-requires c =
    let a = c.args in
    let w = c.in-Number-Integer-default-default in
    let e : a.c ≡ K.Number (N.Integer w.width) w.required w.range = search rules in
    let p = rw e at c.requires in
    omega (arith, length-take (a.at + w.width - a.at) (drop a.at a.line.now), (good_int w.width p.1).1)

pub number_ok-requires : goal.number_ok-requires
number_ok-requires c =
    let a = c.args in
    let w = c.in-Number-Integer-default-default in
    let e : a.c ≡ K.Number (N.Integer w.width) w.required w.range = search rules in
    let p = rw e at c.requires in
    (omega (arith, p.2.1.1), λ q. p.2.1.0 (day_looks a.ranges.now w.range q), p.0)

pub text_ok-requires : goal.text_ok-requires
text_ok-requires c =
    let a = c.args in
    let w = c.in-Text in
    let p = rw c.in-Text.is at c.requires in
    omega (arith, length-take (a.at + w.width - a.at) (drop a.at a.line.now), length-drop a.at a.line.now, good_text w.width w.rule (text w.width w.rule) refl p.1, p.2.1.1)

pub returns-in-Number-Integer-default-default : goal.returns-in-Number-Integer-default-default
returns-in-Number-Integer-default-default c =
    let a = c.args in
    let w = c.in-Number-Integer-default-default in
    let e : a.c ≡ K.Number (N.Integer w.width) w.required w.range = search rules in
    let z : a.at + w.width - a.at ≡ w.width = omega arith in
    let x = rw (z, ← slice_is a.line.now a.at w.width) at c.read_int-field.ensures in
    rw e
    (number_judged (numeric (N.Integer w.width) w.required (range_at a.ranges.now w.range)) (N.Integer w.width) w.required (range_at a.ranges.now w.range) (slice a.at (a.at + w.width) a.line.now) (last_day_before a.line.now a.at) _ _ refl (x ∙ form_integer w.width _) (λ seen k h. c.number_ok.ensures seen k (λ q. h (day_looks a.ranges.now w.range q))))

pub returns-in-Text : goal.returns-in-Text
returns-in-Text c =
    let a = c.args in
    let z : a.at + c.in-Text.width - a.at ≡ c.in-Text.width = omega arith in
    rw c.in-Text.is (text_judged (text c.in-Text.width c.in-Text.rule) c.in-Text.width c.in-Text.rule a.at _ _ _ refl (rw (z, ← slice_is a.line.now a.at c.in-Text.width) at (c.text_ok.ensures a.at)))
