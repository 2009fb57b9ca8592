use native.Mathlib.Omega.{arith}
use mathlib.Core.Path.{◌≡◌, sym, ◌∙◌}
use Prim.Native.Nat.{◌+◌, ◌-◌}
use lib.ListN.{length, take, drop, length-take, length-drop}
use lib.Seq.{take_all}
use Rattle.columns.specs.Number.{form_width}
use Rattle.columns.specs.Column.{second_end, second_start, third_start}
use Rattle.columns.proofs.laws.Cursor.{group_missing, group_no_first, group_no_second, group_parts}
use Rattle.columns.proofs.laws.GroupBack.{fine, part_form}
use Rattle.columns.proofs.group.read_group.Goals.{then-s-one-via-then-s-one, then-s-one-via-else-s-one+then-s-two}
use Rattle.columns.proofs.group.read_group.Goals as goal

pub returns-then-is_blank : goal.returns-then-is_blank
returns-then-is_blank c = group_missing c.args.g c.args.s.now (sym c.is_blank.ensures ∙ c.if-is_blank.true)

pub returns-then-s-one : goal.returns-then-s-one
returns-then-s-one c =
    let a = c.args in
    let b = sym c.is_blank.ensures ∙ c.if-is_blank.false in
    let e = c.width_of-one.ensures in
    let f = c.width_of.ensures in
    let u : c.width_of-one.result + 1 + c.width_of.result ≡ second_end a.g = omega arith in
    elim c.then-s-one.branch [
      | then-s-one-via-then-s-one w ↦ group_no_first a.g a.s.now b (rw e at w.if-s-one.true)
      | then-s-one-via-else-s-one+then-s-two w ↦ group_no_second a.g a.s.now b (rw e at w.if-s-one.false) (rw u at w.if-s-two.true)
    ]

pub read_number-requires : goal.read_number-requires
read_number-requires c =
    let a = c.args in
    (omega (arith, length-take c.width_of-one.result a.s.now, c.width_of-one.ensures, c.requires.0), part_form a.g.first (fine a.g c.requires.1).first)

pub read_number-requires-2 : goal.read_number-requires-2
read_number-requires-2 c =
    let a = c.args in
    let n = c.width_of-one.result + 1 in
    (omega (arith, length-take (n + c.width_of.result - n) (drop n a.s.now), length-drop n a.s.now, c.width_of-one.ensures, c.width_of.ensures, c.requires.0), part_form a.g.second (fine a.g c.requires.1).second)

pub read_number-requires-3 : goal.read_number-requires-3
read_number-requires-3 c =
    let a = c.args in
    let n = c.width_of-one.result + 1 + c.width_of.result + 1 in
    (omega (arith, length-take (length a.s.now - n) (drop n a.s.now), length-drop n a.s.now, c.width_of-one.ensures, c.width_of.ensures, c.requires.0), part_form a.g.third (fine a.g c.requires.1).third)

pub returns : goal.returns
returns c =
    let a = c.args in
    let b = sym c.is_blank.ensures ∙ c.if-is_blank.false in
    let e = c.width_of-one.ensures in
    let f = c.width_of.ensures in
    let u : c.width_of-one.result + 1 + c.width_of.result ≡ second_end a.g = omega arith in
    let v : c.width_of-one.result + 1 ≡ second_start a.g = omega arith in
    let m : c.width_of-one.result + 1 + c.width_of.result - (c.width_of-one.result + 1) ≡ form_width a.g.second.form = omega arith in
    let t : c.width_of-one.result + 1 + c.width_of.result + 1 ≡ third_start a.g = omega arith in
    let r : take (length a.s.now - third_start a.g) (drop (third_start a.g) a.s.now) ≡ drop (third_start a.g) a.s.now = take_all (length a.s.now - third_start a.g) (drop (third_start a.g) a.s.now) (omega (arith, length-drop (third_start a.g) a.s.now)) in
    c.three_of.ensures
    ∙ rw (rw e at c.read_number.ensures, rw (m, v) at c.read_number-2.ensures, rw (t, r) at c.read_number-3.ensures) (group_parts a.g a.s.now b (rw e at c.if-s-one.false) (rw u at c.if-s-two.false))
