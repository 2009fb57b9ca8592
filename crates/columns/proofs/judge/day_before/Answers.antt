use borrow.Author.Rules.{rules}
use native.Mathlib.Omega.{arith}
use mathlib.Core.Path.{◌≡◌}
use Prim.Native.Nat.{◌-◌}
use mir.Syntax.{w64}
use mir.ValLaws.{to_z-of_z}
use Rattle.columns.specs.Judge.{last_day_before}
use Rattle.columns.proofs.laws.Calendar.{early_day}
use Rattle.columns.proofs.laws.Bytes.{slice_is}
use Rattle.columns.proofs.laws.Judge.{before_least}
use Rattle.columns.proofs.judge.day_before.Goals as goal

pub returns-then-v-lt29 : goal.returns-then-v-lt29
returns-then-v-lt29 c =
    let a = c.args in
    let z = to_z-of_z w64 a.v (search rules) in
    rw z (early_day (last_day_before a.line.now a.at) a.v (before_least a.line.now a.at) (rw z at c.if-v-lt29.true))

pub returns : goal.returns
returns c =
    let a = c.args in
    let z = to_z-of_z w64 a.v (search rules) in
    let y = slice_is a.line.now (a.at - 6) 4 in
    let m = slice_is a.line.now (a.at - 2) 2 in
    let p : a.at - 2 - (a.at - 6) ≡ 4 = omega arith in
    let q : a.at - (a.at - 2) ≡ 2 = omega arith in
    rw (z, rw p at c.read_any_int-year.ensures, rw q at c.read_any_int-month.ensures, ← y, ← m) at c.is_day.ensures
