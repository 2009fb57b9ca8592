use native.Mathlib.Omega.{arith}
use mathlib.Core.Path.{◌≡◌, sym, ◌∙◌}
use Prim.Native.Nat.{◌+◌}
use Rattle.columns.proofs.laws.Bytes.{barred_next, barred_here, barred_none, found_some}
use Rattle.columns.proofs.bytes.scan_barred.Goals as goal

pub returns-then-is_barred : goal.returns-then-is_barred
returns-then-is_barred c =
    let a = c.args in
    let here = c.loop-i.invariant ∙ barred_here a.from a.to a.s.now c.loop-i.i (a.column + c.loop-i.i) c.loop-i-test.true (sym c.is_barred.ensures ∙ c.if-is_barred.true) in
    rw here (sym (found_some (a.column + c.loop-i.i) (omega arith)))

pub loop-i-preserved : goal.loop-i-preserved
loop-i-preserved c =
    let a = c.args in
    let z : a.column + (c.loop-i.i + 1) ≡ a.column + c.loop-i.i + 1 = omega arith in
    c.loop-i.invariant
    ∙ barred_next a.from a.to a.s.now c.loop-i.i (a.column + c.loop-i.i) c.loop-i-test.true (sym c.is_barred.ensures ∙ c.if-is_barred.false)
    ∙ rw z

pub returns : goal.returns
returns c =
    let a = c.args in
    rw (c.loop-i.invariant ∙ barred_none a.from a.to a.s.now c.loop-i.i (a.column + c.loop-i.i) c.loop-i-test.false)
