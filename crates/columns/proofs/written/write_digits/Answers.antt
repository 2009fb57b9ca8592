use native.Mathlib.Omega.{arith}
use mathlib.Core.Path.{sym, ◌∙◌}
use Rattle.columns.proofs.laws.Written.{write_turn, write_end}
use Rattle.columns.proofs.written.write_digits.Goals as goal

pub loop-i-preserved : goal.loop-i-preserved
loop-i-preserved c =
    let l = c.loop-i in
    l.invariant ∙ write_turn l.out l.i l.m c.loop-i-test.true (omega (arith, l.auto.out, l.auto.i))

pub returns : goal.returns
returns c =
    let l = c.loop-i in
    sym (l.invariant ∙ write_end l.out l.i l.m c.loop-i-test.false)
