use native.Mathlib.Omega.{arith}
use mathlib.Core.Path.{sym, ◌∙◌}
use Rattle.columns.proofs.laws.Written.{back_turn, back_end}
use Rattle.columns.proofs.written.write_back.Goals as goal

pub loop-i-preserved : goal.loop-i-preserved
loop-i-preserved c =
    let l = c.loop-i in
    l.invariant ∙ back_turn l.out l.i l.p _ _ c.loop-i-test.true (omega (arith, l.auto.out, l.auto.i)) c.byte.ensures c.next-p.ensures

pub returns : goal.returns
returns c =
    let l = c.loop-i in
    sym (l.invariant ∙ back_end l.out l.i l.p c.loop-i-test.false)
