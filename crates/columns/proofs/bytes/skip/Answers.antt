use Rattle.std.proofs.Common.{length, drop, ◌-◌, arith, sym, ◌∙◌}
use lib.Seq.{take_all}
use lib.ListN.{length-drop}
use Rattle.columns.proofs.laws.Bytes.{skip_same, skip_other, skip_none, drop_end}
use Rattle.columns.proofs.bytes.skip.Goals as goal

pub returns-then-here-b : goal.returns-then-here-b
returns-then-here-b c =
    let a = c.args in
    let i = c.loop-i.i in
    take_all (length a.s.now - i) (drop i a.s.now) (omega (arith, length-drop i a.s.now))
    ∙ sym (c.loop-i.invariant ∙ skip_other a.b a.s.now i c.loop-i-test.true c.if-here-b.true)

pub loop-i-preserved : goal.loop-i-preserved
loop-i-preserved c =
    let a = c.args in
    c.loop-i.invariant ∙ skip_same a.b a.s.now c.loop-i.i c.loop-i-test.true c.if-here-b.false

pub returns : goal.returns
returns c =
    let a = c.args in
    let n = length a.s.now in
    take_all (n - n) (drop n a.s.now) (omega (arith, length-drop n a.s.now))
    ∙ drop_end a.s.now n (omega arith)
    ∙ sym (c.loop-i.invariant ∙ skip_none a.b a.s.now c.loop-i.i c.loop-i-test.false)
