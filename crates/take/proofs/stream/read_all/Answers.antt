use Rattle.take.proofs.laws.Steps.{passed_none, passed_more}
use native.Mathlib.Omega.{arith}
use lib.ListN.{take}
use Rattle.take.proofs.stream.read_all.Goals as goal

pub loop-init : goal.loop-init
loop-init g c =
    (passed_none c.args.intake.now, omega (arith, c.requires.1))

pub loop-preserved : goal.loop-preserved
loop-preserved g c =
    let t = c.read_next-n.ensures in
    let l = c.loop in
    (passed_more (take c.read_next-n.result.0 c.read_next-n.new.chunk) l.invariant.0 t.session, omega (arith, t.counted, l.invariant.1))

pub returns-in_err-outcome : goal.returns-in_err-outcome
returns-in_err-outcome g c =
    let t = c.read_next-n.ensures in
    let l = c.loop in
    (passed_more (take c.read_next-n.result.0 c.read_next-n.new.chunk) l.invariant.0 t.session, omega (arith, t.counted, l.invariant.1, c.loop-test.true, l.auto.counter-end))

pub returns-then-n-eq0 : goal.returns-then-n-eq0
returns-then-n-eq0 g c =
    let t = c.read_next-n.ensures in
    let l = c.loop in
    (passed_more (take c.read_next-n.result.0 c.read_next-n.new.chunk) l.invariant.0 t.session, omega (arith, t.counted, l.invariant.1, c.loop-test.true, l.auto.counter-end))
