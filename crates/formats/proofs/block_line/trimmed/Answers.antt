use native.Mathlib.Omega.{arith}
use mathlib.Core.Path.{◌≡◌, ◌∙◌}
use Prim.Native.Nat.{◌+◌, ◌-◌}
use Rattle.formats.proofs.laws.BlockLine.{trim_blank, trim_other, trim_none}
use borrow.Author.Rules.{rules}
use Rattle.formats.proofs.block_line.trimmed.Goals as goal

pub returns-then-line-i-ne-BLANK : goal.returns-then-line-i-ne-BLANK
returns-then-line-i-ne-BLANK c =
    let i = c.loop-i.i in
    let e : i - 1 + 1 ≡ i = omega arith in
    (rw e (c.loop-i.invariant.1 ∙ trim_other _ i c.loop-i-test.true c.loop-i.invariant.0 c.if-line-i-ne-BLANK.true), omega (arith, c.loop-i.invariant.0))

pub loop-i-preserved : goal.loop-i-preserved
loop-i-preserved c =
    let i = c.loop-i.i in
    (omega (arith, c.loop-i.invariant.0), c.loop-i.invariant.1 ∙ trim_blank _ i c.loop-i-test.true c.loop-i.invariant.0 c.if-line-i-ne-BLANK.false)

pub returns : goal.returns
returns c =
    let i = c.loop-i.i in
    let z : i ≡ 0 = omega (arith, c.loop-i-test.false) in
    (rw z at c.loop-i.invariant.1 ∙ trim_none c.args.line.now 0 (search rules), search rules)
