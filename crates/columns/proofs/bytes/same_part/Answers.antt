use native.Mathlib.Omega.{arith}
use mathlib.Core.Path.{sym, ap, ◌∙◌}
use mathlib.Core.Bool.{◌&&◌, and-true}
use Rattle.columns.proofs.laws.Bytes.{same_turn, same_end}
use Rattle.columns.proofs.bytes.same_part.Goals as goal

pub loop-i-preserved : goal.loop-i-preserved
loop-i-preserved c =
    let a = c.args in
    let i = c.loop-i.i in
    sym (same_turn a.a.now a.b.now i c.loop-i-test.true (omega (arith, c.requires, c.loop-i-test.true)) c.loop-i.ok) ∙ c.loop-i.invariant

pub returns : goal.returns
returns c =
    let a = c.args in
    let ok = c.loop-i.ok in
    sym (and-true ok)
    ∙ ap (λ t. ok && t) (sym (same_end a.a.now a.b.now c.loop-i.i c.loop-i-test.false (omega (arith, c.requires, c.loop-i-test.false))))
    ∙ c.loop-i.invariant
