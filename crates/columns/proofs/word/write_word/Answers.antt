use native.Mathlib.Omega.{arith}
use mathlib.Core.Path.{sym, ◌∙◌}
use Rattle.columns.proofs.laws.Word.{word_turn, word_end}
use Rattle.columns.proofs.word.write_word.Goals as goal

pub loop-i-preserved : goal.loop-i-preserved
loop-i-preserved c =
    let l = c.loop-i in
    l.invariant ∙ word_turn l.out l.i l.m c.loop-i-test.true (omega (arith, l.auto.out, l.auto.i))

pub returns : goal.returns
returns c =
    let l = c.loop-i in
    sym (l.invariant ∙ word_end l.out l.i l.m c.loop-i-test.false)
