use borrow.Author.Rules.{rules}
use mathlib.Core.Path.{refl, sym, ◌∙◌}
use Rattle.formats.proofs.laws.Lines.{end_stop, end_other, end_last}
use Rattle.formats.proofs.lines.scan_end.Goals as goal

pub loop-i-init : goal.loop-i-init
loop-i-init c =
    (refl, search rules)

pub returns-then-s-i : goal.returns-then-s-i
returns-then-s-i c =
    let a = c.args in
    (sym (c.loop-i.invariant.0 ∙ end_stop a.stop a.s.now c.loop-i.i (search rules) c.if-s-i.true), search rules)

pub loop-i-preserved : goal.loop-i-preserved
loop-i-preserved c =
    let a = c.args in
    (c.loop-i.invariant.0 ∙ end_other a.stop a.s.now c.loop-i.i (search rules) c.if-s-i.false, search rules)

pub returns : goal.returns
returns c =
    let a = c.args in
    (sym (c.loop-i.invariant.0 ∙ end_last a.stop a.s.now c.loop-i.i (search rules)), search rules)
