use borrow.Author.Rules.{rules}
use mathlib.Core.Path.{sym, ◌∙◌}
use Rattle.formats.proofs.laws.Check.{sum_more, sum_none}
use Rattle.formats.proofs.check.with_all.Goals as goal

pub loop-b-preserved : goal.loop-b-preserved
loop-b-preserved c =
    let l = c.loop-b in
    l.invariant ∙ sum_more c.args.s.now l.b-index l.sum (search rules) ∙ rw c.with_byte-sum.ensures

pub returns : goal.returns
returns c =
    let l = c.loop-b in
    sym (l.invariant ∙ sum_none c.args.s.now l.b-index l.sum (search rules))
