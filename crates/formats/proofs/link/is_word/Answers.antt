use mathlib.Core.Path.{◌∙◌}
use native.Mathlib.Omega.{arith}
use Rattle.formats.specs.Lines.{end_from}
use Rattle.formats.proofs.laws.Link.{word_none, word_is}
use Rattle.formats.proofs.link.is_word.Goals as goal

pub returns-then-s-ne0 : goal.returns-then-s-ne0
unfolding end_from
returns-then-s-ne0 c =
    word_is c.args.s.now c.if-s-ne0.true _ (c.scan_end.ensures.0 ∙ omega arith)

pub returns-else-s-ne0 : goal.returns-else-s-ne0
returns-else-s-ne0 c =
    rw c.if-s-ne0.false (word_none _ c.if-s-ne0.false)
