use mathlib.Core.Path.{ap, ◌∙◌}
use Rattle.rotmibel.proofs.laws.Answers.{met_first, met_next}
use Rattle.formats.specs.BlockWalk.{first_line, next_line}
use Rattle.formats.specs.Format.{header_of}
use Rattle.rotmibel.proofs.met_line.Goals as goal

pub returns-then-before-eq0 : goal.returns-then-before-eq0
returns-then-before-eq0 c =
    let a = c.args in
    c.first_line.ensures ∙ met_first _ (next_line a.block.now) a.before c.if-before-eq0.true

pub returns : goal.returns
returns c =
    let a = c.args in
    c.next_line.ensures ∙ ap (next_line a.block.now) c.line_of.ensures ∙ met_next (first_line (header_of a.kind) a.block.now) (next_line a.block.now) a.before c.if-before-eq0.false
