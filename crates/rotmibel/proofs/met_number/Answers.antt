use mathlib.Core.Path.{ap, ◌∙◌}
use Rattle.formats.specs.Format.{header_of}
use Rattle.rotmibel.specs.Answers.{line_number}
use Rattle.rotmibel.proofs.laws.Answers.{line_small, block_line_small}
use Rattle.rotmibel.proofs.met_number.Goals as goal

pub line_number-requires : goal.line_number-requires
line_number-requires c =
    let a = c.args in
    line_small _ _ c.met_line.ensures (block_line_small (header_of a.kind) a.block.now a.before)

pub returns : goal.returns
returns c =
    c.line_number.ensures ∙ ap line_number c.met_line.ensures
