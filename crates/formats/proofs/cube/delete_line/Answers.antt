use mathlib.Core.Path.{ap, ◌∙◌}
use Rattle.columns.specs.Table.{placed}
use Rattle.formats.proofs.laws.CubeWriting.{delete_laid}
use Rattle.formats.proofs.cube.delete_line.Goals as goal

pub returns : goal.returns
returns c =
    let a = c.args in
    c.copy_at-2.ensures ∙ ap (placed 13 a.text.now) c.copy_at.ensures ∙ delete_laid a.names.now a.text.now c.requires.0 c.requires.1
