use Rattle.formats.proofs.laws.Block.{reading_refused, reading_closing, reading_next, reading_end}
use Rattle.formats.proofs.laws.BlockReader.{found_at, end_at}
use mathlib.Core.Path.{sym, ap, ◌∙◌}
use Rattle.std.specs.Prelude.{Err}
use Rattle.formats.proofs.block.read_lines.Goals as goal

pub returns-in-Ok-None : goal.returns-in-Ok-None
returns-in-Ok-None c =
    reading_closing _ _ c.loop-found.invariant (found_at _ _ (sym c.in-Some.is ∙ c.line_from.ensures.found)) c.line_step.ensures (rw c.in-Ok-None.field-0-is at c.in-Ok-None.is)

pub returns-in-Err : goal.returns-in-Err
returns-in-Err c =
    ap Err c.on_line.ensures ∙ reading_refused _ _ c.loop-found.invariant (found_at _ _ (sym c.in-Some.is ∙ c.line_from.ensures.found)) c.line_step.ensures _ c.in-Err.is

pub loop-found-preserved : goal.loop-found-preserved
loop-found-preserved c =
    reading_next _ _ c.loop-found.invariant (found_at _ _ (sym c.in-Some.is ∙ c.line_from.ensures.found)) c.line_step.ensures _ _ (rw c.in-Ok-Some.field-0-is at c.in-Ok-Some.is)

pub returns : goal.returns
returns c =
    reading_end _ _ c.loop-found.invariant (end_at c.args.block.now c.loop-found.at (sym c.in_default.is ∙ c.line_from.ensures.found))
