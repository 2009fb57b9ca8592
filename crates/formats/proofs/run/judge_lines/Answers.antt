use borrow.Author.Rules.{rules}
use mathlib.Core.Path.{sym, ◌∙◌}
use Rattle.formats.proofs.laws.BlockReader.{found_at, end_at}
use Rattle.formats.proofs.laws.Run.{running_end, counted_few, running_refused, running_next}
use Rattle.formats.proofs.run.judge_lines.Goals as goal

pub returns-in-Err : goal.returns-in-Err
returns-in-Err c =
    rw c.on_line.ensures (running_refused _ _ c.loop-found.invariant (found_at _ _ (sym c.in-Some.is ∙ c.line_from.ensures.found)) c.line_step.ensures _ c.in-Err.is)

pub count_one-requires : goal.count_one-requires
count_one-requires c =
    (c.loop-found.invariant.size, counted_few _ _ c.loop-found.invariant c.requires.0 _ (search rules))

pub loop-found-preserved : goal.loop-found-preserved
loop-found-preserved c =
    running_next _ _ c.loop-found.invariant (found_at _ _ (sym c.in-Some.is ∙ c.line_from.ensures.found)) c.line_step.ensures _ c.in-Ok.is (search rules) c.count_one.ensures

pub returns : goal.returns
returns c =
    running_end _ _ c.loop-found.invariant (end_at c.args.run.now c.loop-found.at (sym c.in_default.is ∙ c.line_from.ensures.found))
