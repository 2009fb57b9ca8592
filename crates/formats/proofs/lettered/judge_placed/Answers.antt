use mathlib.Core.Path.{◌∙◌}
use Rattle.std.proofs.lemmas.Result.{err_from_is_err_and}
use Rattle.formats.proofs.laws.Lettered.{placed_yes, placed_refused, placed_not}
use Rattle.formats.proofs.lettered.judge_placed.Goals as goal

pub returns-then-placed : goal.returns-then-placed
returns-then-placed c =
    c.judge_row.ensures ∙ placed_yes _ _ _ c.if-placed.true

pub returns-in_err-judge_made : goal.returns-in_err-judge_made
returns-in_err-judge_made c =
    let p = err_from_is_err_and c.from_residual.result c.from_residual.ensures.1 in
    rw (p.1, p.2) (placed_refused _ _ _ c.judge_made.ensures _ c.in_err-judge_made.was)

pub returns : goal.returns
returns c =
    rw c.at.ensures (placed_not _ _ _ c.judge_made.ensures c.in_ok-judge_made.was c.if-placed.false)
