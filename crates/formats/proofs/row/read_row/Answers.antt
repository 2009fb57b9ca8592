use Rattle.std.proofs.lemmas.Result.{err_from_is_err_and}
use native.Mathlib.Omega.{arith}
use Rattle.formats.proofs.laws.Row.{made_unread, made_passed, row_read}
use Rattle.formats.proofs.row.read_row.Goals as goal

pub returns-in_err-judge_made : goal.returns-in_err-judge_made
returns-in_err-judge_made c =
    let p = err_from_is_err_and c.from_residual.result c.from_residual.ensures.1 in
    rw (p.1, p.2) (made_unread c.judge_made.ensures _ c.in_err-judge_made.was)

pub returns-in_err-read_cells : goal.returns-in_err-read_cells
returns-in_err-read_cells c =
    let p = err_from_is_err_and c.from_residual-in_err-read_cells.result c.from_residual-in_err-read_cells.ensures.1 in
    let m = made_passed c.judge_made.ensures c.in_ok-judge_made.was in
    rw (p.1, p.2) (row_read c.format_of-width.ensures _ (omega (arith, m.0, c.format_of-width.ensures.width)) m.1 c.copy.ensures (rw c.in_err-read_cells.was at c.read_cells.ensures))

pub returns : goal.returns
returns c =
    let m = made_passed c.judge_made.ensures c.in_ok-judge_made.was in
    row_read c.format_of-width.ensures _ (omega (arith, m.0, c.format_of-width.ensures.width)) m.1 c.copy.ensures (rw c.in_ok-read_cells.was at c.read_cells.ensures)
