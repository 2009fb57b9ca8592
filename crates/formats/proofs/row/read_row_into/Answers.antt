use Rattle.std.proofs.lemmas.Result.{err_from_is_err_and}
use Rattle.formats.proofs.laws.RowRecord.{row_into_done, row_into_refused, row_into_short}
use Rattle.formats.proofs.row.read_row_into.Goals as goal

pub returns-then-out-size : goal.returns-then-out-size
returns-then-out-size c =
    rw c.at.ensures (row_into_short c.format_of-f.ensures _ _ c.if-out-size.true)

pub returns-in_err-read_row : goal.returns-in_err-read_row
returns-in_err-read_row c =
    let p = err_from_is_err_and c.from_residual.result c.from_residual.ensures.1 in
    rw (p.1, p.2) (row_into_refused c.format_of-f.ensures _ _ c.if-out-size.false _ (rw c.in_err-read_row.was at c.read_row.ensures))

pub returns : goal.returns
returns c =
    row_into_done c.format_of-f.ensures _ _ c.if-out-size.false _ (rw c.in_ok-read_row.was at c.read_row.ensures) c.pack.ensures
