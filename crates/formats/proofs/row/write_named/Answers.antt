use Rattle.std.proofs.lemmas.Result.{err_from_is_err_and}
use Rattle.formats.proofs.laws.RowRecord.{taken, row_no_record, row_record, row_refused}
use Rattle.formats.proofs.row.write_named.Goals as goal

pub returns-in_err-write_cells : goal.returns-in_err-write_cells
returns-in_err-write_cells c =
    let p = c.requires in
    let g = c.get_numbers.ensures in
    let q = err_from_is_err_and c.from_residual.result c.from_residual.ensures.1 in
    rw (q.1, q.2) (row_refused c.format_of-f.ensures (taken c.format_of-f.ensures _ _ _ p.0 p.1.1.0 p.1.1.1 g.0 g.1 c.copy.ensures) _ c.is_row.ensures c.if-is_row.true _ (rw c.in_err-write_cells.was at c.write_cells.ensures))

pub returns-then-is_row : goal.returns-then-is_row
returns-then-is_row c =
    let p = c.requires in
    let g = c.get_numbers.ensures in
    row_record c.format_of-f.ensures (taken c.format_of-f.ensures _ _ _ p.0 p.1.1.0 p.1.1.1 g.0 g.1 c.copy.ensures) _ c.is_row.ensures c.if-is_row.true (rw c.in_ok-write_cells.was at c.write_cells.ensures)

pub returns : goal.returns
returns c =
    let p = c.requires in
    let g = c.get_numbers.ensures in
    rw c.at.ensures (row_no_record c.format_of-f.ensures (taken c.format_of-f.ensures _ _ _ p.0 p.1.1.0 p.1.1.1 g.0 g.1 c.copy.ensures) _ c.is_row.ensures c.if-is_row.false)
