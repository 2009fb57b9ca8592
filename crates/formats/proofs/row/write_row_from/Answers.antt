use Rattle.formats.proofs.laws.RowRecord.{row_from_named, row_from_short}
use Rattle.formats.proofs.row.write_row_from.Goals as goal

pub returns-then-from-size : goal.returns-then-from-size
returns-then-from-size c =
    rw c.at.ensures (row_from_short c.format_of-f.ensures _ _ c.if-from-size.true)

pub returns : goal.returns
returns c =
    row_from_named c.format_of-f.ensures _ _ c.if-from-size.false c.write_named.ensures
