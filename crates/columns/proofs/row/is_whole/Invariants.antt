use lib.ListN.{drop}
use Rattle.columns.specs.Table.{columns_in, columns_of}
use Rattle.columns.proofs.laws.Row.{Testing}
use Rattle.columns.proofs.row.is_whole.Given as goal

abbrev pub invariant-loop-row : goal.invariant-loop-row
invariant-loop-row l =
    Testing (columns_in l.layout) l.flags (columns_of (drop l.row-index l.layout.rows.now) l.layout.ranges.now l.layout.letters.now) l.k
