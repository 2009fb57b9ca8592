use lib.ListN.{drop}
use Rattle.columns.specs.Table.{columns_in, columns_of}
use Rattle.columns.proofs.laws.Cut.{Looking}
use Rattle.columns.proofs.row.first_filled.Given as goal

abbrev pub invariant-loop-row : goal.invariant-loop-row
invariant-loop-row l =
    Looking (columns_in l.layout) l.start l.flags l.text (columns_of (drop l.row-index l.layout.rows.now) l.layout.ranges.now l.layout.letters.now) l.at l.k l.t
