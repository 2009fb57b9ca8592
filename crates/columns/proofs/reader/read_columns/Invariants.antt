use lib.ListN.{drop}
use Rattle.columns.specs.Table.{columns_in, columns_of}
use Rattle.columns.proofs.laws.Reader.{Going}
use Rattle.columns.proofs.reader.read_columns.Given as goal

abbrev pub invariant-loop-row : goal.invariant-loop-row
invariant-loop-row l =
    Going (columns_in l.layout) l.start l.line l.initial.flags l.initial.values l.initial.text (columns_of (drop l.row-index l.layout.rows.now) l.layout.ranges.now l.layout.letters.now) l.cursor.at l.k l.t l.flags l.values l.text
