use lib.ListN.{drop, length}
use Rattle.columns.specs.Table.{columns_in, columns_of, slots_of}
use Rattle.columns.proofs.laws.Writer.{Going}
use Rattle.columns.proofs.writer.put_columns.Given as goal

abbrev pub invariant-loop-row : goal.invariant-loop-row
invariant-loop-row l =
    Going (columns_in l.layout) l.start (slots_of l.flags l.values) l.text l.initial.out (length l.values) (columns_of (drop l.row-index l.layout.rows.now) l.layout.ranges.now l.layout.letters.now) l.at l.k l.t l.out
