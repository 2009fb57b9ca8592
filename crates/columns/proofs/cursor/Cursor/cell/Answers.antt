use lib.ListN.{take}
use Rattle.columns.specs.Table.{slots_of}
use Rattle.columns.proofs.cursor.Cursor.cell.Goals as goal

pub returns-in-Letter : goal.returns-in-Letter
returns-in-Letter c =
    rw c.in-Letter.is (rw c.any_set-set.ensures at (c.letter.ensures (take c.args.k (slots_of c.args.flags.now c.args.values.now))))
