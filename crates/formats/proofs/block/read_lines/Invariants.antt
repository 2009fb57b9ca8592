use Rattle.formats.specs.Format.{format_of, header_of}
use Rattle.formats.specs.Row.{read_row}
use Rattle.formats.proofs.laws.Block.{Reading}
use Prim.Native.Nat.{◌-◌}
use lib.ListN.{length}
use Rattle.formats.proofs.block.read_lines.Given as goal

abbrev pub invariant-loop-found : goal.invariant-loop-found
invariant-loop-found l =
    Reading (header_of l.kind) (read_row (format_of l.kind).columns) l.block l.from l.at l.line l.rows l.comments

abbrev pub decreases-loop-found : goal.decreases-loop-found
decreases-loop-found l =
    length l.block - l.at
