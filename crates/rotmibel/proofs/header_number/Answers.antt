use Rattle.formats.proofs.laws.BlockBounds.{header_column}
use Rattle.formats.specs.Format.{header_of}
use Rattle.rotmibel.proofs.laws.Answers.{answered_from, low_from}
use native.Mathlib.Omega.{arith}
use lib.ListN.{length}
use Rattle.rotmibel.proofs.header_number.Goals as goal

pub place_of-requires : goal.place_of-requires
place_of-requires c =
    let a = c.args in
    low_from c.write_header.ensures (omega (arith, header_column (header_of a.kind) a.at (length a.out.now)))

pub returns : goal.returns
returns c =
    answered_from _ c.place_of.ensures c.write_header.ensures
