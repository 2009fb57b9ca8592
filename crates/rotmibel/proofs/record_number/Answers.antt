use Rattle.formats.proofs.laws.BlockBounds.{record_column}
use Rattle.formats.specs.Format.{format_of}
use Rattle.formats.proofs.laws.Format.{format_fits}
use Rattle.rotmibel.proofs.laws.Answers.{answered_from, low_from}
use native.Mathlib.Omega.{arith}
use lib.ListN.{length}
use Rattle.rotmibel.proofs.record_number.Goals as goal

pub place_of-requires : goal.place_of-requires
place_of-requires c =
    let a = c.args in
    low_from c.write_record.ensures (omega (arith, record_column (format_of a.kind) (format_fits a.kind) a.from.now a.at (length a.out.now)))

pub returns : goal.returns
returns c =
    answered_from _ c.place_of.ensures c.write_record.ensures
