use native.Mathlib.Omega.{arith}
use lib.ListN.{length}
use Rattle.formats.specs.Format.{format_of}
use Rattle.formats.proofs.laws.Format.{format_fits}
use Rattle.formats.proofs.laws.RowRecordBack.{row_into_size, row_into_bound}
use Rattle.rotmibel.proofs.laws.Answers.{answered, few}
use Rattle.rotmibel.proofs.read_row_number.Goals as goal

pub number_of-requires : goal.number_of-requires
number_of-requires c =
    let a = c.args in
    let f = format_fits a.kind in
    few c.read_row_into.ensures (omega (arith, f.bytes, row_into_size (format_of a.kind) f a.line.now (length a.out.now))) (omega (arith, f.wide, row_into_bound (format_of a.kind) f a.line.now (length a.out.now)))

pub returns : goal.returns
returns c =
    answered _ c.number_of.ensures c.read_row_into.ensures
