use native.Mathlib.Omega.{arith}
use lib.ListN.{length}
use Rattle.formats.specs.Format.{format_of}
use Rattle.formats.proofs.laws.Format.{format_fits}
use Rattle.formats.proofs.laws.RowRecordBack.{row_from_size, row_from_bound}
use Rattle.rotmibel.proofs.laws.Answers.{answered, few}
use Rattle.rotmibel.proofs.write_row_number.Goals as goal

pub number_of-requires : goal.number_of-requires
number_of-requires c =
    let a = c.args in
    let f = format_fits a.kind in
    few c.write_row_from.ensures (omega (arith, f.wide, row_from_size (format_of a.kind) f a.from.now (length a.out.now))) (omega (arith, f.wide, row_from_bound (format_of a.kind) f a.from.now (length a.out.now)))

pub returns : goal.returns
returns c =
    answered _ c.number_of.ensures c.write_row_from.ensures
