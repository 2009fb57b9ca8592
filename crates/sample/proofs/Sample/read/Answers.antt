use Rattle.std.proofs.Common.{arith, rules}
use Rattle.columns.proofs.laws.Table.{table_of}
use Rattle.sample.proofs.Back.{sample_sound}
use Rattle.sample.proofs.Sample.read.Goals as goal

pub read_columns-requires : goal.read_columns-requires
read_columns-requires c =
    let l = c.requires in
    table_of sample_sound _ _ _ _ (omega (arith, l)) (omega (arith, l)) (search rules) (search rules) (search rules)
