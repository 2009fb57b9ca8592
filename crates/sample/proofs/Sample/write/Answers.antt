use Rattle.std.proofs.Common.{lit≤, rules, sym}
use Rattle.columns.proofs.laws.Table.{table_of}
use Rattle.sample.proofs.Back.{sample_sound}
use Rattle.sample.proofs.Sample.write.Goals as goal

pub write_columns-requires : goal.write_columns-requires
write_columns-requires c =
    (sym sample_sound.wide, table_of sample_sound _ _ _ _ (lit≤ tt) (lit≤ tt) (search rules) (search rules) (search rules))
