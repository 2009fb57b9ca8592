use Rattle.formats.proofs.laws.Lettered.{recorded_as}
use Rattle.formats.proofs.lettered.Kinds.write_lettered_record.Goals as goal

pub returns : goal.returns
returns c =
    recorded_as _ _ c.kind_in.ensures _ _ c.write_record.ensures
