use Rattle.formats.proofs.laws.Lettered.{written_as}
use Rattle.formats.proofs.lettered.Kinds.write_lettered.Goals as goal

pub returns : goal.returns
returns c =
    written_as _ _ c.kind_in.ensures _ c.write_row_from.ensures
