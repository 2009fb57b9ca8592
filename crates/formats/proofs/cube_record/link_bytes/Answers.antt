use Rattle.formats.proofs.laws.CubeRecord.{link_laid}
use Rattle.formats.proofs.cube_record.link_bytes.Goals as goal

pub returns : goal.returns
returns c =
    link_laid c.args.line.now c.args.kind c.args.address c.requires.0 c.requires.1 c.copy_at.ensures c.stretch.ensures.1 c.stretch-2.ensures.1 c.stretch-3.ensures.1 c.stretch-4.ensures.1
