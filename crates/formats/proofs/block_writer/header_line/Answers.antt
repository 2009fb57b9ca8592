use Rattle.formats.specs.Format.{header_of}
use Rattle.formats.proofs.laws.Format.{header_fine}
use Rattle.formats.proofs.laws.BlockWriter.{header_refused, header_done}
use Rattle.formats.proofs.block_writer.header_line.Goals as goal

pub returns-then-part-n : goal.returns-then-part-n
returns-then-part-n c =
    let h = c.put_header-n.ensures in
    rw c.at.ensures (header_refused (header_of _) (header_fine _).some _ c.put_header-n.result h.size c.if-part-n.true)

pub returns : goal.returns
returns c =
    let h = c.put_header-n.ensures in
    header_done (header_of _) (header_fine _).some _ c.put_header-n.result h.size c.if-part-n.false _ _ _ h.bytes c.copy.ensures
