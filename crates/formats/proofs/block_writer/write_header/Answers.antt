use Rattle.formats.specs.BlockWriting.{write_header, header_call}
use Rattle.formats.proofs.laws.BlockWriter.{header_past, call_replied}
use Rattle.formats.specs.Format.{header_of}
use Rattle.formats.proofs.laws.Format.{header_fine}
use Rattle.formats.proofs.block_writer.write_header.Goals as goal

pub returns-then-out-at : goal.returns-then-out-at
returns-then-out-at c =
    rw c.at.ensures (header_past _ (header_fine c.args.kind).some c.args.at c.args.out.now c.if-out-at.true)

pub returns : goal.returns
unfolding header_call
returns c =
    let w = c.header_line in
    call_replied (write_header (header_of _)) _ _ c.if-out-at.false w.result _ w.ensures w.auto.part _ c.from_place.ensures
