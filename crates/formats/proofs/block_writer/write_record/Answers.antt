use Rattle.formats.specs.Format.{format_of}
use Rattle.formats.specs.Row.{write_row_from}
use Rattle.formats.specs.BlockWriting.{record_call}
use Rattle.formats.proofs.laws.BlockWriter.{record_past, call_replied}
use Rattle.formats.proofs.laws.Format.{format_fits}
use Rattle.formats.proofs.block_writer.write_record.Goals as goal

pub returns-then-out-at : goal.returns-then-out-at
returns-then-out-at c =
    record_past (format_of _) (format_fits _) _ _ _ _ _ c.if-out-at.true c.write_row_from.ensures c.write_row_from.auto.out

pub returns : goal.returns
unfolding record_call
returns c =
    let w = c.record_line in
    call_replied (write_row_from (format_of _) _) _ _ c.if-out-at.false w.result _ w.ensures w.auto.part _ c.from_place.ensures
