use Rattle.std.proofs.lemmas.Result.{err_from_is_err_and}
use Rattle.formats.proofs.laws.BlockWriter.{line_refused, line_done}
use Rattle.formats.specs.Format.{format_of}
use Rattle.formats.specs.Row.{write_row_from}
use Rattle.formats.proofs.block_writer.record_line.Goals as goal

pub returns-in_err-len : goal.returns-in_err-len
returns-in_err-len c =
    let w = c.write_row_from in
    let p = err_from_is_err_and c.from_residual.result c.from_residual.ensures.1 in
    rw (p.1, p.2) (line_refused (write_row_from (format_of _) _) _ c.requires _ _ w.ensures w.auto.out _ c.in_err-len.was)

pub returns : goal.returns
returns c =
    let w = c.write_row_from in
    line_done (write_row_from (format_of _) _) _ c.requires _ _ w.ensures w.auto.out _ c.in_ok-len.was
