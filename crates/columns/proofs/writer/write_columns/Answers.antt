use native.Mathlib.Omega.{arith}
use Rattle.std.proofs.lemmas.Result.{err_from_is_err_and}
use Rattle.columns.specs.Table.{columns_in, slots_of}
use Rattle.columns.proofs.laws.Table.{slots_length}
use Rattle.columns.proofs.laws.Writer.{line_short, line_refused, line_done}
use Rattle.columns.proofs.writer.write_columns.Goals as goal

pub returns-then-out-width : goal.returns-then-out-width
returns-then-out-width c =
    let a = c.args in
    let w = c.requires.0 in
    rw c.at.ensures (line_short (columns_in a.layout.now) (slots_of a.flags.now a.values.now) a.text.now a.out.now (omega (arith, c.if-out-width.true)))

pub returns-in_err-put_columns : goal.returns-in_err-put_columns
returns-in_err-put_columns c =
    let a = c.args in
    let w = c.requires.0 in
    let p = err_from_is_err_and c.from_residual.result c.from_residual.ensures.1 in
    rw (p.1, p.2) (line_refused (columns_in a.layout.now) (slots_of a.flags.now a.values.now) a.text.now a.out.now (omega (arith, c.if-out-width.false)) _ (rw c.in_err-put_columns.was at c.put_columns.ensures))

pub returns : goal.returns
returns c =
    let a = c.args in
    let p = c.requires.1 in
    let w = c.requires.0 in
    let l = slots_length a.flags.now a.values.now p.same in
    line_done (columns_in a.layout.now) (slots_of a.flags.now a.values.now) a.text.now a.out.now (omega (arith, c.if-out-width.false)) _ a.width p.fine (omega (arith, p.numbers)) (omega (arith, p.chars)) (omega (arith, p.line)) (rw c.in_ok-put_columns.was at c.put_columns.ensures) w c.copy.ensures
