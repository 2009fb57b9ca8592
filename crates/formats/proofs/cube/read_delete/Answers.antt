use mathlib.Core.Path.{sym, ap}
use lib.ListN.{length-drop}
use Rattle.std.proofs.lemmas.Result.{err_from_is_err_and}
use Rattle.formats.specs.Cube.{delete_parts, read_delete, line_read}
use Rattle.formats.proofs.laws.Cube.{text_begun, text_refused}
use Rattle.formats.proofs.cube.read_delete.Goals as goal

pub returns-in_err-judge_text : goal.returns-in_err-judge_text
unfolding read_delete
returns-in_err-judge_text c =
    let p = err_from_is_err_and c.from_residual.result c.from_residual.ensures.1 in
    rw (p.1, p.2) (ap line_read (sym (text_refused 13 80 13 delete_parts c.args.line.now _ (rw c.in_err-judge_text.was at c.judge_text.ensures))))

pub returns : goal.returns
unfolding read_delete
returns c =
    let l = c.args.line.now in
    rw ((text_begun 13 80 13 delete_parts l (rw c.in_ok-judge_text.was at c.judge_text.ensures)).1.1, length-drop 13 l)
