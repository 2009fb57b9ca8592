use borrow.Author.Rules.{rules}
use Rattle.std.proofs.lemmas.Result.{err_from_is_err_and}
use Rattle.formats.proofs.laws.CubeRecord.{no_delete, delete_reply}
use Rattle.formats.proofs.cube_record.write_delete_from.Goals as goal

pub returns-in_err-write_delete : goal.returns-in_err-write_delete
returns-in_err-write_delete c =
    let p = c.requires in
    let e = err_from_is_err_and c.from_residual.result c.from_residual.ensures.1 in
    rw (e.1, e.2) (delete_reply _ p.0 p.1.0 p.1.1.0 _ p.1.1.1 (search rules) _ c.is_laid.ensures c.if-is_laid.true _ _ (rw c.in_err-write_delete.was at c.write_delete.ensures))

pub returns-then-is_laid : goal.returns-then-is_laid
returns-then-is_laid c =
    let p = c.requires in
    delete_reply _ p.0 p.1.0 p.1.1.0 _ p.1.1.1 (search rules) _ c.is_laid.ensures c.if-is_laid.true _ _ (rw c.in_ok-write_delete.was at c.write_delete.ensures)

pub returns : goal.returns
returns c =
    let p = c.requires in
    rw c.at.ensures (no_delete _ p.0 p.1.0 p.1.1.0 _ p.1.1.1 (search rules) _ c.is_laid.ensures c.if-is_laid.false)
