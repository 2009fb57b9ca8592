use Rattle.std.proofs.lemmas.Result.{err_from_is_err_and}
use Rattle.formats.proofs.laws.LinkRecord.{link_past, no_link, link_reply}
use Rattle.formats.proofs.cube_record.write_link_from.Goals as goal

pub returns-then-end-gt-RECORD : goal.returns-then-end-gt-RECORD
returns-then-end-gt-RECORD c =
    let p = c.requires in
    rw c.at.ensures (link_past _ p.0 p.1.0 _ _ _ p.1.1.0 p.1.1.1.0 p.1.1.1.1 _ c.if-end-gt-RECORD.true)

pub returns-in_err-write_link : goal.returns-in_err-write_link
returns-in_err-write_link c =
    let p = c.requires in
    let e = err_from_is_err_and c.from_residual.result c.from_residual.ensures.1 in
    rw (e.1, e.2) (link_reply _ p.0 p.1.0 _ _ _ p.1.1.0 p.1.1.1.0 p.1.1.1.1 _ c.if-end-gt-RECORD.false c.is_laid.ensures c.if-is_laid.true _ _ (rw c.in_err-write_link.was at c.write_link.ensures))

pub returns-then-is_laid : goal.returns-then-is_laid
returns-then-is_laid c =
    let p = c.requires in
    link_reply _ p.0 p.1.0 _ _ _ p.1.1.0 p.1.1.1.0 p.1.1.1.1 _ c.if-end-gt-RECORD.false c.is_laid.ensures c.if-is_laid.true _ _ (rw c.in_ok-write_link.was at c.write_link.ensures)

pub returns : goal.returns
returns c =
    let p = c.requires in
    rw c.at-2.ensures (no_link _ p.0 p.1.0 _ _ _ p.1.1.0 p.1.1.1.0 p.1.1.1.1 _ c.if-end-gt-RECORD.false c.is_laid.ensures c.if-is_laid.false)
