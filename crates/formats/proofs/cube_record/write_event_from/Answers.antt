use Rattle.std.proofs.lemmas.Result.{err_from_is_err_and}
use Rattle.formats.proofs.laws.CubeRecord.{no_event, event_reply}
use Rattle.formats.proofs.cube_record.write_event_from.Goals as goal

pub returns-in_err-write_event : goal.returns-in_err-write_event
returns-in_err-write_event c =
    let g = c.get_numbers.ensures in
    let p = c.requires in
    let e = err_from_is_err_and c.from_residual.result c.from_residual.ensures.1 in
    rw (e.1, e.2) (event_reply _ p.0 _ _ _ g.0 g.1 c.copy.ensures p.1 _ c.is_packed.ensures c.if-is_packed.true _ _ (rw c.in_err-write_event.was at c.write_event.ensures))

pub returns-then-is_packed : goal.returns-then-is_packed
returns-then-is_packed c =
    let g = c.get_numbers.ensures in
    let p = c.requires in
    event_reply _ p.0 _ _ _ g.0 g.1 c.copy.ensures p.1 _ c.is_packed.ensures c.if-is_packed.true _ _ (rw c.in_ok-write_event.was at c.write_event.ensures)

pub returns : goal.returns
returns c =
    let g = c.get_numbers.ensures in
    let p = c.requires in
    rw c.at.ensures (no_event _ p.0 _ _ _ g.0 g.1 c.copy.ensures p.1 _ c.is_packed.ensures c.if-is_packed.false)
