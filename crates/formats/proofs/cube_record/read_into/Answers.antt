use mathlib.Core.Path.{sym, ◌∙◌}
use Rattle.std.proofs.lemmas.Result.{err_from_is_err_and}
use Rattle.columns.specs.Answer.{too_short}
use Rattle.formats.proofs.laws.CubeRecord.{replied_refused, into_short, read_refused, read_event_lem, link_says, read_link_lem, delete_says, read_delete_lem}
use Rattle.formats.proofs.cube_record.read_into.Goals as goal

pub returns-then-out-lt-RECORD : goal.returns-then-out-lt-RECORD
returns-then-out-lt-RECORD c =
    rw c.at.ensures (replied_refused _ _ too_short 0 (into_short _ _ c.if-out-lt-RECORD.true))

pub returns-in_err-read_line : goal.returns-in_err-read_line
returns-in_err-read_line c =
    let p = err_from_is_err_and c.from_residual.result c.from_residual.ensures.1 in
    rw (p.1, p.2) (read_refused _ _ c.if-out-lt-RECORD.false _ (sym c.read_line.ensures.answer ∙ c.in_err-read_line.was))

pub link_bytes-requires : goal.link_bytes-requires
link_bytes-requires c =
    let w = link_says _ c.args.out.now c.if-out-lt-RECORD.false _ _ _ (sym c.read_line.ensures.answer ∙ rw c.in-Link.is at c.in_ok-read_line.was) in
    (w.0, w.1.0)

pub delete_bytes-requires : goal.delete_bytes-requires
delete_bytes-requires c =
    let w = delete_says _ c.args.out.now c.if-out-lt-RECORD.false _ (sym c.read_line.ensures.answer ∙ rw c.in-Delete.is at c.in_ok-read_line.was) in
    (w.0, w.1.0)

pub returns-in-Event : goal.returns-in-Event
returns-in-Event c =
    let r = c.read_line.ensures in
    read_event_lem _ _ c.if-out-lt-RECORD.false (sym r.answer ∙ rw c.in-Event.is at c.in_ok-read_line.was) r c.put_event.ensures

pub returns-in-Link : goal.returns-in-Link
returns-in-Link c =
    read_link_lem _ _ c.if-out-lt-RECORD.false _ _ _ (sym c.read_line.ensures.answer ∙ rw c.in-Link.is at c.in_ok-read_line.was) c.link_bytes.ensures c.copy.ensures

pub returns-in-Delete : goal.returns-in-Delete
returns-in-Delete c =
    read_delete_lem _ _ c.if-out-lt-RECORD.false _ (sym c.read_line.ensures.answer ∙ rw c.in-Delete.is at c.in_ok-read_line.was) c.delete_bytes.ensures c.copy-in-Delete.ensures
