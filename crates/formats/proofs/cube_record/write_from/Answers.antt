use Rattle.columns.specs.Answer.{bad_form}
use Rattle.formats.proofs.laws.CubeRecord.{replied_refused, replied_as, from_short, from_first}
use Rattle.formats.proofs.cube_record.write_from.Goals as goal

pub returns-then-from-lt-RECORD : goal.returns-then-from-lt-RECORD
returns-then-from-lt-RECORD c =
    rw c.at.ensures (replied_refused _ _ bad_form 0 (from_short _ _ c.if-from-lt-RECORD.true))

pub returns-then-from-eq-EVENT : goal.returns-then-from-eq-EVENT
returns-then-from-eq-EVENT c =
    replied_as _ _ _ _ _ (from_first _ _ c.if-from-lt-RECORD.false) c.write_event_from.ensures

pub returns-then-from-eq-LINK : goal.returns-then-from-eq-LINK
returns-then-from-eq-LINK c =
    replied_as _ _ _ _ _ (from_first _ _ c.if-from-lt-RECORD.false) c.write_link_from.ensures

pub returns : goal.returns
returns c =
    replied_as _ _ _ _ _ (from_first _ _ c.if-from-lt-RECORD.false) c.write_delete_from.ensures
