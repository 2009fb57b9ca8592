use Rattle.formats.proofs.laws.Link.{begun_none, begun_is}
use Rattle.formats.proofs.link.is_begun.Goals as goal

pub returns-then-s-ne0 : goal.returns-then-s-ne0
returns-then-s-ne0 c =
    begun_is _ c.if-s-ne0.true

pub returns-else-s-ne0 : goal.returns-else-s-ne0
returns-else-s-ne0 c =
    rw c.if-s-ne0.false (begun_none _ c.if-s-ne0.false)
