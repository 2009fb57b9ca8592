use Rattle.formats.specs.Link.{says_delete}
use Rattle.formats.proofs.link.says_delete.Goals as goal

-- One text, or the other.
pub returns-then-same : goal.returns-then-same
unfolding says_delete
returns-then-same c =
    rw (← c.same.ensures, c.if-same.true)

pub returns-else-same : goal.returns-else-same
unfolding says_delete
returns-else-same c =
    rw (← c.same.ensures, c.if-same.false) c.same-else-same.ensures
