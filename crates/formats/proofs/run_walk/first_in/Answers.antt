use mathlib.Core.Path.{◌∙◌}
use Rattle.formats.proofs.laws.RunWalk.{first_long, first_there}
use Rattle.formats.proofs.run_walk.first_in.Goals as goal

pub returns-then-run-gt65536 : goal.returns-then-run-gt65536
returns-then-run-gt65536 c =
    c.no_line.ensures ∙ rw c.from.ensures (first_long _ _ c.if-run-gt65536.true)

pub returns : goal.returns
returns c =
    c.told_at.ensures ∙ first_there _ _ c.if-run-gt65536.false
