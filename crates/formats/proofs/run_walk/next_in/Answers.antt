use mathlib.Core.Path.{◌∙◌}
use Rattle.formats.proofs.laws.RunWalk.{next_long, next_known, next_unknown}
use Rattle.formats.proofs.run_walk.next_in.Goals as goal

pub returns-then-run-gt65536 : goal.returns-then-run-gt65536
returns-then-run-gt65536 c =
    c.no_line.ensures ∙ rw c.from.ensures (next_long _ _ _ c.if-run-gt65536.true)

pub returns-in-None : goal.returns-in-None
returns-in-None c =
    c.no_line-in-None.ensures ∙ next_unknown _ _ c.if-run-gt65536.false _ c.named.ensures c.in-None.is

pub returns-in-Some : goal.returns-in-Some
returns-in-Some c =
    c.told_at.ensures ∙ next_known _ _ c.if-run-gt65536.false _ c.named.ensures c.in-Some.is
