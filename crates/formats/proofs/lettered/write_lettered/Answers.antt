use Rattle.formats.proofs.laws.Lettered.{not_none, opened}
use Rattle.formats.proofs.lettered.write_lettered.Goals as goal

pub returns-in-Some : goal.returns-in-Some
returns-in-Some c =
    record { some = λ L p. rw (← opened L p c.in-Some.ensures) c.write_lettered.ensures; none = λ e. absurd (not_none c.in-Some.ensures e) }
