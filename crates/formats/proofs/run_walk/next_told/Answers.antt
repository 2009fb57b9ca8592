use mathlib.Core.Path.{ap, ◌∙◌}
use Rattle.formats.specs.Lettered.{Lettered}
use Rattle.formats.specs.RunWalk.{next_told}
use Rattle.formats.proofs.laws.Lettered.{not_none, none_opened, opened}
use Rattle.formats.proofs.run_walk.next_told.Goals as goal

pub returns-in-None : goal.returns-in-None
returns-in-None c =
    record { some = λ L p. absurd (none_opened L p c.in-None.ensures); none = λ e. c.no_line.ensures }

pub returns-in-Some : goal.returns-in-Some
returns-in-Some c =
    record {
      some = λ L p. c.next_in.ensures ∙ ap (λ (M : Lettered). next_told M c.args.run.now c.args.before) (opened L p c.in-Some.ensures);
      none = λ e. absurd (not_none c.in-Some.ensures e);
    }
