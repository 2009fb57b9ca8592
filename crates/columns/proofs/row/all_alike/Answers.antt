use borrow.Author.Rules.{rules}
use mathlib.Core.Path.{◌≡◌}
use mathlib.Core.List.{◌∷◌}
use Rattle.columns.specs.Row.{alike}
use Rattle.columns.proofs.laws.Row.{alike_none}
use Rattle.columns.proofs.row.all_alike.Goals as goal

pub returns-in-None : goal.returns-in-None
returns-in-None c = alike_none c.args.flags.now c.in-None.ensures.cases

pub returns-in-Some : goal.returns-in-Some
unfolding alike
returns-in-Some c =
    let e : c.args.flags.now ≡ c.in-Some.first.now ∷ c.in-Some.rest.now = search rules in
    rw e c.all_same.ensures
