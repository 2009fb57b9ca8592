use borrow.Author.Rules.{rules}
use Rattle.columns.proofs.laws.Row.{same_each}
use Rattle.columns.proofs.row.all_same.Goals as goal

pub returns : goal.returns
returns c = same_each c.args.f c.args.flags.now _ (search rules)
