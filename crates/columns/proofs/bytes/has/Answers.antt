use borrow.Author.Rules.{rules}
use Rattle.columns.proofs.laws.Bytes.{member_is}
use Rattle.columns.proofs.bytes.has.Goals as goal

pub returns : goal.returns
returns c = member_is c.args.b c.args.letters.now _ (search rules)
