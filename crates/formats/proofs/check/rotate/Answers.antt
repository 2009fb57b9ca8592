use borrow.Author.Rules.{rules}
use Rattle.formats.proofs.laws.Check.{rotated_or}
use Rattle.formats.proofs.check.rotate.Goals as goal

pub returns : goal.returns
returns c =
    rotated_or c.args.sum (search rules)
