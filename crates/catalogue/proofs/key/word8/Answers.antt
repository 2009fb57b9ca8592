use borrow.Author.Rules.{rules}
use Rattle.catalogue.specs.Keys.{eight}
use Rattle.catalogue.proofs.key.word8.Goals as goal

pub returns : goal.returns
unfolding eight
returns c =
    search rules
