use borrow.Author.Rules.{rules}
use Rattle.catalogue.proofs.laws.room.Found.{deletion_bytes}
use Rattle.catalogue.proofs.take.deletion.Goals as goal

-- Each byte from its column.
pub returns : goal.returns
returns c =
    let a = c.args in
    deletion_bytes a.line.now a.v (search rules)
