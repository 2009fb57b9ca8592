use Rattle.std.proofs.Common.{rules}
use Rattle.formats.proofs.laws.Lettered.{kind_opener, kind_other}
use Rattle.formats.proofs.lettered.Kinds.kind_in.Goals as goal

pub returns-then-number-self : goal.returns-then-number-self
returns-then-number-self c =
    kind_opener _ _ c.args.from.now (search rules) c.if-number-self.true

pub returns : goal.returns
returns c =
    kind_other _ _ c.args.from.now (search rules) c.if-number-self.false c.with_number.ensures c.unwrap_or.ensures
