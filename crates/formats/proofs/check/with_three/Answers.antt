use Rattle.formats.proofs.laws.Check.{sum_three}
use Rattle.formats.proofs.check.with_three.Goals as goal

pub returns : goal.returns
returns c =
    let a = c.args in
    sum_three a.s.now a.at a.sum _ _ _ c.requires c.with_byte-one.ensures c.with_byte-two.ensures c.with_byte.ensures
