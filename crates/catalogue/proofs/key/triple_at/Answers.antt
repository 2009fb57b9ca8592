use native.Mathlib.Omega.{arith}
use Rattle.catalogue.proofs.laws.section.Keys.{typed_key}
use Rattle.catalogue.proofs.key.triple_at.Goals as goal

-- Its words are the triple's.
pub returns : goal.returns
returns c =
    let c = c in
    typed_key c.args.s.now c.args.source c.args.identifier c.requires.0 (omega arith) _ c.word2.ensures.0 c.word8.ensures.0
    c.type_at-bytes.ensures c.word8-2.ensures.0 c.word8-3.ensures.0
