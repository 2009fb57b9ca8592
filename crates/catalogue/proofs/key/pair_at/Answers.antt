use mathlib.Core.Path.{refl}
use Rattle.catalogue.proofs.laws.section.Keys.{plain_key}
use Rattle.catalogue.proofs.key.pair_at.Goals as goal

-- Its words are the pair's.
pub returns : goal.returns
returns c =
    plain_key c.args.s.now c.args.source c.args.identifier c.requires.0 c.requires.1 _ c.word2.ensures.0 c.word8.ensures.0 refl refl
