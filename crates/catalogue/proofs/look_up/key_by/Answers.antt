use mathlib.Core.Path.{refl}
use Rattle.catalogue.proofs.laws.room.LookUp.{key_pair}
use Rattle.catalogue.proofs.look_up.key_by.Goals as goal

-- Its two words are the pair's, and it has no type.
pub returns : goal.returns
returns c =
    key_pair c.args.source.now c.args.identifier.now c.requires.0 c.requires.1 _ c.word2.ensures.0 c.word8.ensures.0 refl refl
