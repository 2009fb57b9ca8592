use mathlib.Core.Path.{refl, sym}
use Rattle.formats.proofs.laws.Format.{header_put}
use Rattle.formats.proofs.header.put_header.Goals as goal

pub returns : goal.returns
returns c =
    header_put c.args.kind c.header_words-words.result.now (sym c.header_words-words.ensures.words) _ _ _ refl c.copy.ensures
