use mathlib.Core.Path.{refl, ◌∙◌, ap}
use Rattle.formats.specs.Link.{says_delete}
use Rattle.formats.proofs.laws.Link.{no_text_says, text_part}
use Rattle.formats.proofs.link.is_delete.Goals as goal

-- A line with too few words has no text; else its text is judged.
pub returns-in-None : goal.returns-in-None
returns-in-None c =
    no_text_says c.args.line.now _ refl _ refl c.in-None.ensures.places

pub returns-in-Some : goal.returns-in-Some
returns-in-Some c =
    let p = c.in-Some.ensures.places in
    c.says_delete.ensures ∙ ap says_delete (text_part c.args.line.now _ p.0 _ p.1)
