use mathlib.Core.Path.{◌∙◌, ap}
use mathlib.Core.Bool.{true}
use Rattle.catalogue.specs.declared.section.Section.{Section}
use Rattle.catalogue.specs.Places.{section_after}
use Rattle.catalogue.proofs.room.links_in.Goals as goal

-- The section behind the one before it.
pub returns : goal.returns
returns c =
    c.section_after.ensures ∙ ap (λ (s : Section). section_after c.args.room.now s 256 11 3 true) c.requires.0
