use mathlib.Core.Path.{◌∙◌, ap}
use mathlib.Core.Bool.{false}
use Rattle.catalogue.specs.declared.section.Section.{Section}
use Rattle.catalogue.specs.Places.{section_after}
use Rattle.catalogue.proofs.room.deletions_in.Goals as goal

-- The section behind the one before it.
pub returns : goal.returns
returns c =
    c.section_after.ensures ∙ ap (λ (s : Section). section_after c.args.room.now s 11 0 2 false) c.requires.0
