use mathlib.Core.Path.{◌∙◌}
use Rattle.catalogue.proofs.laws.room.Carry.{note_asks, note_put}
use Rattle.catalogue.proofs.take.note.Goals as goal

-- The deletion is put at its place in the section.
pub used_in-used-requires : goal.used_in-used-requires
used_in-used-requires c =
    (c.requires.0, c.requires.1)

pub deletion-d-requires : goal.deletion-d-requires
deletion-d-requires c =
    c.requires.2.long

pub put-requires : goal.put-requires
put-requires c =
    note_asks c.requires.0 c.requires.2 c.requires.1 c.used_in-used.ensures c.deletion-d.ensures

pub returns : goal.returns
returns c =
    c.put.ensures ∙ note_put c.requires.0 c.requires.2 c.requires.1 c.used_in-used.ensures c.deletion-d.ensures
