use Rattle.catalogue.proofs.room.section_after.Goals as goal

-- The count stands at the end of the section before.
pub returns : goal.returns
returns c =
    rw (c.word2.ensures.0, c.end_of-at.ensures)
