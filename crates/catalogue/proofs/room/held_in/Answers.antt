use Rattle.catalogue.proofs.room.held_in.Goals as goal

-- The count is the first two bytes.
pub returns : goal.returns
returns c =
    rw c.word2.ensures.0
