use mathlib.Core.Path.{sym, ◌∙◌}
use Rattle.catalogue.proofs.laws.room.Carry.{left, hold_asks, hold_room, note_able, note_room, no_link}
use Rattle.catalogue.proofs.take.carry_out.Goals as goal

-- Deed by deed: the bytes moved are those of the room after the line.
pub used_in-used-requires : goal.used_in-used-requires
used_in-used-requires c =
    (c.requires.0, c.requires.1.deletions_are)

pub put-requires : goal.put-requires
put-requires c =
    hold_asks c.requires.0 c.requires.1 (sym c.requires.2 ∙ c.in-Hold.is) c.used_in-used.ensures

pub note-requires : goal.note-requires
note-requires c =
    (c.requires.0, c.requires.1.deletions_are, note_able c.requires.0 c.requires.1 (sym c.requires.2 ∙ c.in-Note.is))

pub wipe-requires : goal.wipe-requires
wipe-requires c =
    (c.requires.0, c.requires.1, sym c.requires.2 ∙ c.in-Wipe.is)

pub returns-in-Leave : goal.returns-in-Leave
returns-in-Leave c =
    left c.requires.0 c.args.line.now (sym c.requires.2 ∙ c.in-Leave.is)

pub returns-in-Hold : goal.returns-in-Hold
returns-in-Hold c =
    c.put.ensures ∙ hold_room c.requires.0 c.requires.1 (sym c.requires.2 ∙ c.in-Hold.is) c.used_in-used.ensures

pub returns-in-Note : goal.returns-in-Note
returns-in-Note c =
    c.note.ensures ∙ note_room c.requires.0 c.requires.1 (sym c.requires.2 ∙ c.in-Note.is)

pub returns-in-Wipe : goal.returns-in-Wipe
returns-in-Wipe c =
    c.wipe.ensures

pub returns-in-Link : goal.returns-in-Link
returns-in-Link c =
    absurd (no_link c.requires.0 c.args.line.now c.requires.3 (sym c.requires.2 ∙ c.in-Link.is))
