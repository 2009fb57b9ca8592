use mathlib.Core.Path.{◌∙◌}
use Rattle.catalogue.proofs.laws.room.Found.{long_enough}
use Rattle.catalogue.proofs.laws.room.Carry.{wipe_found, wipe_asks, between}
use Rattle.catalogue.proofs.take.wipe.Goals as goal

pub returns-in_default : goal.returns-in_default
returns-in_default c =
    absurd (wipe_found c.requires.0 c.requires.1 c.requires.2 c.in_default.is)

pub used_in-used-requires : goal.used_in-used-requires
used_in-used-requires c =
    (c.requires.0, c.requires.1.deletions_are)

pub take_out-requires : goal.take_out-requires
take_out-requires c =
    wipe_asks c.requires.0 c.requires.1 c.requires.2 c.in-Ok.is c.used_in-used.ensures

pub held_in-requires : goal.held_in-requires
held_in-requires c =
    (long_enough _ ((between c.requires.0 c.requires.1 c.requires.2 c.in-Ok.is c.used_in-used.ensures c.take_out.ensures)).ordered).0

pub deletions_in-rest-requires : goal.deletions_in-rest-requires
deletions_in-rest-requires c =
    (c.held_in.ensures, rw c.held_in.ensures (long_enough _ ((between c.requires.0 c.requires.1 c.requires.2 c.in-Ok.is c.used_in-used.ensures c.take_out.ensures)).ordered).1)

pub note-requires : goal.note-requires
note-requires c =
    let b = (between c.requires.0 c.requires.1 c.requires.2 c.in-Ok.is c.used_in-used.ensures c.take_out.ensures) in
    (b.ordered, c.deletions_in-rest.ensures, b.able)

pub returns : goal.returns
returns c =
    c.note.ensures ∙ ((between c.requires.0 c.requires.1 c.requires.2 c.in-Ok.is c.used_in-used.ensures c.take_out.ensures)).done_is
