use mathlib.Core.Path.{◌∙◌, ap}
use Rattle.catalogue.specs.Places.{end_of}
use Rattle.catalogue.proofs.laws.room.Found.{long_enough}
use Rattle.catalogue.proofs.take.used_in.Goals as goal

-- The links end where the sections do.
pub links_in-requires : goal.links_in-requires
links_in-requires c =
    (c.requires.1, rw c.requires.1 (long_enough c.args.room.now c.requires.0).2)

pub end_of-requires : goal.end_of-requires
end_of-requires c =
    rw c.links_in.ensures (long_enough c.args.room.now c.requires.0).3

pub returns : goal.returns
returns c =
    c.end_of.ensures ∙ ap end_of c.links_in.ensures
