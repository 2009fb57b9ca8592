use native.Mathlib.Omega.{arith}
use mathlib.Core.Path.{refl, ◌∙◌}
use Rattle.catalogue.specs.Keys.{key_number}
use Rattle.catalogue.proofs.laws.room.Encode.{room_size_lem}
use Rattle.catalogue.proofs.laws.room.Found.{held_open, held_sought}
use Rattle.catalogue.proofs.laws.room.LookUp.{seen_is}
use Rattle.catalogue.proofs.look_up.look_in.Goals as goal

pub held_in-requires : goal.held_in-requires
held_in-requires c =
    omega (arith, c.requires.long, room_size_lem)

pub invariant_of-held : goal.invariant_of-held
invariant_of-held c =
    record { inside = (held_open c.args.room.now c.requires c.held_in.ensures).0 }

pub look-requires : goal.look-requires
look-requires c =
    (held_open c.args.room.now c.requires c.held_in.ensures).1

pub returns : goal.returns
returns c =
    c.ok.ensures.value ∙ seen_is c.args.room.now c.requires (key_number c.args.key) c.look.result (held_sought c.args.room.now c.requires c.held_in.ensures refl c.look.result c.look.ensures)
