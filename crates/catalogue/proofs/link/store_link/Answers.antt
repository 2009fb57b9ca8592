use mathlib.Core.Path.{sym, ◌∙◌}
use Rattle.catalogue.proofs.laws.room.Found.{long_enough}
use Rattle.catalogue.proofs.laws.room.Linked.{store_asks, store_room, not_link, link_left}
use Rattle.catalogue.proofs.link.store_link.Goals as goal

-- A link that is stored is put at its place; any other deed changes nothing.
pub end_of-used-requires : goal.end_of-used-requires
end_of-used-requires c =
    rw c.requires.1 (long_enough c.args.room.now c.requires.0).3

pub put-requires : goal.put-requires
put-requires c =
    store_asks c.requires.0 c.args.line.now c.requires.2 c.args.seek c.requires.3 (sym c.requires.4 ∙ c.in-Link.is) c.requires.1 c.end_of-used.ensures c.requires.5

pub returns-in_default : goal.returns-in_default
returns-in_default c =
    link_left c.requires.0 c.args.line.now c.requires.2 c.args.deed (sym c.requires.4) (not_link c.args.deed c.in_default.not-Link)

pub returns-in-Link : goal.returns-in-Link
returns-in-Link c =
    c.put.ensures
    ∙ store_room c.requires.0 c.args.line.now c.requires.2 c.args.seek c.requires.3 (sym c.requires.4 ∙ c.in-Link.is) c.requires.1 c.end_of-used.ensures c.requires.5
