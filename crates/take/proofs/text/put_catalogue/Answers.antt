use Rattle.std.proofs.Common.{rules}
use Rattle.take.proofs.laws.Text.{held_printable, deletions_printable}
use Rattle.take.proofs.laws.Links.{links_printable}
use Rattle.take.specs.Text.{catalogue_text}
use Rattle.catalogue.proofs.laws.room.Found.{long_enough}
use native.Mathlib.Omega.{arith}
use mathlib.Core.List.{append_assoc}
use Rattle.take.proofs.text.put_catalogue.Goals as goal

-- The held lines, the deletions, then the links, as the room has them.
pub held_in-held-requires : goal.held_in-held-requires
held_in-held-requires g c =
    (long_enough c.args.room.now c.requires.0).0

pub deletions_in-deletions-requires : goal.deletions_in-deletions-requires
deletions_in-deletions-requires g c =
    (c.held_in-held.ensures, rw c.held_in-held.ensures (long_enough c.args.room.now c.requires.0).1)

pub links_in-links-requires : goal.links_in-links-requires
links_in-links-requires g c =
    (c.deletions_in-deletions.ensures, rw c.deletions_in-deletions.ensures (long_enough c.args.room.now c.requires.0).2)

pub invariant_of-put_section : goal.invariant_of-put_section
invariant_of-put_section g c =
    record { inside = (held_printable c.args.room.now c.requires.0 c.held_in-held.result c.held_in-held.ensures).0 }

pub put_section-requires : goal.put_section-requires
put_section-requires g c =
    let k = held_printable c.args.room.now c.requires.0 c.held_in-held.result c.held_in-held.ensures in
    omega (arith, k.1, c.requires.1)

pub invariant_of-put_section-2 : goal.invariant_of-put_section-2
invariant_of-put_section-2 g c =
    record { inside = (deletions_printable c.args.room.now c.requires.0 c.deletions_in-deletions.result c.deletions_in-deletions.ensures).0 }

pub put_section-requires-2 : goal.put_section-requires-2
put_section-requires-2 g c =
    let k = held_printable c.args.room.now c.requires.0 c.held_in-held.result c.held_in-held.ensures in
    let m = deletions_printable c.args.room.now c.requires.0 c.deletions_in-deletions.result c.deletions_in-deletions.ensures in
    omega (arith, c.put_section.ensures.1, k.1, m.1, c.requires.1)

pub invariant_of-put_links : goal.invariant_of-put_links
invariant_of-put_links g c =
    record { inside = (links_printable c.args.room.now c.requires.0 c.links_in-links.result c.links_in-links.ensures).0 }

pub put_links-requires : goal.put_links-requires
put_links-requires g c =
    let k = held_printable c.args.room.now c.requires.0 c.held_in-held.result c.held_in-held.ensures in
    let m = deletions_printable c.args.room.now c.requires.0 c.deletions_in-deletions.result c.deletions_in-deletions.ensures in
    let n = links_printable c.args.room.now c.requires.0 c.links_in-links.result c.links_in-links.ensures in
    (search rules, (n.1, omega (arith, c.put_section.ensures.1, c.put_section-2.ensures.1, k.1, m.1, n.2, c.requires.1)))

pub returns : goal.returns
unfolding catalogue_text
returns g c =
    let k = held_printable c.args.room.now c.requires.0 c.held_in-held.result c.held_in-held.ensures in
    let m = deletions_printable c.args.room.now c.requires.0 c.deletions_in-deletions.result c.deletions_in-deletions.ensures in
    let n = links_printable c.args.room.now c.requires.0 c.links_in-links.result c.links_in-links.ensures in
    (rw (c.put_links.ensures.0, c.put_section-2.ensures.0, c.put_section.ensures.0, k.2, m.2, n.3) (simp append_assoc), omega (arith, c.put_section.ensures.1, c.put_section-2.ensures.1, c.put_links.ensures.1, k.1, m.1, n.2))
