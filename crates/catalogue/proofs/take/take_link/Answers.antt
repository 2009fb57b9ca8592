use native.Mathlib.Omega.{arith}
use mathlib.Core.Path.{◌≡◌, refl, ◌∙◌, ap}
use lib.ListN.{length}
use Rattle.catalogue.specs.declared.section.Section.{Section}
use Rattle.catalogue.specs.Entries.{entries_of}
use Rattle.catalogue.proofs.laws.step.Link.{link_whole, entry_length}
use Rattle.catalogue.proofs.laws.room.Found.{long_enough}
use Rattle.catalogue.proofs.laws.room.Linked.{links_open, line_key, link_sought, link_place, link_decided}
use Rattle.catalogue.proofs.laws.room.Took.{took_link}
use Rattle.catalogue.proofs.take.take_link.Goals as goal

pub held_in-requires : goal.held_in-requires
held_in-requires c =
    (long_enough c.args.room.now c.requires.0).0

pub deletions_in-requires : goal.deletions_in-requires
deletions_in-requires c =
    (c.held_in.ensures, rw c.held_in.ensures (long_enough c.args.room.now c.requires.0).1)

pub links_in-of-requires : goal.links_in-of-requires
links_in-of-requires c =
    (c.deletions_in.ensures, rw c.deletions_in.ensures (long_enough c.args.room.now c.requires.0).2)

pub link_entry-entry-requires : goal.link_entry-entry-requires
link_entry-entry-requires c =
    (link_whole c.args.line.now c.requires.2).short

pub triple_at-requires : goal.triple_at-requires
triple_at-requires c =
    let n : length c.link_entry-entry.result ≡ 256 = ap length c.link_entry-entry.ensures ∙ entry_length c.args.line.now (link_whole c.args.line.now c.requires.2) in
    (omega arith, omega arith)

pub invariant_of-links : goal.invariant_of-links
invariant_of-links c =
    record { inside = (links_open c.requires.0 c.links_in-of.ensures).0 }

pub look-seek-requires : goal.look-seek-requires
look-seek-requires c =
    (links_open c.requires.0 c.links_in-of.ensures).1

pub over_link-requires : goal.over_link-requires
over_link-requires c =
    let e = c.links_in-of.ensures in (
      ap (λ (s : Section). s.size) e,
      link_place c.requires.0 e c.args.line.now c.requires.2 c.look-seek.result ((let e = c.links_in-of.ensures in
          link_sought c.requires.0 e c.args.line.now c.requires.2 (line_key c.requires.0 e c.args.line.now c.requires.2 c.link_entry-entry.ensures c.triple_at.ensures) c.look-seek.result c.look-seek.ensures)),
      ap length c.link_entry-entry.ensures ∙ entry_length c.args.line.now (link_whole c.args.line.now c.requires.2),
    )

pub store_link-requires : goal.store_link-requires
store_link-requires c = (
  c.requires.0,
  c.links_in-of.ensures,
  c.requires.2,
  (let e = c.links_in-of.ensures in
      link_sought c.requires.0 e c.args.line.now c.requires.2 (line_key c.requires.0 e c.args.line.now c.requires.2 c.link_entry-entry.ensures c.triple_at.ensures) c.look-seek.result c.look-seek.ensures),
  (let c = c in
      let e = c.links_in-of in
      link_decided c.requires.0 e.ensures c.args.line.now c.requires.2 c.look-seek.result ((let e = c.links_in-of.ensures in
      link_sought c.requires.0 e c.args.line.now c.requires.2 (line_key c.requires.0 e c.args.line.now c.requires.2 c.link_entry-entry.ensures c.triple_at.ensures) c.look-seek.result c.look-seek.ensures)) c.link_entry-entry.ensures c.over_link.ensures
      (c.limited_link-deed.ensures (entries_of e.result c.args.room.now))),
  c.link_entry-entry.ensures,
)

pub returns : goal.returns
returns c =
    took_link c.requires.0 c.args.line.now c.requires.2 ((let c = c in
    let e = c.links_in-of in
    link_decided c.requires.0 e.ensures c.args.line.now c.requires.2 c.look-seek.result ((let e = c.links_in-of.ensures in
    link_sought c.requires.0 e c.args.line.now c.requires.2 (line_key c.requires.0 e c.args.line.now c.requires.2 c.link_entry-entry.ensures c.triple_at.ensures) c.look-seek.result c.look-seek.ensures)) c.link_entry-entry.ensures c.over_link.ensures
    (c.limited_link-deed.ensures (entries_of e.result c.args.room.now)))) c.requires.1 c.store_link.ensures _ c.answer_of.ensures refl
