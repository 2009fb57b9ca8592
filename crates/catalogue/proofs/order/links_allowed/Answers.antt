use native.Mathlib.Omega.{arith}
use mathlib.Core.Path.{refl, sym, ◌∙◌, ap}
use Rattle.catalogue.specs.Good.{link_ok}
use Rattle.catalogue.specs.Entries.{entries_of}
use Rattle.catalogue.proofs.laws.section.Rows.{entries_length}
use Rattle.catalogue.proofs.laws.section.Search.{every_more, every_stop, every_end}
use Rattle.catalogue.proofs.order.links_allowed.Goals as goal

pub loop-i-init : goal.loop-i-init
loop-i-init c =
    refl

pub link_allowed-requires : goal.link_allowed-requires
link_allowed-requires c =
    c.entry.ensures.1 ∙ c.requires

pub loop-i-preserved : goal.loop-i-preserved
loop-i-preserved c =
    let e = c.args.links.now in
    c.loop-i.invariant
    ∙ every_more link_ok (entries_of e.of e.bytes.now) c.loop-i.i (omega (arith, entries_length e.of e.bytes.now, c.loop-i-test.true)) (ap link_ok (sym c.entry.ensures.0) ∙ sym c.link_allowed.ensures ∙ c.if-not-link_allowed.false)

pub returns-then-not-link_allowed : goal.returns-then-not-link_allowed
returns-then-not-link_allowed c =
    let e = c.args.links.now in
    sym (c.loop-i.invariant
    ∙ every_stop link_ok (entries_of e.of e.bytes.now) c.loop-i.i (omega (arith, entries_length e.of e.bytes.now, c.loop-i-test.true)) (ap link_ok (sym c.entry.ensures.0) ∙ sym c.link_allowed.ensures ∙ c.if-not-link_allowed.true))

pub returns : goal.returns
returns c =
    let e = c.args.links.now in
    sym (c.loop-i.invariant ∙ every_end link_ok (entries_of e.of e.bytes.now) c.loop-i.i (omega (arith, entries_length e.of e.bytes.now, c.loop-i-test.false)))
