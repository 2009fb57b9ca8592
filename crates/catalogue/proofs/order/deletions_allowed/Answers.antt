use native.Mathlib.Omega.{arith}
use mathlib.Core.Path.{refl, sym, ◌∙◌, ap}
use borrow.Author.Tests.{eq-eqb, ne_eqb}
use Rattle.columns.proofs.laws.Bytes.{found_none, found_there}
use Rattle.catalogue.specs.Good.{deletion_ok}
use Rattle.catalogue.specs.Entries.{entries_of}
use Rattle.catalogue.proofs.laws.section.Rows.{entries_length}
use Rattle.catalogue.proofs.laws.section.Search.{every_more, every_stop, every_end}
use Rattle.catalogue.proofs.laws.room.Weight.{deletion_judged}
use Rattle.catalogue.proofs.order.deletions_allowed.Goals as goal

pub loop-i-init : goal.loop-i-init
loop-i-init c =
    refl

pub loop-i-preserved : goal.loop-i-preserved
loop-i-preserved c =
    let e = c.args.deletions.now in
    c.loop-i.invariant
    ∙ every_more deletion_ok (entries_of e.of e.bytes.now) c.loop-i.i (omega (arith, entries_length e.of e.bytes.now, c.loop-i-test.true)) (ap deletion_ok (sym c.entry.ensures.0) ∙ deletion_judged _ (c.entry.ensures.1 ∙ c.requires) refl ∙ eq-eqb _ 0 (found_none _ (sym (rw c.first_barred.ensures at c.if-is_some.ensures))))

pub returns-then-is_some : goal.returns-then-is_some
returns-then-is_some c =
    let e = c.args.deletions.now in
    sym (c.loop-i.invariant
    ∙ every_stop deletion_ok (entries_of e.of e.bytes.now) c.loop-i.i (omega (arith, entries_length e.of e.bytes.now, c.loop-i-test.true)) (ap deletion_ok (sym c.entry.ensures.0) ∙ deletion_judged _ (c.entry.ensures.1 ∙ c.requires) refl ∙ ne_eqb _ 0 (found_there _ (sym (rw c.first_barred.ensures at c.if-is_some.ensures)))))

pub returns : goal.returns
returns c =
    let e = c.args.deletions.now in
    sym (c.loop-i.invariant ∙ every_end deletion_ok (entries_of e.of e.bytes.now) c.loop-i.i (omega (arith, entries_length e.of e.bytes.now, c.loop-i-test.false)))
