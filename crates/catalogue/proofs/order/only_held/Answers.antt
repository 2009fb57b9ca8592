use native.Mathlib.Omega.{arith}
use Rattle.std.proofs.Common.{None}
use mathlib.Core.Path.{◌≡◌, sym, ◌∙◌}
use Rattle.catalogue.specs.Entries.{entries_of}
use Rattle.catalogue.proofs.laws.section.Rows.{entries_length}
use Rattle.catalogue.proofs.laws.room.Weight.{place_keyed, deletion_asc_keyed, walk_start, walk_stop, walk_more, walk_end}
use Rattle.catalogue.proofs.order.only_held.Goals as goal

pub loop-i-init : goal.loop-i-init
loop-i-init c =
    let h = c.args.held.now in
    let d = c.args.deletions.now in
    walk_start (entries_of d.of d.bytes.now) (entries_of h.of h.bytes.now)

pub advance-j-requires : goal.advance-j-requires
advance-j-requires c =
    let p = c.requires in
    let h = c.args.held.now in
    let d = c.args.deletions.now in
    let n = entries_length h.of h.bytes.now in
    let H = entries_of h.of h.bytes.now in
    let D = entries_of d.of d.bytes.now in
    (deletion_asc_keyed h.of d.of p.1 p.3 H D p.6, omega (arith, c.loop-i.invariant.passed (omega arith), place_keyed h.of d.of p.1 p.3 H D c.loop-i.i c.key_of.ensures))

pub held_weight-requires : goal.held_weight-requires
held_weight-requires c =
    let p = c.requires in
    let h = c.args.held.now in
    let d = c.args.deletions.now in
    (p.0, p.1, p.2, p.3, c.loop-i-test.true, p.6, c.advance-j.ensures ∙ place_keyed h.of d.of p.1 p.3 (entries_of h.of h.bytes.now) (entries_of d.of d.bytes.now) c.loop-i.i c.key_of.ensures)

pub returns-in_err-t : goal.returns-in_err-t
returns-in_err-t c =
    let h = c.args.held.now in
    let n = c.loop-i-test.true in (
      c.from_residual.ensures ∙ walk_stop c.loop-i.invariant (omega (arith, entries_length h.of h.bytes.now)) (sym c.in_err-t.was ∙ c.held_weight.ensures.0),
      λ k e. let u : c.from_residual.result ≡ None = c.from_residual.ensures in cc,
    )

pub overflow_add-k : goal.overflow_add-k
overflow_add-k c =
    omega (arith, c.held_weight.ensures.1 c.in_ok-t.t c.in_ok-t.was, c.loop-i.invariant.few, c.loop-i.invariant.within)

pub loop-i-preserved : goal.loop-i-preserved
loop-i-preserved c =
    let p = c.requires in
    let h = c.args.held.now in
    let d = c.args.deletions.now in
    let t = c.held_weight in
    let n = c.loop-i-test.true in
    walk_more c.loop-i.invariant (omega (arith, entries_length h.of h.bytes.now)) p.5 (sym c.in_ok-t.was ∙ t.ensures.0) (t.ensures.1 c.in_ok-t.t c.in_ok-t.was)
    (c.advance-j.ensures ∙ place_keyed h.of d.of p.1 p.3 (entries_of h.of h.bytes.now) (entries_of d.of d.bytes.now) c.loop-i.i c.key_of.ensures)

pub returns : goal.returns
returns c =
    let h = c.args.held.now in
    let l = c.loop-i in
    let n = entries_length h.of h.bytes.now in
    (walk_end l.invariant (omega (arith, c.loop-i-test.false)), λ k e. let u : l.k ≡ k = cc in omega (arith, l.invariant.few, l.invariant.within, c.requires.4))
