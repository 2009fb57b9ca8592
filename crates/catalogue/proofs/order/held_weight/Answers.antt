use native.Mathlib.Omega.{arith}
use mathlib.Core.Path.{◌≡◌, sym, ◌∙◌, ap}
use Prim.Native.Nat.{ℕ}
use borrow.Author.Tests.{lt-ltb, le-ltb}
use Rattle.formats.specs.Judge.{is_event_line}
use Rattle.catalogue.specs.Entries.{entries_of}
use Rattle.catalogue.proofs.laws.section.Rows.{entries_length}
use Rattle.catalogue.proofs.laws.room.Weight.{weight_refused, place_keyed, held_weighed}
use Rattle.catalogue.proofs.order.held_weight.Goals as goal

pub returns-then-not-is_event : goal.returns-then-not-is_event
returns-then-not-is_event c =
    (sym (weight_refused _ _ (ap is_event_line (sym c.entry.ensures.0) ∙ sym c.is_event.ensures ∙ c.if-not-is_event.true)), λ t e. cc)

pub met-requires : goal.met-requires
met-requires c =
    let h = c.args.held.now in
    let d = c.args.deletions.now in
    c.requires.6 ∙ sym (place_keyed h.of d.of c.requires.1 c.requires.3 (entries_of h.of h.bytes.now) (entries_of d.of d.bytes.now) c.args.i c.key_of.ensures)

pub entry_byte-requires : goal.entry_byte-requires
entry_byte-requires c =
    let q = rw c.in-Ok.is at c.met.ensures in
    let d = c.args.deletions.now in
    (omega (arith, q.1, entries_length d.of d.bytes.now), omega (arith, c.requires.2))

pub returns-then-entry_byte : goal.returns-then-entry_byte
returns-then-entry_byte c =
    let h = c.args.held.now in
    let d = c.args.deletions.now in
    let e = ap is_event_line (sym c.entry.ensures.0) ∙ sym c.is_event.ensures ∙ c.if-not-is_event.false in (
      sym (held_weighed h.of d.of c.requires.1 c.requires.3 (entries_of h.of h.bytes.now) (entries_of d.of d.bytes.now) c.args.i c.key_of.ensures c.requires.5 e c.met.result c.met.ensures
          ∙ rw (c.in-Ok.is, ← c.entry_byte.ensures, ← c.entry_byte-in-Ok.ensures, lt-ltb _ _ c.if-entry_byte.true)),
      λ t q. let u : ◌≡◌ {A = ℕ} 0 t = cc in omega arith,
    )

pub returns-in-Err : goal.returns-in-Err
returns-in-Err c =
    let h = c.args.held.now in
    let d = c.args.deletions.now in
    let e = ap is_event_line (sym c.entry.ensures.0) ∙ sym c.is_event.ensures ∙ c.if-not-is_event.false in
    (sym (held_weighed h.of d.of c.requires.1 c.requires.3 (entries_of h.of h.bytes.now) (entries_of d.of d.bytes.now) c.args.i c.key_of.ensures c.requires.5 e c.met.result c.met.ensures ∙ rw c.in-Err.is), λ t q. let u : ◌≡◌ {A = ℕ} 1 t = cc in omega arith)

pub returns-else-entry_byte : goal.returns-else-entry_byte
returns-else-entry_byte c =
    let h = c.args.held.now in
    let d = c.args.deletions.now in
    let e = ap is_event_line (sym c.entry.ensures.0) ∙ sym c.is_event.ensures ∙ c.if-not-is_event.false in (
      sym (held_weighed h.of d.of c.requires.1 c.requires.3 (entries_of h.of h.bytes.now) (entries_of d.of d.bytes.now) c.args.i c.key_of.ensures c.requires.5 e c.met.result c.met.ensures
          ∙ rw (c.in-Ok.is, ← c.entry_byte.ensures, ← c.entry_byte-in-Ok.ensures, le-ltb _ _ c.if-entry_byte.false)),
      λ t q. cc,
    )
