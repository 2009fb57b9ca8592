use native.Mathlib.Omega.{arith}
use mathlib.Core.Path.{sym, ◌∙◌, ap}
use mathlib.Core.Bool.{true, false}
use Prim.Native.Nat.{ℕ, ◌+◌, ◌-◌, ◌/◌}
use lib.Dec.{ltb}
use Rattle.catalogue.specs.Keys.{key_number}
use Rattle.catalogue.specs.Entries.{entries_of, key_of_entry}
use Rattle.catalogue.proofs.laws.section.Rows.{entries_length}
use Rattle.catalogue.proofs.laws.section.Search.{whole_stretch, halved}
use Rattle.catalogue.proofs.section.Entries.place.Goals as goal

pub loop-low-init : goal.loop-low-init
loop-low-init c =
    let a = c.args.self.now in
    whole_stretch (key_of_entry a.of) (key_number c.args.key) (entries_of a.of a.bytes.now) c.requires a.of.count (entries_length a.of a.bytes.now)

pub key_of-requires : goal.key_of-requires
key_of-requires c =
    omega (arith, c.loop-low.invariant.end)

pub loop-low-preserved-then-before : goal.loop-low-preserved-then-before
loop-low-preserved-then-before c =
    let l = c.loop-low in
    let a = c.args.self.now in
    halved (key_of_entry a.of) (key_number c.args.key) (entries_of a.of a.bytes.now) c.requires a.of.count (entries_length a.of a.bytes.now)
    l.low l.high (l.low + (l.high - l.low) / 2) true l.invariant (omega arith) (omega (arith, c.loop-low-test.true))
    (sym c.if-before.true ∙ c.before-in-loop-low.ensures ∙ ap (λ (x : ℕ). ltb x (key_number c.args.key)) c.key_of.ensures)

pub loop-low-preserved : goal.loop-low-preserved
loop-low-preserved c =
    let l = c.loop-low in
    let a = c.args.self.now in
    halved (key_of_entry a.of) (key_number c.args.key) (entries_of a.of a.bytes.now) c.requires a.of.count (entries_length a.of a.bytes.now)
    l.low l.high (l.low + (l.high - l.low) / 2) false l.invariant (omega arith) (omega (arith, c.loop-low-test.true))
    (sym c.if-before.false ∙ c.before-in-loop-low.ensures ∙ ap (λ (x : ℕ). ltb x (key_number c.args.key)) c.key_of.ensures)

pub returns : goal.returns
returns c =
    omega (arith, c.loop-low.invariant.from, c.loop-low.invariant.to, c.loop-low-test.false)
