use native.Mathlib.Omega.{arith}
use mathlib.Core.Path.{sym, ◌∙◌, ap}
use Prim.Native.Nat.{ℕ}
use lib.Dec.{ltb}
use Rattle.catalogue.specs.Keys.{key_number}
use Rattle.catalogue.specs.Entries.{entries_of, key_of_entry}
use Rattle.catalogue.proofs.laws.section.Rows.{entries_length}
use Rattle.catalogue.proofs.laws.section.Search.{walked, arrived, at_end}
use Rattle.catalogue.proofs.section.Entries.advance.Goals as goal

pub loop-j-init : goal.loop-j-init
loop-j-init c =
    c.requires.1

pub loop-j-smaller : goal.loop-j-smaller
loop-j-smaller c =
    omega (arith, c.loop-j-test.true)

pub loop-j-preserved : goal.loop-j-preserved
loop-j-preserved c =
    let a = c.args.self.now in
    walked (key_of_entry a.of) (key_number c.args.key) (entries_of a.of a.bytes.now) c.requires.0 a.of.count (entries_length a.of a.bytes.now)
    c.loop-j.j c.loop-j-test.true
    (sym c.if-not-before.false ∙ c.before-in-loop-j.ensures ∙ ap (λ (x : ℕ). ltb x (key_number c.args.key)) c.key_of.ensures)

pub returns-then-not-before : goal.returns-then-not-before
returns-then-not-before c =
    let a = c.args.self.now in
    arrived (key_of_entry a.of) (key_number c.args.key) (entries_of a.of a.bytes.now) c.requires.0 a.of.count (entries_length a.of a.bytes.now)
    c.loop-j.j c.loop-j.invariant c.loop-j-test.true
    (sym c.if-not-before.true ∙ c.before-in-loop-j.ensures ∙ ap (λ (x : ℕ). ltb x (key_number c.args.key)) c.key_of.ensures)

pub returns : goal.returns
returns c =
    let a = c.args.self.now in
    at_end (key_of_entry a.of) (key_number c.args.key) (entries_of a.of a.bytes.now) c.requires.0 a.of.count (entries_length a.of a.bytes.now)
    a.of.count (omega (arith, c.loop-j.invariant, c.loop-j-test.false)) (omega arith)
