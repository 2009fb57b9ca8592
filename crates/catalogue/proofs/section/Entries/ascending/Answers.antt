use native.Mathlib.Omega.{arith}
use mathlib.Core.Path.{sym, ◌∙◌, ap₂}
use Prim.Native.Nat.{suc, ◌-◌, ◌<◌}
use mathlib.Core.List.{[]}
use lib.Dec.{ltb}
use lib.ListN.{get_or}
use Rattle.catalogue.specs.Entries.{entries_of, key_of_entry}
use Rattle.columns.proofs.laws.Tri.{tri, less, same, more}
use Rattle.catalogue.proofs.laws.section.Rows.{entries_length}
use Rattle.catalogue.proofs.laws.section.Search.{asc_start, asc_more, asc_stop, asc_end}
use Rattle.catalogue.proofs.section.Entries.ascending.Goals as goal

pub loop-i-init : goal.loop-i-init
loop-i-init c =
    let a = c.args.self.now in
    (omega arith, λ (h : 0 < a.of.count). asc_start (key_of_entry a.of) (entries_of a.of a.bytes.now) (omega (arith, entries_length a.of a.bytes.now)))

pub loop-i-smaller : goal.loop-i-smaller
loop-i-smaller c =
    omega (arith, c.loop-i-test.true)

pub loop-i-preserved : goal.loop-i-preserved
loop-i-preserved c =
    let a = c.args.self.now in
    let l = c.loop-i in
    let t = c.loop-i-test.true in (
      omega arith,
      λ (h : 0 < a.of.count). l.invariant.1 h
          ∙ asc_more (key_of_entry a.of) (entries_of a.of a.bytes.now) l.i l.invariant.0 (omega (arith, entries_length a.of a.bytes.now))
          (sym c.if-not-before.false ∙ c.before-in-loop-i.ensures ∙ ap₂ ltb c.key_of.ensures c.key_of-in-loop-i.ensures),
    )

pub returns-then-not-before : goal.returns-then-not-before
returns-then-not-before c =
    let a = c.args.self.now in
    let l = c.loop-i in
    let t = c.loop-i-test.true in
    sym (l.invariant.1 (omega arith)
    ∙ asc_stop (key_of_entry a.of) (entries_of a.of a.bytes.now) l.i l.invariant.0 (omega (arith, entries_length a.of a.bytes.now))
    (sym c.if-not-before.true ∙ c.before-in-loop-i.ensures ∙ ap₂ ltb c.key_of.ensures c.key_of-in-loop-i.ensures))

pub returns : goal.returns
returns c =
    let a = c.args.self.now in
    let l = c.loop-i in
    let n = entries_length a.of a.bytes.now in
    elim (tri 0 a.of.count) [
      | less h ↦
          sym (l.invariant.1 h ∙ asc_end (key_of_entry a.of) (entries_of a.of a.bytes.now) l.i (suc (key_of_entry a.of (get_or (entries_of a.of a.bytes.now) (l.i - 1) []))) (omega (arith, c.loop-i-test.false)))
      | same h ↦ sym (asc_end (key_of_entry a.of) (entries_of a.of a.bytes.now) 0 0 (omega arith))
      | more h ↦ absurd (omega arith)
    ]
