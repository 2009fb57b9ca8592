use native.Mathlib.Omega.{arith}
use mathlib.Core.Path.{◌≡◌, sym, ◌∙◌}
use mathlib.Core.List.{List}
use Prim.Native.Nat.{ℕ}
use Rattle.catalogue.specs.Entries.{entries_of}
use Rattle.catalogue.proofs.laws.section.Rows.{entries_length}
use Rattle.take.proofs.laws.Links.{lines_end, shown_turn}
use Rattle.take.proofs.links.put_shown.Goals as goal

pub loop-i-preserved : goal.loop-i-preserved
loop-i-preserved g c =
    let l = c.loop-i in
    let a = c.args.links.now in
    let xs : List (List ℕ) = entries_of a.of a.bytes.now in
    let p = c.put_link in (
      shown_turn xs l.i (omega (arith, c.loop-i-test.true, entries_length a.of a.bytes.now)) l.out c.entry.ensures.0 p.ensures.0 l.invariant.0,
      omega (arith, p.ensures.1, l.invariant.1),
    )

pub returns : goal.returns
returns g c =
    let a = c.args.links.now in
    let l = c.loop-i in
    let i : l.i ≡ a.of.count = omega (arith, c.loop-i-test.false) in (
      sym (lines_end (entries_of a.of a.bytes.now) l.i l.out (omega (arith, entries_length a.of a.bytes.now, i))) ∙ l.invariant.0,
      omega (arith, l.invariant.1, i),
    )
