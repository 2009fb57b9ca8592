use Rattle.take.proofs.laws.Text.{lines_end, entry_turn}
use native.Mathlib.Omega.{arith}
use mathlib.Core.Path.{◌≡◌, sym, ap, ◌∙◌}
use Prim.Native.Nat.{ℕ, ◌+◌, ◌*◌}
use lib.ListN.{length}
use mathlib.Core.List.{List}
use Rattle.catalogue.specs.Entries.{entries_of}
use Rattle.catalogue.proofs.laws.section.Rows.{entries_length}
use Rattle.take.proofs.text.put_entries.Goals as goal

pub loop-i-preserved : goal.loop-i-preserved
loop-i-preserved g c =
    let e = c.args.entries.now in
    let l = c.loop-i in
    let xs : List (List ℕ) = entries_of e.of e.bytes.now in
    let t = entry_turn xs l.i (omega (arith, c.loop-i-test.true, entries_length e.of e.bytes.now)) l.out c.entry.ensures c.put_bytes.ensures c.put_byte.ensures l.invariant.0 in
    (t.0, omega (arith, t.1, l.invariant.1))

pub returns : goal.returns
returns g c =
    let e = c.args.entries.now in
    let l = c.loop-i in
    let i : l.i ≡ e.of.count = omega (arith, c.loop-i-test.false) in (
      sym (lines_end (entries_of e.of e.bytes.now) l.i l.out (omega (arith, entries_length e.of e.bytes.now, i))) ∙ l.invariant.0,
      l.invariant.1 ∙ ap (λ (k : ℕ). length c.args.out.now + (e.of.size + 1) * k) i,
    )
