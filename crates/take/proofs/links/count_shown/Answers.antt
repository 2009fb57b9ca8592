use native.Mathlib.Omega.{arith}
use mathlib.Core.Path.{◌≡◌, ap, ◌∙◌}
use mathlib.Core.List.{List, [], ◌∷◌}
use Prim.Native.Nat.{ℕ}
use lib.ListN.{length, get_or}
use Rattle.catalogue.specs.Entries.{entries_of}
use Rattle.catalogue.proofs.laws.section.Rows.{entries_length}
use Rattle.catalogue.specs.Line.{link_line}
use Rattle.take.specs.Links.{shown}
use Rattle.take.proofs.laws.Links.{count_next, count_end, line_says, shown_none, shown_one}
use Rattle.take.proofs.links.count_shown.Goals as goal
use Rattle.take.proofs.links.count_shown.Goals.{then-not-is_delete, else-not-is_delete}

pub loop-i-preserved : goal.loop-i-preserved
loop-i-preserved c =
    let l = c.loop-i in
    let a = c.args.links.now in
    let xs : List (List ℕ) = entries_of a.of a.bytes.now in
    let y : List ℕ = get_or xs l.i [] in
    let m = count_next xs l.i (omega (arith, c.loop-i-test.true, entries_length a.of a.bytes.now)) in
    let e : c.line_of.result.now ≡ link_line y = c.line_of.ensures.0 ∙ ap link_line c.entry.ensures.0 in
    elim c.if-not-is_delete.branch [
      | then-not-is_delete w ↦
          let o : length (shown (y ∷ [])) ≡ 1 = ap length (shown_one y (line_says y e c.is_delete.ensures w.if-not-is_delete.true)) in
          (omega (arith, l.invariant.0, w.n-is, o, m), omega (arith, l.invariant.1, w.n-is))
      | else-not-is_delete w ↦
          let o : length (shown (y ∷ [])) ≡ 0 = ap length (shown_none y (line_says y e c.is_delete.ensures w.if-not-is_delete.false)) in
          (omega (arith, l.invariant.0, w.n-is, o, m), omega (arith, l.invariant.1, w.n-is))
    ]

pub returns : goal.returns
returns c =
    let l = c.loop-i in
    let a = c.args.links.now in
    (omega (arith, l.invariant.0, count_end (entries_of a.of a.bytes.now) l.i (omega (arith, c.loop-i-test.false, entries_length a.of a.bytes.now))), omega (arith, l.invariant.1))
