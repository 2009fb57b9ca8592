use Prim.Native.Nat.{◌≤◌}
use Rattle.formats.proofs.laws.Lines.{Seen}
use Rattle.formats.proofs.lines.no_newline.Given as goal

abbrev pub invariant-loop-i : goal.invariant-loop-i
invariant-loop-i l =
    (l.i ≤ 16) × Seen l.ok l.c l.i
