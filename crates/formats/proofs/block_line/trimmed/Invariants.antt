use mathlib.Core.Path.{◌≡◌}
use Prim.Native.Nat.{◌≤◌}
use lib.ListN.{length, take}
use Rattle.formats.specs.Block.{trim_end}
use Rattle.formats.proofs.block_line.trimmed.Given as goal

abbrev pub invariant-loop-i : goal.invariant-loop-i
invariant-loop-i l =
    (l.i ≤ length l.line) × (trim_end l.line ≡ trim_end (take l.i l.line))
