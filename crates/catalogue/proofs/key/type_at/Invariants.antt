use mathlib.Core.Path.{◌≡◌}
use Prim.Native.Nat.{◌≤◌}
use lib.ListN.{length, drop}
use Rattle.catalogue.proofs.laws.section.Types.{Typing}
use Rattle.catalogue.proofs.key.type_at.Given as goal

-- The first i bytes are no blanks and stand in the array.
abbrev pub invariant-loop-i : goal.invariant-loop-i
invariant-loop-i l =
    Typing (drop l.at l.s) l.bytes l.i × (16 ≤ length (drop l.at l.s)) × (length l.bytes ≡ 16)
