use Rattle.std.proofs.Common.{◌≡◌, ◌&&◌, drop}
use Rattle.columns.specs.Bytes.{same_bytes}
use Rattle.columns.proofs.bytes.same_part.Given as goal

abbrev pub invariant-loop-i : goal.invariant-loop-i
invariant-loop-i l = l.ok && same_bytes (drop l.i l.a) (drop l.i l.b) ≡ same_bytes l.a l.b
