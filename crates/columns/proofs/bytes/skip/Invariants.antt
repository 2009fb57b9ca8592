use Rattle.std.proofs.Common.{◌≡◌, drop}
use Rattle.columns.specs.Bytes.{skip}
use Rattle.columns.proofs.bytes.skip.Given as goal

abbrev pub invariant-loop-i : goal.invariant-loop-i
invariant-loop-i l = skip l.b l.s ≡ skip l.b (drop l.i l.s)
