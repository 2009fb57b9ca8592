use Rattle.std.proofs.Common.{◌≡◌, ◌++◌, length, drop}
use Rattle.columns.specs.Number.{back}
use Rattle.columns.proofs.written.write_back.Given as goal

abbrev pub invariant-loop-i : goal.invariant-loop-i
invariant-loop-i l = back (length l.initial.out) l.initial.p ≡ back l.i l.p ++ drop l.i l.out
