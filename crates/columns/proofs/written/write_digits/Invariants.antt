use Rattle.std.proofs.Common.{◌≡◌, ◌++◌, length, drop}
use Rattle.columns.specs.Number.{digits_of}
use Rattle.columns.proofs.written.write_digits.Given as goal

abbrev pub invariant-loop-i : goal.invariant-loop-i
invariant-loop-i l = digits_of (length l.initial.out) l.n ≡ digits_of l.i l.m ++ drop l.i l.out
