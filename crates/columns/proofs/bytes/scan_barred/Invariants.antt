use Rattle.std.proofs.Common.{◌≡◌, ◌+◌, drop}
use Rattle.columns.specs.Bytes.{barred}
use Rattle.columns.proofs.bytes.scan_barred.Given as goal

abbrev pub invariant-loop-i : goal.invariant-loop-i
invariant-loop-i l = barred l.from l.to l.column l.s ≡ barred l.from l.to (l.column + l.i) (drop l.i l.s)
