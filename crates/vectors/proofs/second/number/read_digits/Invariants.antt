use Rattle.std.proofs.Common.{◌^◌, ◌<◌}
use Rattle.vectors.proofs.second.number.read_digits.Given as goal

abbrev pub invariant-loop-b : goal.invariant-loop-b
invariant-loop-b l = l.value < 10 ^ l.b-index
