use Rattle.std.proofs.Common.{◌≡◌, ◌+◌, ◌-◌, ◌*◌, ◌^◌, ◌≤◌, length, drop}
use Rattle.columns.specs.Number.{digits}
use Rattle.columns.proofs.number.read_digits.Given as goal

abbrev pub invariant-loop-b : goal.invariant-loop-b
invariant-loop-b l =
    ((l.n + 1) * 10 ^ (length l.s - l.b-index) ≤ 10 ^ 18) × (digits l.before l.s ≡ digits l.n (drop l.b-index l.s))
