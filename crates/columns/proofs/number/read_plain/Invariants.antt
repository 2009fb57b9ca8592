use Rattle.std.proofs.Common.{◌≡◌, ◌+◌, ◌-◌, ◌*◌, ◌^◌, ◌≤◌, false, length, drop}
use Rattle.columns.specs.Number.{plain_scan}
use Rattle.columns.proofs.number.read_plain.Given as goal

abbrev pub invariant-loop-b : goal.invariant-loop-b
invariant-loop-b l =
    ((l.n + 1) * 10 ^ (length l.s - l.b-index) ≤ 10 ^ 18) × (plain_scan false 0 l.s ≡ plain_scan l.any l.n (drop l.b-index l.s))
