use Rattle.std.proofs.Common.{◌≡◌, true}
use Rattle.columns.specs.Bytes.{Plain}
use Rattle.columns.proofs.bytes.plain_part.Given as goal

abbrev pub invariant-loop-b : goal.invariant-loop-b
invariant-loop-b l = l.ok ≡ true → Plain l.b-index l.s
