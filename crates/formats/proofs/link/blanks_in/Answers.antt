use native.Mathlib.Omega.{arith}
use Rattle.formats.specs.Lines.{end_from}
use Rattle.formats.proofs.link.blanks_in.Goals as goal

-- The second word ends past the first.
pub returns-then-line-end-clause-places : goal.returns-then-line-end-clause-places
unfolding end_from
returns-then-line-end-clause-places c =
    omega (arith, c.scan_end-end.ensures.0, c.if-line-end.true)
