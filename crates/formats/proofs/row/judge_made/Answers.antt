use mathlib.Core.Path.{sym, ◌∙◌}
use Rattle.columns.proofs.laws.Bytes.{found_is, found_zero}
use Rattle.formats.specs.Row.{too_long, has_barred, well}
use Rattle.formats.proofs.row.judge_made.Goals as goal

pub returns-then-format_of-line : goal.returns-then-format_of-line
returns-then-format_of-line c =
    rw c.at.ensures (too_long (rw c.format_of.ensures.width at c.if-format_of-line.true))

pub returns-in-Some : goal.returns-in-Some
returns-in-Some c =
    let p = found_is _ _ (sym c.first_barred.ensures ∙ c.in-Some.is) in
    rw (c.at-in-Some.ensures, ← p.1) (has_barred (rw c.format_of.ensures.width at c.if-format_of-line.false) p.0)

pub returns-in-None : goal.returns-in-None
returns-in-None c =
    well (rw c.format_of.ensures.width at c.if-format_of-line.false) (found_zero _ (sym c.first_barred.ensures ∙ c.in-None.is))
