use native.Mathlib.Omega.{arith}
use Rattle.catalogue.proofs.laws.section.Rows.{row_before}
use Rattle.catalogue.proofs.section.Entries.entry_at.Goals as goal

-- The entry lies in the bytes.
pub overflow_mul-result : goal.overflow_mul-result
overflow_mul-result c =
    let e = c.args.self.now in
    omega (arith, row_before e.of.size c.args.i e.of.count c.requires, e.inside.fits)

pub overflow_add-result-2 : goal.overflow_add-result-2
overflow_add-result-2 c =
    let e = c.args.self.now in
    omega (arith, row_before e.of.size c.args.i e.of.count c.requires, e.inside.fits)
