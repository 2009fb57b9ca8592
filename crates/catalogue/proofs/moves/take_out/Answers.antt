use native.Mathlib.Omega.{arith}
use Rattle.catalogue.specs.Moves.{taken_out}
use Rattle.catalogue.proofs.laws.section.Rows.{row_inside}
use Rattle.catalogue.proofs.moves.take_out.Goals as goal

-- The entry lies in the section, and the section before the end.
pub cut-requires : goal.cut-requires
cut-requires c =
    (omega (arith, c.entry_at-at.ensures, row_inside c.args.of.size c.args.i c.args.of.count c.requires.4, c.requires.1), c.requires.2)

pub returns : goal.returns
unfolding taken_out
returns c =
    rw (← c.entry_at-at.ensures, ← c.cut.ensures) c.set_count.ensures
