use native.Mathlib.Omega.{arith}
use Rattle.catalogue.specs.Moves.{put_in}
use Rattle.catalogue.proofs.laws.section.Rows.{row_before, row_inside}
use Rattle.catalogue.proofs.moves.put.Goals as goal

pub copy_in-requires : goal.copy_in-requires
copy_in-requires c =
    omega (arith, c.entry_at-at.ensures, row_inside c.args.of.size _ c.args.of.count ((rw c.in-Ok.is at c.requires.5)), c.requires.0.fits, c.requires.4)

pub splice-requires : goal.splice-requires
splice-requires c =
    (omega (arith, c.entry_at-at-in-Err.ensures, row_before c.args.of.size _ c.args.of.count ((rw c.in-Err.is at c.requires.5)), c.requires.1), rw c.in-Err.is at c.requires.2)

pub returns-in-Ok : goal.returns-in-Ok
unfolding put_in
returns-in-Ok c =
    rw (c.in-Ok.is, ← c.entry_at-at.ensures) c.copy_in.ensures

pub returns-in-Err : goal.returns-in-Err
unfolding put_in
returns-in-Err c =
    rw (c.in-Err.is, ← c.entry_at-at-in-Err.ensures, ← c.splice.ensures) c.set_count.ensures
