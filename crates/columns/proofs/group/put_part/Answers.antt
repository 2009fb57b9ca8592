use native.Mathlib.Omega.{arith}
use mathlib.Core.Path.{ap, ◌∙◌}
use Prim.Native.Nat.{◌-◌, ◌+◌}
use Rattle.columns.specs.Number.{zero_filled}
use Rattle.columns.proofs.laws.Form.{zero_length}
use Rattle.columns.proofs.laws.Places.{part_placed}
use borrow.Rule.Slice.PartMut.{put_mid}
use Rattle.columns.proofs.group.put_part.Goals as goal

pub returns : goal.returns
returns c =
    let a = c.args in
    let w = c.width_of.ensures in
    let l = zero_length a.form a.n c.requires.1 in
    ap (put_mid a.at (a.at + c.width_of.result - a.at) a.out.now) c.write_zeros.ensures ∙ part_placed a.at (a.at + c.width_of.result) (zero_filled a.form a.n) a.out.now (omega (arith, w, l))
