use mathlib.Core.Path.{sym, subst}
use native.Mathlib.Omega.{arith}
use lib.IntN.{ℤ}
use mir.Syntax.{w64}
use mir.Val.{SFits}
use mir.ValLaws.{to_z_pos, to_z-of_z}
use Rattle.columns.proofs.laws.Number.{neg_is, neg_fits}
use Rattle.columns.proofs.number.with_sign.Goals as goal

pub overflow_sub-result : goal.overflow_sub-result
overflow_sub-result c =
    subst (λ (z : ℤ). SFits w64 z) (sym (neg_is _ c.requires)) (neg_fits _ c.requires)

pub returns-then-minus : goal.returns-then-minus
returns-then-minus c =
    rw (neg_is c.args.n c.requires, to_z-of_z w64 _ (neg_fits _ c.requires), c.if-minus.true)

pub returns-else-minus : goal.returns-else-minus
returns-else-minus c =
    rw (to_z_pos w64 c.args.n (omega arith), c.if-minus.false)
