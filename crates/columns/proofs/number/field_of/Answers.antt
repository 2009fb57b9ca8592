use mathlib.Core.Path.{sym, ◌∙◌, ap}
use native.Mathlib.Omega.{arith}
use mir.Syntax.{w64}
use mir.ValLaws.{to_z-of_z}
use Rattle.columns.specs.Number.{magnitude, value}
use Rattle.columns.specs.declared.number.Field.TheVariants as F
use Rattle.columns.proofs.number.field_of.Goals as goal

pub with_sign-requires : goal.with_sign-requires
with_sign-requires c =
    omega (arith, ap magnitude c.in-Number.is, c.requires)

pub returns-in-Number : goal.returns-in-Number
returns-in-Number c =
    rw (to_z-of_z w64 c.with_sign.result (record { sfits = c.with_sign.type_inv }))
    (ap F.Value c.with_sign.ensures ∙ sym (ap value c.in-Number.is))
