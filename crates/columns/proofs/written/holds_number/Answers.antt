use borrow.Author.Rules.{rules}
use native.Mathlib.Omega.{arith}
use mathlib.Core.Path.{◌∙◌}
use mir.Syntax.{w64}
use mir.ValLaws.{to_z-of_z}
use Rattle.columns.proofs.laws.Form.{good_int, good_dec, holds_integer, holds_decimal}
use Rattle.columns.proofs.written.holds_number.Goals as goal

pub holds_int-requires : goal.holds_int-requires
holds_int-requires c =
    good_int _ (rw c.in-Integer.is at c.requires)

pub holds_dec-requires : goal.holds_dec-requires
holds_dec-requires c =
    let g = good_dec c.in-Decimal.width c.in-Decimal.field-1 (rw c.in-Decimal.is at c.requires) in
    (omega (arith, g.0), g.1)

pub returns-in-Integer : goal.returns-in-Integer
returns-in-Integer c =
    let z = to_z-of_z w64 c.args.v (search rules) in
    rw c.in-Integer.is (rw z at c.holds_int.ensures ∙ holds_integer _ _)

pub returns-in-Decimal : goal.returns-in-Decimal
returns-in-Decimal c =
    let z = to_z-of_z w64 c.args.v (search rules) in
    rw c.in-Decimal.is (rw z at c.holds_dec.ensures ∙ holds_decimal _ _ _)
