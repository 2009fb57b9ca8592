use borrow.Author.Rules.{rules}
use native.Mathlib.Omega.{arith}
use mathlib.Core.Path.{◌∙◌}
use mir.Syntax.{w64}
use mir.ValLaws.{to_z-of_z}
use Rattle.columns.proofs.laws.Form.{good_int, good_dec, holds_decimal, bytes_integer, bytes_decimal}
use Rattle.columns.proofs.written.write_number.Goals as goal

pub write_int-requires : goal.write_int-requires
write_int-requires c =
    let p = rw c.in-Integer.is at c.requires in
    omega (arith, p.0, (good_int c.in-Integer.field-0 p.1.0).0)

pub write_dec-requires : goal.write_dec-requires
write_dec-requires c =
    let p = rw c.in-Decimal.is at c.requires in
    let z = to_z-of_z w64 c.args.v (search rules) in
    let g = good_dec c.in-Decimal.field-0 c.in-Decimal.decimals p.1.0 in
    (omega (arith, p.0, g.0), (omega (arith, p.0, g.1), rw (z, p.0) (holds_decimal c.in-Decimal.field-0 c.in-Decimal.decimals c.args.v ∙ p.1.1)))

pub returns-in-Integer : goal.returns-in-Integer
returns-in-Integer c =
    let p = rw c.in-Integer.is at c.requires in
    let z = to_z-of_z w64 c.args.v (search rules) in
    rw c.in-Integer.is (rw (z, p.0) at c.write_int.ensures ∙ bytes_integer _ _)

pub returns-in-Decimal : goal.returns-in-Decimal
returns-in-Decimal c =
    let p = rw c.in-Decimal.is at c.requires in
    let z = to_z-of_z w64 c.args.v (search rules) in
    rw c.in-Decimal.is (rw (z, p.0) at c.write_dec.ensures ∙ bytes_decimal _ _ _)
