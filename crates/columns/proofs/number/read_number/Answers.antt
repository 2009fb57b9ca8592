use native.Mathlib.Omega.{arith}
use mathlib.Core.Path.{◌∙◌}
use Rattle.columns.proofs.laws.Form.{good_int, good_dec, form_integer, form_decimal}
use Rattle.columns.proofs.number.read_number.Goals as goal

pub read_any_int-requires : goal.read_any_int-requires
read_any_int-requires c =
    let p = rw c.in-Integer.is at c.requires in
    omega (arith, p.0, (good_int c.in-Integer.field-0 p.1).1)

pub read_dec-requires : goal.read_dec-requires
read_dec-requires c =
    let p = rw c.in-Decimal.is at c.requires in
    let g = good_dec c.in-Decimal.field-0 c.in-Decimal.decimals p.1 in
    (omega (arith, g.0, p.0), omega (arith, g.1, p.0))

pub returns-in-Integer : goal.returns-in-Integer
returns-in-Integer c = rw c.in-Integer.is (c.read_any_int.ensures ∙ form_integer _ _)

pub returns-in-Decimal : goal.returns-in-Decimal
returns-in-Decimal c = rw c.in-Decimal.is (c.read_dec.ensures ∙ form_decimal _ _ _)
