use native.Mathlib.Omega.{arith}
use mathlib.Core.Path.{◌∙◌}
use Rattle.columns.proofs.laws.Form.{good_int, good_dec, form_integer, form_decimal}
use Rattle.columns.proofs.cursor.Cursor.number.Goals as goal

pub integer-requires : goal.integer-requires
integer-requires c =
    let p = rw c.in-Integer.is at c.requires in
    (p.0, (good_int _ p.1).1)

pub decimal-requires : goal.decimal-requires
decimal-requires c =
    let p = rw c.in-Decimal.is at c.requires in
    let g = good_dec c.in-Decimal.width c.in-Decimal.decimals p.1 in
    (p.0, (omega (arith, g.0), g.1))

pub returns-in-Integer : goal.returns-in-Integer
returns-in-Integer c = rw c.in-Integer.is (c.integer.ensures.0 ∙ form_integer _ _, c.integer.ensures.1)

pub returns-in-Decimal : goal.returns-in-Decimal
returns-in-Decimal c = rw c.in-Decimal.is (c.decimal.ensures.0 ∙ form_decimal _ _ _, c.decimal.ensures.1)
