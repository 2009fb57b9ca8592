use native.Mathlib.Omega.{arith}
use mathlib.Core.Path.{◌∙◌}
use Rattle.columns.proofs.laws.Form.{good_dec, zeros_integer, zeros_decimal}
use Rattle.columns.proofs.written.write_zeros.Goals as goal

pub write_zero_dec-requires : goal.write_zero_dec-requires
write_zero_dec-requires c =
    let p = rw c.in-Decimal.is at c.requires in
    let g = good_dec c.in-Decimal.field-0 c.in-Decimal.decimals p.1 in
    (omega (arith, p.0, g.0), omega (arith, g.0, g.1))

pub returns-in-Integer : goal.returns-in-Integer
returns-in-Integer c =
    let p = rw c.in-Integer.is at c.requires in
    rw c.in-Integer.is (rw p.0 at c.write_digits.ensures ∙ zeros_integer _ _)

pub returns-in-Decimal : goal.returns-in-Decimal
returns-in-Decimal c =
    let p = rw c.in-Decimal.is at c.requires in
    rw c.in-Decimal.is (rw p.0 at c.write_zero_dec.ensures ∙ zeros_decimal _ _ _)
