use Rattle.take.proofs.laws.Text.{decimal_few, put_length}
use Rattle.take.specs.Text.{decimal}
use native.Mathlib.Omega.{arith}
use mathlib.Core.Path.{◌≡◌, refl, ap, ◌∙◌}
use lib.ListN.{length}
use Rattle.take.proofs.text.put_number.Goals as goal

pub put_bytes-requires : goal.put_bytes-requires
unfolding decimal
put_bytes-requires g c =
    let e : c.written.result.now ≡ decimal c.args.n = c.written.ensures ∙ rw (c.put_digits.ensures, c.new-digits.ensures) refl in
    omega (arith, ap length e, decimal_few c.args.n)

pub returns : goal.returns
unfolding decimal
returns g c =
    let e : c.written.result.now ≡ decimal c.args.n = c.written.ensures ∙ rw (c.put_digits.ensures, c.new-digits.ensures) refl in
    (rw (c.put_bytes.ensures, e) refl, omega (arith, put_length c.args.out.now c.written.result.now c.put_bytes.ensures, ap length e, decimal_few c.args.n))
