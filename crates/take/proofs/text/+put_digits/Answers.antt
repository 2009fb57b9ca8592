use Rattle.std.proofs.Common.{rules, arith, ◌-◌, ◌/◌, append_assoc}
use Rattle.take.proofs.laws.Text.{put_length, digits_one, digits_more, digits_few}
use Rattle.take.specs.Text.{digits}
use Rattle.take.proofs.text.+put_digits.Goals as goal

pub returns-then-n-lt10 : goal.returns-then-n-lt10
returns-then-n-lt10 t c =
    rw (digits_one c.args.most c.args.n (search rules) c.if-n-lt10.true) c.put_byte.ensures

pub put_byte-requires-2 : goal.put_byte-requires-2
put_byte-requires-2 t c =
    let k = digits (c.args.most - 1) (c.args.n / 10) in
    omega (arith, digits_few (c.args.most - 1) (c.args.n / 10), put_length c.args.out.now k c.put_digits.ensures)

pub returns : goal.returns
returns t c =
    rw (digits_more c.args.most c.args.n (search rules) c.if-n-lt10.false, c.put_byte-2.ensures, c.put_digits.ensures) (simp append_assoc)
