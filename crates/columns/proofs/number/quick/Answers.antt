use native.Mathlib.Omega.{arith}
use mathlib.Core.Path.{sym, subst}
use lib.Seq.{take_all}
use Rattle.columns.specs.declared.number.Plain.{Plain}
use Rattle.columns.specs.Number.{Quick}
use Rattle.columns.proofs.laws.Form.{plain_quick}
use Rattle.columns.proofs.number.quick.Goals as goal

pub returns-in-2 : goal.returns-in-2
returns-in-2 c =
    let s = c.args.s.now in
    let e = rw (take_all 2 s (omega (arith, c.in-2.is))) at c.read_plain.ensures in
    subst (λ (p : Plain). Quick p s) (sym e) (plain_quick s (omega (arith, c.in-2.is)))

pub returns-in-3 : goal.returns-in-3
returns-in-3 c =
    let s = c.args.s.now in
    let e = rw (take_all 3 s (omega (arith, c.in-3.is))) at c.read_plain-in-3.ensures in
    subst (λ (p : Plain). Quick p s) (sym e) (plain_quick s (omega (arith, c.in-3.is)))

pub returns-in-4 : goal.returns-in-4
returns-in-4 c =
    let s = c.args.s.now in
    let e = rw (take_all 4 s (omega (arith, c.in-4.is))) at c.read_plain-in-4.ensures in
    subst (λ (p : Plain). Quick p s) (sym e) (plain_quick s (omega (arith, c.in-4.is)))
