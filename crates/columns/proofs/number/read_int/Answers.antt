use native.Mathlib.Omega.{arith}
use mathlib.Core.Path.{sym, subst}
use mir.Syntax.{w64}
use mir.ValLaws.{to_z_pos}
use Rattle.columns.specs.declared.number.Plain.{Plain}
use Rattle.columns.specs.Number.{Quick}
use Rattle.columns.proofs.number.read_int.Goals as goal

pub overflow_cast-result : goal.overflow_cast-result
overflow_cast-result c =
    omega (arith, (subst (λ (p : Plain). Quick p c.args.s.now) c.in-Number.is c.quick.ensures).1)

pub returns-in-Number : goal.returns-in-Number
returns-in-Number c =
    let q = subst (λ (p : Plain). Quick p c.args.s.now) c.in-Number.is c.quick.ensures in
    let k = q.1 in
    rw (to_z_pos w64 c.in-Number.n (omega arith)) (sym q.0)

pub returns-in-Blank : goal.returns-in-Blank
returns-in-Blank c = sym (subst (λ (p : Plain). Quick p c.args.s.now) c.in-Blank.is c.quick.ensures)
