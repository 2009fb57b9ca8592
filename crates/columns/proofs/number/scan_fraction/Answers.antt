use native.Mathlib.Omega.{arith}
use mathlib.Core.Path.{◌≡◌, sym, ap, ◌∙◌}
use Prim.Native.Nat.{◌-◌}
use lib.Seq.{take_all}
use lib.ListN.{length, take, drop, length-take, length-drop}
use Rattle.columns.specs.declared.number.Scan.{Scan}
use Rattle.columns.specs.Number.{with_sign, fraction}
use Rattle.columns.proofs.laws.Number.{fraction_point, fraction_no_point, fraction_malformed}
use Rattle.columns.proofs.number.scan_fraction.Goals as goal

pub read_digits-requires : goal.read_digits-requires
read_digits-requires c =
    let p = rw c.in-Number.is at c.requires in
    let z : length (take (length c.args.s.now - 1) (drop 1 c.args.s.now)) ≡ length c.args.s.now - 1 = omega (arith, length-take (length c.args.s.now - 1) (drop 1 c.args.s.now), length-drop 1 c.args.s.now) in
    rw z p.1

pub returns-in-Blank : goal.returns-in-Blank
unfolding fraction
returns-in-Blank c = rw (c.in-Blank.is, sym c.is_blank.ensures ∙ c.if-is_blank.true)

pub returns-in-Some : goal.returns-in-Some
returns-in-Some c =
    let a = c.args in
    sym (ap (λ (x : Scan). fraction x a.s.now) c.in-Number.is ∙ fraction_point a.s.now _ _ c.requires.0 c.if-s-eq46.true ∙ ap (with_sign c.in-Number.minus) (sym (rw (take_all (length a.s.now - 1) (drop 1 a.s.now) (omega (arith, length-drop 1 a.s.now))) at c.read_digits.ensures) ∙ c.in-Some.is))

pub returns-in-None : goal.returns-in-None
returns-in-None c =
    let a = c.args in
    sym (ap (λ (x : Scan). fraction x a.s.now) c.in-Number.is ∙ fraction_point a.s.now _ _ c.requires.0 c.if-s-eq46.true ∙ ap (with_sign c.in-Number.minus) (sym (rw (take_all (length a.s.now - 1) (drop 1 a.s.now) (omega (arith, length-drop 1 a.s.now))) at c.read_digits.ensures) ∙ c.in-None.is))

pub returns-in_default : goal.returns-in_default
unfolding fraction
returns-in_default c = rw (c.in-Blank.is, sym c.is_blank.ensures ∙ c.if-is_blank.false)

pub returns-in_default-2 : goal.returns-in_default-2
returns-in_default-2 c =
    let a = c.args in
    sym (ap (λ (x : Scan). fraction x a.s.now) c.in-Number.is ∙ fraction_no_point a.s.now _ _ c.if-s-eq46.false)

pub returns-in_default-3 : goal.returns-in_default-3
returns-in_default-3 c = sym (ap (λ (x : Scan). fraction x c.args.s.now) c.in_default.is ∙ fraction_malformed _)
