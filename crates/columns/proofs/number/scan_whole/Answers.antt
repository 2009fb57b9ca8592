use borrow.Author.Rules.{rules}
use native.Mathlib.Omega.{arith}
use mathlib.Core.Path.{◌≡◌, sym, ap, ◌∙◌}
use mathlib.Core.List.{◌∷◌}
use lib.ListN.{length}
use Rattle.columns.specs.Number.{scan}
use Rattle.columns.proofs.laws.Bytes.{skip_short}
use Rattle.columns.proofs.laws.Number.{signed_none, signed_minus, signed_plain}
use Rattle.columns.proofs.number.scan_whole.Goals as goal

pub scan_number-requires : goal.scan_number-requires
scan_number-requires c =
    let e : c.trim-rest.result.now ≡ c.in-Some-eq45-default.field-0-0.now ∷ c.in-Some-eq45-default.digits.now = search rules in
    omega (arith, skip_short 32 c.args.s.now, ap length c.trim-rest.ensures, ap length e)

pub scan_number-requires-in-Some : goal.scan_number-requires-in-Some
scan_number-requires-in-Some c = omega (arith, skip_short 32 c.args.s.now, ap length c.trim-rest.ensures, c.requires)

pub returns-in-None : goal.returns-in-None
unfolding scan
returns-in-None c =
    sym (signed_none _ (sym (ap length c.trim-rest.ensures) ∙ c.in-None.ensures.cases))

pub returns-in-Some-eq45-default : goal.returns-in-Some-eq45-default
unfolding scan
returns-in-Some-eq45-default c =
    let e : c.trim-rest.result.now ≡ c.in-Some-eq45-default.field-0-0.now ∷ c.in-Some-eq45-default.digits.now = search rules in
    c.scan_number.ensures ∙ sym (signed_minus _ _ _ (sym c.trim-rest.ensures ∙ e) c.in-Some-eq45-default.field-0-0-test)

pub returns-in-Some : goal.returns-in-Some
unfolding scan
returns-in-Some c =
    let e : c.trim-rest.result.now ≡ c.in-Some.field-0.0.now ∷ c.in-Some.field-0.1.now = search rules in
    rw c.trim-rest.ensures at c.scan_number-in-Some.ensures ∙ sym (signed_plain _ _ _ (sym c.trim-rest.ensures ∙ e) (search rules))
