use native.Mathlib.Omega.{arith}
use mathlib.Core.Path.{◌≡◌, sym, ◌∙◌}
use lib.ListN.{length}
use borrow.Author.Tests.{ne_eqb, eqb-true, eqb-false}
use Rattle.catalogue.proofs.laws.room.Zeros.{zero_none, zero_run, zero_stop}
use Rattle.catalogue.proofs.order.zeros.Goals as goal

pub returns-then-is_empty : goal.returns-then-is_empty
returns-then-is_empty c =
    c.if-is_empty.true ∙ sym (zero_none c.args.s.now (eqb-true _ 0 (sym c.if-is_empty.ensures)))

pub returns-then-s-eq0 : goal.returns-then-s-eq0
returns-then-s-eq0 c =
    let n : length c.args.s.now ≡ 0 → ⊥ = eqb-false _ 0 (sym c.if-is_empty.ensures) in
    c.same.ensures ∙ zero_run c.args.s.now (omega arith) c.if-s-eq0.true

pub returns-else-s-eq0 : goal.returns-else-s-eq0
returns-else-s-eq0 c =
    let n : length c.args.s.now ≡ 0 → ⊥ = eqb-false _ 0 (sym c.if-is_empty.ensures) in
    ne_eqb _ 0 c.if-s-eq0.false ∙ sym (zero_stop c.args.s.now (omega arith) c.if-s-eq0.false)
