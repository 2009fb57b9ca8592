use mathlib.Core.Path.{sym, ◌∙◌}
use Rattle.std.proofs.lemmas.Result.{err_from_is_err_and}
use Rattle.formats.proofs.laws.Lettered.{into_short, into_refused, into_kind, led_refused, led_kind}
use Rattle.formats.proofs.lettered.read_lettered_into.Goals as goal

pub returns-then-out-most : goal.returns-then-out-most
returns-then-out-most c =
    rw c.at.ensures (into_short _ _ _ _ c.if-out-most.true)

pub returns-in_err-lead_of : goal.returns-in_err-lead_of
returns-in_err-lead_of c =
    let p = err_from_is_err_and c.from_residual.result c.from_residual.ensures.1 in
    rw (p.1, p.2) (into_refused _ _ _ _ c.if-out-most.false _ (led_refused _ _ _ (sym c.in_err-lead_of.was ∙ c.lead_of.ensures)))

pub returns : goal.returns
returns c =
    into_kind _ _ _ _ c.if-out-most.false _ (led_kind _ _ _ (sym c.in_ok-lead_of.was ∙ c.lead_of.ensures)) c.read_row_into.ensures
