use borrow.Author.Rules.{rules}
use mathlib.Core.Path.{sym, ◌∙◌}
use Prim.Native.Nat.{◌+◌}
use borrow.Author.Tests.{not-true, not-false}
use Rattle.columns.specs.Answer.{barred_byte, wrong_letter}
use Rattle.columns.proofs.laws.Answers.{wrote_refused, wrote_whole}
use Rattle.columns.proofs.laws.Bytes.{copy_one}
use Rattle.columns.proofs.laws.Puts.{one_byte}
use Rattle.columns.proofs.writer.put_letter.Goals as goal

pub returns-then-is_barred : goal.returns-then-is_barred
returns-then-is_barred c =
    let a = c.args in
    rw c.at.ensures (wrote_refused _ a.out.now barred_byte (a.at + 1) (one_byte a.at a.s.now _ _ (search rules) (sym c.if-is_barred.true ∙ c.is_barred.ensures)))

pub returns-then-not-has : goal.returns-then-not-has
returns-then-not-has c =
    let a = c.args in
    rw c.at-then-not-has.ensures
    (wrote_refused _ a.out.now wrong_letter (a.at + 1)
    (one_byte a.at a.s.now _ _ (search rules) (sym c.if-is_barred.false ∙ c.is_barred.ensures) ∙ rw (sym c.has.ensures ∙ not-true _ c.if-not-has.true-raw)))

pub returns : goal.returns
returns c =
    let a = c.args in
    wrote_whole {ys = a.s.now} (one_byte a.at a.s.now _ _ (search rules) (sym c.if-is_barred.false ∙ c.is_barred.ensures) ∙ rw (sym c.has.ensures ∙ not-false _ c.if-not-has.false-raw)) (copy_one a.out.now a.s.now (search rules) (search rules))
