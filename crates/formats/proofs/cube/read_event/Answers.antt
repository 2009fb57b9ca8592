use native.Mathlib.Omega.{arith}
use borrow.Author.Rules.{rules}
use mathlib.Core.Path.{refl, sym, ◌∙◌}
use Rattle.std.proofs.lemmas.Result.{err_from_is_err_and}
use Rattle.columns.proofs.laws.Answers.{differs_not, differs_is}
use Rattle.columns.proofs.laws.Bytes.{found_is, found_zero}
use Rattle.columns.proofs.laws.Table.{table_of}
use Rattle.formats.specs.Cube.{read_event, event_row}
use Rattle.formats.proofs.laws.Cube.{untouched, event_stored}
use Rattle.formats.proofs.laws.EventColumns.{event_sound}
use Rattle.formats.proofs.cube.read_event.Goals as goal

pub returns-then-line-ne80 : goal.returns-then-line-ne80
unfolding read_event event_row
returns-then-line-ne80 c =
    rw (c.at.ensures, differs_is _ 80 c.if-line-ne80.true) (untouched _ _ refl _ _ _)

pub returns-in-Some : goal.returns-in-Some
unfolding read_event event_row
returns-in-Some c =
    let q = found_is _ _ (sym c.first_barred.ensures ∙ c.in-Some.is) in
    rw (c.at-in-Some.ensures, ← q.1, differs_not _ 80 c.if-line-ne80.false, differs_is _ 0 q.0) (untouched _ _ refl _ _ _)

pub returns-then-line-check_character : goal.returns-then-line-check_character
unfolding read_event event_row
returns-then-line-check_character c =
    rw (c.at-then-line-check_character.ensures, differs_not _ 80 c.if-line-ne80.false, differs_not _ 0 (found_zero _ (sym c.first_barred.ensures ∙ c.in_default.is)), differs_is _ _ (λ q. c.if-line-check_character.true (q ∙ sym c.check_character.ensures))) (untouched _ _ refl _ _ _)

pub read_columns-requires : goal.read_columns-requires
read_columns-requires c =
    let l = c.if-line-ne80.false in
    table_of event_sound _ _ _ _ (omega (arith, l)) (omega (arith, l)) (search rules) (search rules) (search rules)

pub returns-in_err-read_columns : goal.returns-in_err-read_columns
unfolding read_event event_row
returns-in_err-read_columns c =
    let p = err_from_is_err_and c.from_residual.result c.from_residual.ensures.1 in
    rw (p.1, p.2, differs_not _ 80 c.if-line-ne80.false, differs_not _ 0 (found_zero _ (sym c.first_barred.ensures ∙ c.in_default.is)), differs_not _ _ (c.if-line-check_character.false ∙ c.check_character.ensures)) (event_stored (rw c.in_err-read_columns.was at c.read_columns.ensures))

pub returns : goal.returns
unfolding read_event event_row
returns c =
    rw (differs_not _ 80 c.if-line-ne80.false, differs_not _ 0 (found_zero _ (sym c.first_barred.ensures ∙ c.in_default.is)), differs_not _ _ (c.if-line-check_character.false ∙ c.check_character.ensures)) (event_stored (rw c.in_ok-read_columns.was at c.read_columns.ensures))
