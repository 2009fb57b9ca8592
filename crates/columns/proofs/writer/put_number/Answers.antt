use borrow.Author.Rules.{rules}
use mathlib.Core.Path.{◌≡◌, sym, ◌∙◌}
use Prim.Native.Nat.{◌+◌}
use mathlib.Core.Bool.{true}
use mir.Syntax.{w64}
use mir.ValLaws.{to_z-of_z}
use borrow.Author.Tests.{not-true, not-false}
use Rattle.columns.specs.Answer.{out_of_range, too_wide}
use Rattle.columns.specs.Number.{holds}
use Rattle.columns.proofs.laws.Answers.{wrote_refused, wrote_as, wrote_done}
use Rattle.columns.proofs.laws.Puts.{put_missing, put_wide, put_out, put_in}
use Rattle.columns.proofs.laws.Form.{form_length}
use Rattle.columns.proofs.writer.put_number.Goals as goal

pub returns-then-there-eq0 : goal.returns-then-there-eq0
returns-then-there-eq0 c =
    let a = c.args in
    wrote_as _ a.out.now _ _ _
    (rw c.requires.1.0 (sym (put_missing a.form a.required (λ x. a.fits) a.at a.there a.v c.if-there-eq0.true)))
    c.write_missing.ensures

pub returns-then-not-holds_number : goal.returns-then-not-holds_number
returns-then-not-holds_number c =
    let a = c.args in
    let z = to_z-of_z w64 a.v (search rules) in
    rw c.at.ensures
    (wrote_refused _ a.out.now too_wide (a.at + 1)
    (put_wide a.form a.required (λ x. a.fits) a.at a.there a.v c.if-there-eq0.false
    (sym (rw z at c.holds_number.ensures) ∙ not-true _ c.if-not-holds_number.true-raw)))

pub returns-then-not-fits : goal.returns-then-not-fits
returns-then-not-fits c =
    let a = c.args in
    let z = to_z-of_z w64 a.v (search rules) in
    rw c.at-then-not-fits.ensures
    (wrote_refused _ a.out.now out_of_range (a.at + 1)
    (put_out a.form a.required (λ x. a.fits) a.at a.there a.v c.if-there-eq0.false
    (sym (rw z at c.holds_number.ensures) ∙ not-false _ c.if-not-holds_number.false-raw) (not-true _ c.if-not-fits.true-raw)))

pub write_number-requires : goal.write_number-requires
write_number-requires c =
    let a = c.args in
    let z = to_z-of_z w64 a.v (search rules) in
    (search rules, (c.requires.1.1, rw z (sym (rw z at c.holds_number.ensures) ∙ not-false _ c.if-not-holds_number.false-raw)))

pub returns : goal.returns
returns c =
    let a = c.args in
    let z = to_z-of_z w64 a.v (search rules) in
    let h : holds a.form a.v ≡ true = sym (rw z at c.holds_number.ensures) ∙ not-false _ c.if-not-holds_number.false-raw in
    wrote_done _ a.out.now _ _
    (put_in a.form a.required (λ x. a.fits) a.at a.there a.v c.if-there-eq0.false h (not-false _ c.if-not-fits.false-raw))
    (form_length a.form a.v c.requires.1.1 h ∙ sym c.requires.1.0) (rw z at c.write_number.ensures)
