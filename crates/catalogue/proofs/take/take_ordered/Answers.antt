use native.Mathlib.Omega.{arith}
use mathlib.Core.Path.{refl, sym, ◌∙◌}
use borrow.Author.Tests.{eq-eqb, ne_eqb}
use Rattle.formats.proofs.laws.CubeThere.{was_refused}
use Rattle.catalogue.proofs.laws.step.Line.{whole}
use Rattle.catalogue.proofs.laws.room.Found.{notice_ok}
use Rattle.catalogue.proofs.laws.room.Took.{there_link, there_event, there_delete, took_refused}
use Rattle.catalogue.proofs.take.take_ordered.Goals as goal

pub returns-in_default : goal.returns-in_default
returns-in_default c =
    took_refused c.requires.0 c.args.line.now (was_refused _ c.unwrap_err.result (sym c.read_line-read.ensures.answer ∙ c.unwrap_err.ensures)) c.requires.1 _ refl refl

pub take_link-requires : goal.take_link-requires
take_link-requires c =
    (c.requires.0, c.requires.1, there_link c.args.line.now _ (sym c.read_line-read.ensures.answer ∙ c.in-Ok.is) _ _ _ c.in-Link.is)

pub take_notice-requires : goal.take_notice-requires
take_notice-requires c =
    (c.requires.0, c.requires.1, there_event c.args.line.now _ (sym c.read_line-read.ensures.answer ∙ c.in-Ok.is) c.in-Event.is)

pub bounds-line-12 : goal.bounds-line-12
bounds-line-12 c =
    let l = c.args.line.now in
    omega (arith, (whole l (notice_ok l _ (there_delete l _ (sym c.read_line-read.ensures.answer ∙ c.in-Ok.is) _ c.in-Delete.is))).long)

pub take_notice-requires-in-Delete : goal.take_notice-requires-in-Delete
take_notice-requires-in-Delete c =
    (c.requires.0, c.requires.1, rw (eq-eqb _ 32 c.if-line-eq-BLANK.true) at (there_delete c.args.line.now _ (sym c.read_line-read.ensures.answer ∙ c.in-Ok.is) _ c.in-Delete.is))

pub take_notice-requires-in-Delete-2 : goal.take_notice-requires-in-Delete-2
take_notice-requires-in-Delete-2 c =
    (c.requires.0, c.requires.1, rw (ne_eqb _ 32 c.if-line-eq-BLANK.false) at (there_delete c.args.line.now _ (sym c.read_line-read.ensures.answer ∙ c.in-Ok.is) _ c.in-Delete.is))
