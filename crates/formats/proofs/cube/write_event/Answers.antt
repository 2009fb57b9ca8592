use borrow.Author.Rules.{rules}
use lib.Dec.{lit≤}
use lib.ListN.{length}
use mathlib.Core.Path.{◌∙◌}
use Rattle.std.proofs.lemmas.Result.{err_from_is_err_and}
use Rattle.columns.specs.Table.{slots_of}
use Rattle.columns.specs.Answer.{too_short}
use Rattle.columns.proofs.laws.Answers.{wrote_refused}
use Rattle.columns.proofs.laws.Table.{slots_length, table_of}
use Rattle.formats.proofs.laws.CubeWriting.{put_event_short, event_refused, event_done}
use Rattle.formats.proofs.laws.EventColumns.{event_sound}
use Rattle.formats.proofs.cube.write_event.Goals as goal

pub returns-then-out-lt80 : goal.returns-then-out-lt80
returns-then-out-lt80 c =
    let a = c.args in
    rw c.at.ensures (wrote_refused _ a.out.now too_short 0 (put_event_short (slots_of a.flags.now a.values.now) a.text.now (length a.out.now) c.if-out-lt80.true))

pub put_columns-requires : goal.put_columns-requires
put_columns-requires c =
    table_of event_sound _ _ _ _ (lit≤ tt) (lit≤ tt) (search rules) (search rules) (search rules)

pub returns-in_err-put_columns : goal.returns-in_err-put_columns
returns-in_err-put_columns c =
    let a = c.args in
    let p = err_from_is_err_and c.from_residual.result c.from_residual.ensures.1 in
    rw (p.1, p.2) (event_refused (slots_of a.flags.now a.values.now) a.text.now a.out.now c.if-out-lt80.false _ (rw c.in_err-put_columns.was at c.put_columns.ensures))

pub returns : goal.returns
returns c =
    let a = c.args in
    event_done (slots_of a.flags.now a.values.now) a.text.now a.out.now c.if-out-lt80.false _ c.check_character.result (slots_length a.flags.now a.values.now (search rules) ∙ search rules) (search rules) (rw c.in_ok-put_columns.was at c.put_columns.ensures) c.check_character.ensures c.copy.ensures
