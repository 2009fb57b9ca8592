use native.Mathlib.Omega.{arith}
use borrow.Author.Tests.{not-true, not-false}
use lib.ListN.{length}
use Rattle.columns.specs.Answer.{bad_form}
use Rattle.columns.proofs.laws.Row.{part_line, whole_line}
use Rattle.columns.specs.Table.{slots_of}
use Rattle.columns.proofs.laws.Answers.{wrote_as, wrote_refused}
use Rattle.columns.proofs.row.write_row.Goals as goal

pub is_whole-requires : goal.is_whole-requires
is_whole-requires c = omega (arith, c.requires.1.numbers)

pub returns-then-not-is_whole : goal.returns-then-not-is_whole
returns-then-not-is_whole c =
    let a = c.args in
    rw c.at.ensures (wrote_refused _ a.out.now bad_form 0 (part_line _ a.flags.now (slots_of a.flags.now a.values.now) a.text.now _ c.is_whole.ensures (length a.out.now) (not-true _ c.if-not-is_whole.true-raw)))

pub returns : goal.returns
returns c =
    let a = c.args in
    wrote_as _ a.out.now _ _ _ (whole_line _ a.flags.now (slots_of a.flags.now a.values.now) a.text.now _ c.is_whole.ensures (length a.out.now) (not-false _ c.if-not-is_whole.false-raw)) c.write_columns.ensures
