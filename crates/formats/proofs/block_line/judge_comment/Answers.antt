use mathlib.Core.Path.{sym, ap, ◌∙◌}
use borrow.Author.Tests.{le-ltb, lt-ltb}
use Rattle.std.specs.Prelude.{Err}
use Rattle.columns.specs.Answer.{barred_byte, refusal_at}
use Rattle.columns.proofs.laws.Answers.{differs_not, differs_is}
use Rattle.columns.proofs.laws.Bytes.{found_is, found_zero}
use Rattle.formats.specs.Block.{read_comment}
use Rattle.formats.proofs.block_line.judge_comment.Goals as goal

pub returns-then-line-gt1024 : goal.returns-then-line-gt1024
unfolding read_comment
returns-then-line-gt1024 c =
    rw (lt-ltb 1024 _ c.if-line-gt1024.true) (ap Err c.at.ensures)

pub returns-in-Some : goal.returns-in-Some
unfolding read_comment
returns-in-Some c =
    let f = found_is _ _ (sym c.first_barred.ensures ∙ c.in-Some.is) in
    rw (le-ltb 1024 _ c.if-line-gt1024.false, differs_is _ 0 f.0) (ap Err (c.at-in-Some.ensures ∙ ap (refusal_at barred_byte) (sym f.1)))

pub returns-then-last_byte-ne-CLOSES : goal.returns-then-last_byte-ne-CLOSES
unfolding read_comment
returns-then-last_byte-ne-CLOSES c =
    rw (le-ltb 1024 _ c.if-line-gt1024.false, differs_not _ 0 (found_zero _ (sym c.first_barred.ensures ∙ c.in_default.is)), differs_is _ 41 (λ q. c.if-last_byte-ne-CLOSES.true (c.last_byte.ensures ∙ q))) (ap Err c.at-then-last_byte-ne-CLOSES.ensures)

pub returns-then-seen : goal.returns-then-seen
unfolding read_comment
returns-then-seen c =
    rw (le-ltb 1024 _ c.if-line-gt1024.false, differs_not _ 0 (found_zero _ (sym c.first_barred.ensures ∙ c.in_default.is)), differs_not _ 41 (sym c.last_byte.ensures ∙ c.if-last_byte-ne-CLOSES.false), c.if-seen.true)

pub returns : goal.returns
unfolding read_comment
returns c =
    rw (le-ltb 1024 _ c.if-line-gt1024.false, differs_not _ 0 (found_zero _ (sym c.first_barred.ensures ∙ c.in_default.is)), differs_not _ 41 (sym c.last_byte.ensures ∙ c.if-last_byte-ne-CLOSES.false), c.if-seen.false) (ap Err c.at-2.ensures)
