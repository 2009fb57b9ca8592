use borrow.Author.Tests.{le-ltb, lt-ltb}
use mathlib.Core.Path.{ap, ◌∙◌}
use Rattle.formats.specs.BlockWalk.{next_line, nothing}
use Rattle.formats.proofs.block_walk.next_line.Goals as goal
use Rattle.formats.proofs.block_walk.next_line.Goals.{then-before-lt-HEADER_LINE-via-then-before-lt-HEADER_LINE, then-before-lt-HEADER_LINE-via-else-before-lt-HEADER_LINE+then-before-gt-COMMENT_LINE}

pub returns-then-block-gt65536 : goal.returns-then-block-gt65536
unfolding next_line
returns-then-block-gt65536 c =
    rw (lt-ltb 65536 _ c.if-block-gt65536.true) (c.no_line.ensures ∙ ap nothing c.from.ensures)

pub returns-then-before-lt-HEADER_LINE : goal.returns-then-before-lt-HEADER_LINE
unfolding next_line
returns-then-before-lt-HEADER_LINE c =
    elim c.then-before-lt-HEADER_LINE.branch [
      | then-before-lt-HEADER_LINE-via-then-before-lt-HEADER_LINE w ↦ rw (le-ltb 65536 _ c.if-block-gt65536.false, lt-ltb _ 40 w.if-before-lt-HEADER_LINE.true) c.no_line-then-before-lt-HEADER_LINE.ensures
      | then-before-lt-HEADER_LINE-via-else-before-lt-HEADER_LINE+then-before-gt-COMMENT_LINE w ↦ rw (le-ltb 65536 _ c.if-block-gt65536.false, le-ltb _ 40 w.if-before-lt-HEADER_LINE.false, lt-ltb 42 _ w.if-before-gt-COMMENT_LINE.true) c.no_line-then-before-lt-HEADER_LINE.ensures
    ]

pub returns : goal.returns
unfolding next_line
returns c =
    rw (le-ltb 65536 _ c.if-block-gt65536.false, le-ltb _ 40 c.if-before-lt-HEADER_LINE.false, le-ltb 42 _ c.if-before-gt-COMMENT_LINE.false) c.line_after.ensures
