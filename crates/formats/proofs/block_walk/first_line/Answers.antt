use mathlib.Core.Path.{sym, ap, ◌∙◌}
use borrow.Author.Tests.{lt-ltb, le-ltb, le-leb}
use Rattle.formats.specs.BlockWalk.{first_line, nothing}
use Rattle.formats.proofs.laws.BlockReader.{end_at, found_at}
use Rattle.formats.proofs.laws.BlockWalk.{first_header, first_other}
use Rattle.formats.proofs.block_walk.first_line.Goals as goal
use Rattle.formats.proofs.block_walk.first_line.Goals.{in_default-via-in-Some+else-is_header, in_default-via-in_default}

pub returns-then-block-gt65536 : goal.returns-then-block-gt65536
unfolding first_line
returns-then-block-gt65536 c =
    rw (lt-ltb 65536 _ c.if-block-gt65536.true) (c.no_line.ensures ∙ ap nothing c.from.ensures)

pub returns-in-Some : goal.returns-in-Some
returns-in-Some c =
    first_header _ _ c.if-block-gt65536.false (found_at _ _ (sym c.in-Some.is ∙ c.line_from.ensures.found)) c.is_header.ensures c.if-is_header.true

pub returns-in_default : goal.returns-in_default
unfolding first_line
returns-in_default c =
    elim c.in_default.branch [ in_default-via-in-Some+else-is_header w ↦ (c.no_line-in_default.ensures ∙ ap nothing c.from-in_default.ensures) ∙ first_other _ _ c.if-block-gt65536.false (found_at _ _ (sym w.in-Some.is ∙ c.line_from.ensures.found)) w.is_header.ensures w.if-is_header.false | in_default-via-in_default w ↦ rw (le-ltb 65536 _ c.if-block-gt65536.false, le-leb _ 0 (end_at c.args.block.now 0 (sym w.in_default.is ∙ c.line_from.ensures.found))) (c.no_line-in_default.ensures ∙ ap nothing c.from-in_default.ensures) ]
