use Rattle.std.specs.Prelude.{Err}
use Rattle.formats.proofs.laws.Block.{block_long, block_none, first_other, first_lines}
use Rattle.formats.proofs.laws.BlockReader.{found_at, end_at}
use mathlib.Core.Path.{sym, ap, ◌∙◌}
use Rattle.formats.proofs.block.read_block.Goals as goal
use Rattle.formats.proofs.block.read_block.Goals.{in_default-via-in-Some+else-is_header, in_default-via-in_default}

pub returns-then-block-gt65536 : goal.returns-then-block-gt65536
returns-then-block-gt65536 c =
    ap Err (rw c.at.ensures at c.on_line.ensures) ∙ sym (block_long _ _ c.args.block.now c.if-block-gt65536.true)

pub returns-in-Some : goal.returns-in-Some
returns-in-Some c =
    c.read_lines.ensures ∙ first_lines _ _ _ c.if-block-gt65536.false (found_at _ _ (sym c.in-Some.is ∙ c.line_from.ensures.found)) c.is_header.ensures c.if-is_header.true

pub returns-in_default : goal.returns-in_default
returns-in_default c =
    ap Err (rw c.at-in_default.ensures at c.on_line-in_default.ensures)
    ∙ elim c.in_default.branch [
      | in_default-via-in-Some+else-is_header w ↦ first_other _ _ _ c.if-block-gt65536.false (found_at _ _ (sym w.in-Some.is ∙ c.line_from.ensures.found)) w.is_header.ensures w.if-is_header.false
      | in_default-via-in_default w ↦ let b = c.args.block.now in sym (block_none _ _ b c.if-block-gt65536.false (end_at b 0 (sym w.in_default.is ∙ c.line_from.ensures.found)))
    ]
