use Rattle.formats.proofs.laws.BlockBounds.{block_small}
use Rattle.formats.specs.Block.{read_block}
use Rattle.formats.specs.Format.{block_of}
use Rattle.formats.proofs.laws.Format.{format_fits}
use Rattle.rotmibel.specs.Answers.{block_answer}
use Rattle.rotmibel.proofs.laws.Answers.{read_number, refused_number}
use native.Mathlib.Omega.{arith}
use mathlib.Core.Path.{sym, ap, ◌∙◌}
use Rattle.rotmibel.proofs.block_number.Goals as goal

pub overflow_mul-counts : goal.overflow_mul-counts
overflow_mul-counts c =
    let b = c.args.block.now in
    let w = read_number (read_block (block_of c.args.kind) b) _ (sym c.read_block.ensures ∙ c.in-Ok.is) (block_small (block_of c.args.kind) (format_fits c.args.kind) b) in
    omega (arith, w.used)

pub overflow_add-counts : goal.overflow_add-counts
overflow_add-counts c =
    let b = c.args.block.now in
    let w = read_number (read_block (block_of c.args.kind) b) _ (sym c.read_block.ensures ∙ c.in-Ok.is) (block_small (block_of c.args.kind) (format_fits c.args.kind) b) in
    omega (arith, w.used, w.comments)

pub parts_of-requires : goal.parts_of-requires
parts_of-requires c =
    let b = c.args.block.now in
    let w = read_number (read_block (block_of c.args.kind) b) _ (sym c.read_block.ensures ∙ c.in-Ok.is) (block_small (block_of c.args.kind) (format_fits c.args.kind) b) in
    (w.rows, omega (arith, w.used, w.comments))

pub parts_of-requires-in-Err : goal.parts_of-requires-in-Err
parts_of-requires-in-Err c =
    let b = c.args.block.now in
    let w = refused_number (read_block (block_of c.args.kind) b) _ (sym c.read_block.ensures ∙ c.in-Err.is) (block_small (block_of c.args.kind) (format_fits c.args.kind) b) in
    (w.0, omega (arith, w.1))

pub returns-in-Ok : goal.returns-in-Ok
returns-in-Ok c =
    c.parts_of.ensures ∙ sym (ap block_answer (sym c.read_block.ensures ∙ c.in-Ok.is))

pub returns-in-Err : goal.returns-in-Err
returns-in-Err c =
    rw c.from.ensures at c.parts_of-in-Err.ensures ∙ sym (ap block_answer (sym c.read_block.ensures ∙ c.in-Err.is))
