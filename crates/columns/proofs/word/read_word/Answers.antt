use native.Mathlib.Omega.{arith}
use mathlib.Core.Path.{sym, ◌∙◌}
use lib.ListN.{get_or}
use Rattle.columns.proofs.laws.Word.{word_more, word_none, word_room, word_low}
use Rattle.columns.proofs.word.read_word.Goals as goal

pub overflow_mul-n : goal.overflow_mul-n
overflow_mul-n c =
    let l = c.loop-b in
    omega (arith, word_room l.n 0 l.b-index (omega arith) l.invariant.0, word_low l.b-index (omega (arith, c.requires, c.loop-b-test.true)))

pub overflow_add-n : goal.overflow_add-n
overflow_add-n c =
    let l = c.loop-b in
    omega (arith, word_room l.n (get_or c.args.s.now l.b-index 0) l.b-index (omega (arith, c.type_inv.s l.b-index)) l.invariant.0, word_low l.b-index (omega (arith, c.requires, c.loop-b-test.true)), c.from.ensures)

pub loop-b-preserved : goal.loop-b-preserved
loop-b-preserved c =
    let l = c.loop-b in
    let a = c.args in
    rw c.from.ensures
    (word_room l.n (get_or a.s.now l.b-index 0) l.b-index (omega (arith, c.type_inv.s l.b-index)) l.invariant.0, l.invariant.1 ∙ word_more a.s.now l.b-index l.n c.loop-b-test.true)

pub returns : goal.returns
returns c =
    let l = c.loop-b in
    sym (l.invariant.1 ∙ word_none c.args.s.now l.b-index l.n c.loop-b-test.false)
