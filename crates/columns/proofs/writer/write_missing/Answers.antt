use Prim.Native.Nat.{◌+◌}
use lib.ListN.{replicate, length, length-replicate}
use Rattle.columns.proofs.laws.Answers.{wrote_refused, wrote_done}
use Rattle.columns.specs.Answer.{required_blank}
use Rattle.columns.proofs.writer.write_missing.Goals as goal

pub returns-then-required : goal.returns-then-required
returns-then-required c =
    let a = c.args in
    rw c.at.ensures (wrote_refused _ a.out.now required_blank (a.at + 1) (rw c.if-required.true))

pub returns : goal.returns
returns c =
    let a = c.args in
    wrote_done _ a.out.now (replicate (length a.out.now) 32) _ (rw c.if-required.false) (length-replicate (length a.out.now) 32) c.blanks.ensures
