use Prim.Native.Nat.{◌+◌, ◌-◌}
use lib.ListN.{take, drop}
use Rattle.columns.proofs.laws.Bytes.{plain_none}
use Rattle.columns.proofs.bytes.barred_between.Goals as goal

pub returns-then-plain_part : goal.returns-then-plain_part
returns-then-plain_part c =
    let a = c.args in
    rw (plain_none a.from a.to (a.column + a.start) (take (a.end - a.start) (drop a.start a.s.now)) (c.plain_part.ensures c.if-plain_part.true))
