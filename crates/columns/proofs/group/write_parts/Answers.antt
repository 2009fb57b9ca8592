use native.Mathlib.Omega.{arith}
use Prim.Native.Nat.{◌+◌}
use lib.ListN.{length-set}
use Rattle.columns.proofs.laws.GroupBack.{fine, part_form, group_laid}
use Rattle.columns.proofs.group.write_parts.Goals as goal

pub put_part-requires : goal.put_part-requires
put_part-requires c =
    (omega (arith, c.requires.0), part_form c.args.g.first (fine c.args.g c.requires.1).first)

pub put_part-requires-2 : goal.put_part-requires-2
put_part-requires-2 c =
    let a = c.args in
    (omega (arith, c.requires.0, c.width_of-one.ensures, c.width_of.ensures, c.put_part.auto.out, length-set c.put_part.new.out c.width_of-one.result a.g.mark), part_form a.g.second (fine a.g c.requires.1).second)

pub bounds-out-two : goal.bounds-out-two
bounds-out-two c =
    let a = c.args in
    omega (arith, c.requires.0, c.width_of-one.ensures, c.width_of.ensures, c.put_part-2.auto.out, c.put_part.auto.out, length-set c.put_part.new.out c.width_of-one.result a.g.mark)

pub put_part-requires-3 : goal.put_part-requires-3
put_part-requires-3 c =
    let a = c.args in
    (omega (arith, c.requires.0, c.width_of-one.ensures, c.width_of.ensures, c.put_part-2.auto.out, c.put_part.auto.out, length-set c.put_part.new.out c.width_of-one.result a.g.mark, length-set c.put_part-2.new.out (c.width_of-one.result + 1 + c.width_of.result) a.g.mark), part_form a.g.third (fine a.g c.requires.1).third)

pub shape_of-out : goal.shape_of-out
shape_of-out c =
    let a = c.args in
    omega (arith, c.put_part-3.auto.out, c.put_part-2.auto.out, c.put_part.auto.out, length-set c.put_part.new.out c.width_of-one.result a.g.mark, length-set c.put_part-2.new.out (c.width_of-one.result + 1 + c.width_of.result) a.g.mark)

pub returns : goal.returns
returns c =
    let a = c.args in
    group_laid a.g a.x a.y a.z c.requires.1 a.out.now c.put_part.new.out c.put_part-2.new.out c.put_part-3.new.out c.width_of-one.result (c.width_of-one.result + 1 + c.width_of.result) c.requires.0 c.width_of-one.ensures (omega (arith, c.width_of-one.ensures, c.width_of.ensures)) c.put_part.ensures c.put_part-2.ensures c.put_part-3.ensures
