use borrow.Author.Rules.{rules}
use mir.ValLaws.{to_z-of_z}
use mir.Syntax.{w64}
use lib.ListN.{length-set, set}
use Prim.Native.Nat.{◌+◌}
use native.Mathlib.Omega.{arith}
use Rattle.columns.proofs.laws.Places.{three_placed}
use Rattle.columns.proofs.reader.put_three.Goals as goal

pub bounds-flags-k-2 : goal.bounds-flags-k-2
bounds-flags-k-2 c =
    omega (arith, length-set c.args.flags.now c.args.k c.args.flag, c.requires.0)

pub bounds-flags-k-3 : goal.bounds-flags-k-3
bounds-flags-k-3 c =
    let a = c.args in
    omega (arith, length-set (set a.flags.now a.k a.flag) (a.k + 1) a.flag, length-set a.flags.now a.k a.flag, c.requires.0)

pub bounds-values-k-2 : goal.bounds-values-k-2
bounds-values-k-2 c =
    let a = c.args in
    rw length-set (omega (arith, c.requires.1))

pub bounds-values-k-3 : goal.bounds-values-k-3
bounds-values-k-3 c =
    let a = c.args in
    rw (length-set, length-set) (omega (arith, c.requires.1))

pub returns : goal.returns
returns c =
    let a = c.args in
    let p = c.requires in
    let zh = to_z-of_z w64 a.h (search rules) in
    let zm = to_z-of_z w64 a.m (search rules) in
    let zs = to_z-of_z w64 a.s (search rules) in
    (three_placed a.k a.flags.now a.flag a.flag a.flag p.0, rw (zh, zm, zs) (three_placed a.k a.values.now a.h a.m a.s p.1))
