use borrow.Author.Rules.{rules}
use native.Mathlib.Omega.{arith}
use mir.Syntax.{w64}
use mir.ValLaws.{to_z-of_z}
use Rattle.columns.specs.Table.{flags_of, values_of}
use Rattle.columns.proofs.laws.Places.{placed_none}
use Rattle.columns.proofs.reader.store.Goals as goal

pub put_number-requires : goal.put_number-requires
put_number-requires c =
    let p = rw c.in-Number.is at c.requires in
    (omega (arith, p.numbers), omega (arith, p.numbers, p.same))

pub put_three-requires : goal.put_three-requires
put_three-requires c =
    let p = rw c.in-NoThree.is at c.requires in
    (omega (arith, p.numbers), omega (arith, p.numbers, p.same))

pub put_three-requires-in-Three : goal.put_three-requires-in-Three
put_three-requires-in-Three c =
    let p = rw c.in-Three.is at c.requires in
    (omega (arith, p.numbers), omega (arith, p.numbers, p.same))

pub copy_at-requires : goal.copy_at-requires
copy_at-requires c = let p = rw c.in-Chars.is at c.requires in p.chars

pub returns-in-Number : goal.returns-in-Number
unfolding flags_of values_of
returns-in-Number c =
    let a = c.args in
    rw c.in-Number.is (record { flags = c.put_number.ensures.0; values = c.put_number.ensures.1; chars = placed_none a.t a.text.now })

pub returns-in-NoThree : goal.returns-in-NoThree
unfolding flags_of values_of
returns-in-NoThree c =
    let a = c.args in
    rw c.in-NoThree.is (record { flags = c.put_three.ensures.0; values = c.put_three.ensures.1; chars = placed_none a.t a.text.now })

pub returns-in-Three : goal.returns-in-Three
unfolding flags_of values_of
returns-in-Three c =
    let a = c.args in
    let zx = to_z-of_z w64 c.in-Three.x (search rules) in
    let zy = to_z-of_z w64 c.in-Three.y (search rules) in
    let zz = to_z-of_z w64 c.in-Three.z (search rules) in
    rw c.in-Three.is (record { flags = c.put_three-in-Three.ensures.0; values = rw (zx, zy, zz) at c.put_three-in-Three.ensures.1; chars = placed_none a.t a.text.now })

pub returns-in-Chars : goal.returns-in-Chars
unfolding flags_of values_of
returns-in-Chars c =
    let a = c.args in
    rw c.in-Chars.is
    (record { flags = placed_none a.k a.flags.now; values = placed_none a.k a.values.now; chars = c.copy_at.ensures })

pub returns-in-Gap : goal.returns-in-Gap
unfolding flags_of values_of
returns-in-Gap c =
    let a = c.args in
    rw c.in-Gap.is
    (record { flags = placed_none a.k a.flags.now; values = placed_none a.k a.values.now; chars = placed_none a.t a.text.now })
