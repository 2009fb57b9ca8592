use borrow.Author.Rules.{rules}
use mir.ValLaws.{to_z-of_z}
use mir.Syntax.{w64}
use Rattle.columns.proofs.laws.Places.{set_placed}
use Rattle.columns.proofs.laws.Reader.{flag_is, value_is}
use Rattle.columns.proofs.reader.put_number.Goals as goal

pub returns : goal.returns
returns c =
    let a = c.args in
    let p = c.requires in
    let z = to_z-of_z w64 c.unwrap_or.result (search rules) in
    (rw (c.from.ensures, c.is_some.ensures, flag_is a.number) (set_placed a.k a.flags.now _ p.0), rw (z, c.unwrap_or.ensures, value_is a.number) (set_placed a.k a.values.now _ p.1))
