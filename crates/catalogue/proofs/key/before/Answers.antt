use borrow.Author.Rules.{rules}
use native.Mathlib.Omega.{arith}
use Rattle.catalogue.specs.Keys.{key_number}
use Rattle.catalogue.proofs.laws.section.Keys.{before_true, before_false, source_less, identifier_less}
use Rattle.catalogue.proofs.key.before.Goals as goal

-- The first word that differs decides.
pub returns-then-a-b : goal.returns-then-a-b
unfolding key_number
returns-then-a-b c =
    let a = c.args in
    before_true 18446744073709551616 a.a a.b (source_less 18446744073709551616 a.a a.b (search rules) c.if-a-b.true)

pub returns-then-b-a : goal.returns-then-b-a
unfolding key_number
returns-then-b-a c =
    let a = c.args in
    before_false 18446744073709551616 a.a a.b (source_less 18446744073709551616 a.b a.a (search rules) c.if-b-a.true)

pub returns-then-a-b-2 : goal.returns-then-a-b-2
unfolding key_number
returns-then-a-b-2 c =
    let a = c.args in
    before_true 18446744073709551616 a.a a.b (identifier_less 18446744073709551616 a.a a.b (search rules) (omega arith) c.if-a-b-2.true)

pub returns-then-b-a-2 : goal.returns-then-b-a-2
unfolding key_number
returns-then-b-a-2 c =
    let a = c.args in
    before_false 18446744073709551616 a.a a.b (identifier_less 18446744073709551616 a.b a.a (search rules) (omega arith) c.if-b-a-2.true)

pub type_before-requires : goal.type_before-requires
type_before-requires c =
    (omega arith, omega arith)

pub returns : goal.returns
returns c =
    c.type_before.ensures
