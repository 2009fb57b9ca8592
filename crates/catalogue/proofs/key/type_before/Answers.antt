use borrow.Author.Rules.{rules}
use native.Mathlib.Omega.{arith}
use mathlib.Core.Path.{sym}
use Rattle.catalogue.specs.Keys.{key_number}
use Rattle.catalogue.proofs.laws.section.Keys.{before_true, before_false, high_word_less, low_word_decides}
use Rattle.catalogue.proofs.key.type_before.Goals as goal

-- The first word of the types that differs decides.
pub returns-then-a-b : goal.returns-then-a-b
unfolding key_number
returns-then-a-b c =
    let a = c.args in
    before_true 18446744073709551616 a.a a.b (high_word_less 18446744073709551616 a.a a.b (search rules) c.requires.0 c.requires.1 c.if-a-b.true)

pub returns-then-b-a : goal.returns-then-b-a
unfolding key_number
returns-then-b-a c =
    let a = c.args in
    before_false 18446744073709551616 a.a a.b (high_word_less 18446744073709551616 a.b a.a (search rules) (sym c.requires.0) (sym c.requires.1) c.if-b-a.true)

pub returns : goal.returns
unfolding key_number
returns c =
    let a = c.args in
    low_word_decides 18446744073709551616 a.a a.b (search rules) c.requires.0 c.requires.1 (omega arith)
