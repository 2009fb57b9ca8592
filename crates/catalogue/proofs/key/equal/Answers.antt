use borrow.Author.Rules.{rules}
use Rattle.catalogue.specs.Keys.{key_number}
use Rattle.catalogue.proofs.laws.section.Keys.{words_differ, low_words_equal}
use Rattle.catalogue.proofs.key.equal.Goals as goal

-- All four words are equal.
pub returns-then-a-b : goal.returns-then-a-b
unfolding key_number
returns-then-a-b c =
    let a = c.args in
    words_differ 18446744073709551616 a.a a.b (search rules) (search rules) (λ w. c.if-a-b.true w.0)

pub returns-then-a-b-2 : goal.returns-then-a-b-2
unfolding key_number
returns-then-a-b-2 c =
    let a = c.args in
    words_differ 18446744073709551616 a.a a.b (search rules) (search rules) (λ w. c.if-a-b-2.true w.1)

pub returns-then-a-b-3 : goal.returns-then-a-b-3
unfolding key_number
returns-then-a-b-3 c =
    let a = c.args in
    words_differ 18446744073709551616 a.a a.b (search rules) (search rules) (λ w. c.if-a-b-3.true w.2)

pub returns : goal.returns
unfolding key_number
returns c =
    let a = c.args in
    low_words_equal 18446744073709551616 a.a a.b (search rules) (search rules) (search rules) (search rules) (search rules)
