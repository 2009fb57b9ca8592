use borrow.Author.Rules.{rules}
use mathlib.Core.Path.{sym, ap, ◌∙◌}
use lib.ListN.{length}
use Rattle.columns.specs.Number.{with_sign}
use Rattle.columns.proofs.laws.Number.{number_part, number_none, one_room}
use Rattle.columns.proofs.number.scan_number.Goals as goal

pub returns-then-is_empty : goal.returns-then-is_empty
returns-then-is_empty c = sym (ap (with_sign c.args.minus) (number_none c.args.s.now (search rules)))

pub read_digits-requires : goal.read_digits-requires
read_digits-requires c = one_room (length c.args.s.now) c.requires

pub returns-in-Some : goal.returns-in-Some
returns-in-Some c =
    sym (ap (with_sign c.args.minus) (number_part c.args.s.now (search rules) ∙ sym c.read_digits.ensures ∙ c.in-Some.is))

pub returns-in-None : goal.returns-in-None
returns-in-None c =
    sym (ap (with_sign c.args.minus) (number_part c.args.s.now (search rules) ∙ sym c.read_digits.ensures ∙ c.in-None.is))
