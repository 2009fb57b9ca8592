use borrow.Author.Rules.{rules}
use mathlib.Core.Path.{◌∙◌}
use lib.ListN.{take}
use mir.Syntax.{w64}
use mir.ValLaws.{to_z-of_z}
use Rattle.columns.specs.Table.{slots_of}
use Rattle.columns.proofs.laws.Ranges.{allowed_day}
use Rattle.columns.proofs.column.allows.Goals as goal

pub returns-then-k-eq2 : goal.returns-then-k-eq2
returns-then-k-eq2 c =
    let a = c.args in
    let z = to_z-of_z w64 a.v (search rules) in
    rw z at c.day_after.ensures
    ∙ allowed_day a.ranges.now a.k (take a.n (slots_of a.flags.now a.values.now)) a.v c.if-k-eq2.true
