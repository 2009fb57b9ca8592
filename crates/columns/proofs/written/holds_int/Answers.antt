use mir.ValLaws.{to_z-of_z}
use mir.Syntax.{w64}
use borrow.Author.Rules.{rules}
use Rattle.columns.proofs.laws.Written.{int_neg, int_pos}
use Rattle.columns.proofs.written.holds_int.Goals as goal
use Rattle.columns.proofs.written.holds_int.Goals.{then-v-lt0, else-v-lt0}

pub returns : goal.returns
returns c =
    let a = c.args in
    let z = to_z-of_z w64 a.v (search rules) in
    elim c.if-v-lt0.branch [
      | then-v-lt0 w ↦ rw (c.magnitude_of.ensures, c.power.ensures, w.places-is, z) (int_neg a.width a.v (search rules) w.if-v-lt0.true).0
      | else-v-lt0 w ↦ rw (c.magnitude_of.ensures, c.power.ensures, w.places-is, z) (int_pos a.width a.v (search rules) w.if-v-lt0.false).0
    ]
