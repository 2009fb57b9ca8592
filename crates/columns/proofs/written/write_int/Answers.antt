use borrow.Author.Rules.{rules}
use mathlib.Core.Path.{ap, ◌∙◌, ◌≡◌}
use lib.ListN.{length}
use lib.IntN.{nat_abs}
use mir.ValLaws.{to_z-of_z}
use mir.Syntax.{w64}
use Rattle.columns.proofs.laws.Written.{minus_put, minus_length, int_neg, int_pos}
use Rattle.columns.proofs.written.write_int.Goals as goal

pub shape_of-out-then-v-lt0 : goal.shape_of-out-then-v-lt0
shape_of-out-then-v-lt0 c =
    let a = c.args in
    ap length (minus_put a.out.now _ _ (search rules) c.write_digits.ensures) ∙ minus_length a.out.now _ (search rules)

pub returns-then-v-lt0 : goal.returns-then-v-lt0
returns-then-v-lt0 c =
    let a = c.args in
    let n : c.magnitude_of-n.result ≡ nat_abs a.v = c.magnitude_of-n.ensures ∙ ap nat_abs (to_z-of_z w64 a.v (search rules)) in
    minus_put a.out.now _ _ (search rules) c.write_digits.ensures ∙ rw n (int_neg (length a.out.now) a.v (search rules) c.if-v-lt0.true).1

pub returns-else-v-lt0 : goal.returns-else-v-lt0
returns-else-v-lt0 c =
    let a = c.args in
    let n : c.magnitude_of-n.result ≡ nat_abs a.v = c.magnitude_of-n.ensures ∙ ap nat_abs (to_z-of_z w64 a.v (search rules)) in
    c.write_digits-else-v-lt0.ensures ∙ rw n (int_pos (length a.out.now) a.v (search rules) c.if-v-lt0.false).1
