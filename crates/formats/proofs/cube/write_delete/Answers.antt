use mathlib.Core.Path.{ap}
use mathlib.Core.Bool.{true}
use mathlib.Core.List.{List}
use Prim.Native.Nat.{ℕ, ◌+◌, ◌-◌}
use native.Mathlib.Omega.{arith}
use lib.ListN.{length, length-append}
use Rattle.columns.specs.Answer.{wrong_length}
use Rattle.columns.proofs.laws.Answers.{wrote_refused, wrote_as}
use Rattle.formats.specs.Cube.{put_text, write_message}
use Rattle.formats.proofs.laws.CubeWriting.{put_long, delete_taken}
use Rattle.formats.proofs.cube.write_delete.Goals as goal

pub returns-then-len-gt67 : goal.returns-then-len-gt67
unfolding write_message
returns-then-len-gt67 c =
    let a = c.args in
    rw c.at.ensures (wrote_refused _ _ wrong_length 0 (put_long 13 80 13 _ true _ (omega (arith, c.if-len-gt67.true, c.requires, length-append a.names.now a.text.now))))

pub returns : goal.returns
unfolding write_message
returns c =
    let a = c.args in
    wrote_as _ _ _ _ _ (ap (λ (x : List ℕ). put_text 13 80 13 x true (length a.out.now)) (delete_taken a.names.now a.text.now _ (13 + length a.text.now - 0) c.requires (omega arith) c.delete_line-line.ensures)) c.put_text.ensures
