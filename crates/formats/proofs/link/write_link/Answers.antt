use Prim.Native.Nat.{◌+◌, ◌-◌}
use native.Mathlib.Omega.{arith}
use Rattle.columns.specs.Answer.{wrong_length}
use Rattle.columns.proofs.laws.Answers.{wrote_refused, wrote_as}
use Rattle.formats.specs.Cube.{write_message}
use Rattle.formats.proofs.laws.CubeWriting.{put_long}
use Rattle.formats.proofs.laws.LinkLine.{link_size, link_taken}
use Rattle.formats.proofs.link.write_link.Goals as goal

pub returns-then-size-gt238 : goal.returns-then-size-gt238
unfolding write_message
returns-then-size-gt238 c =
    let a = c.args in
    rw c.at.ensures (wrote_refused _ _ wrong_length 0 (put_long 20 255 14 _ _ _ (omega (arith, c.if-size-gt238.true, c.parts_size-size.ensures, link_size a.names.now a.kind.now a.address.now a.text.now c.requires))))

pub returns : goal.returns
unfolding write_message
returns c =
    let a = c.args in
    let t = link_taken a.names.now a.kind.now a.address.now a.text.now _ (17 + c.parts_size-size.result - 0) c.requires (omega (arith, c.parts_size-size.ensures, c.if-size-gt238.false)) c.link_line-line.ensures in
    wrote_as _ _ _ _ _ (rw (t, c.is_formed-formed.ensures)) c.put_text.ensures
