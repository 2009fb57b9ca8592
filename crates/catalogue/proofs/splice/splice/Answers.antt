use native.Mathlib.Omega.{arith}
use mathlib.Core.Path.{◌≡◌, ◌∙◌}
use mathlib.Core.List.{append_assoc}
use Prim.Native.Nat.{◌+◌, ◌-◌}
use lib.ListN.{length}
use Rattle.catalogue.specs.Splice.{opened}
use Rattle.catalogue.proofs.laws.section.Splicing.{filled}
use Rattle.catalogue.proofs.splice.splice.Goals as goal

pub returns : goal.returns
unfolding opened
returns c =
    let a = c.args in
    let n = length a.s.now in
    let e : a.at + n + (a.used - a.at) ≡ a.used + n = omega arith in
    let g : c.copy_within.new.self ≡ opened a.room.now a.at a.used n a.at = c.copy_within.ensures.after ∙ rw (append_assoc, e) in
    c.copy_in.ensures ∙ rw g (filled a.room.now a.s.now a.at a.used c.requires.0 c.requires.1)
