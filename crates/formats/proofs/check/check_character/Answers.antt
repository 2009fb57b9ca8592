use native.Mathlib.Omega.{arith}
use mathlib.Core.Path.{◌≡◌, ◌∙◌}
use Prim.Native.Nat.{◌-◌}
use lib.ListN.{length, take, drop, length-drop}
use lib.Seq.{take_all}
use Rattle.formats.proofs.laws.Check.{sum_part, character_is}
use Rattle.formats.proofs.check.check_character.Goals as goal

pub loop-rest-preserved : goal.loop-rest-preserved
loop-rest-preserved c =
    let l = c.loop-rest in
    let r = l.rest.now in
    let e : take (length r - 8) (drop 8 r) ≡ drop 8 r = take_all (length r - 8) (drop 8 r) (omega (arith, length-drop 8 r)) in
    rw (c.with_eight-sum.ensures, e) (sum_part r 0 8 l.sum ∙ l.invariant)

pub returns : goal.returns
returns c =
    rw c.modulo_91.ensures (character_is c.args.s.now _ (c.with_all.ensures ∙ c.loop-rest.invariant))
