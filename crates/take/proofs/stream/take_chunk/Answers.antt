use Rattle.take.proofs.laws.Steps.{chunk_turn, chunk_end}
use native.Mathlib.Omega.{arith}
use mathlib.Core.Path.{◌≡◌, sym, ◌∙◌}
use Rattle.std.proofs.lemmas.Bool.{eqb-true}
use Prim.Native.Nat.{◌-◌}
use lib.ListN.{length, take, drop, length-drop}
use lib.Seq.{take_all}
use Rattle.take.proofs.stream.take_chunk.Goals as goal

pub loop-rest-preserved : goal.loop-rest-preserved
loop-rest-preserved g c =
    let l = c.loop-rest in
    let t = c.take_next-n in
    let e : take (length l.rest.now - t.result) (drop t.result l.rest.now) ≡ drop t.result l.rest.now = take_all (length l.rest.now - t.result) (drop t.result l.rest.now) (omega (arith, length-drop t.result l.rest.now)) in
    rw e (chunk_turn t.ensures ∙ l.invariant.0, omega (arith, l.invariant.1, t.ensures.counted, t.ensures.onward, length-drop t.result l.rest.now))

pub returns : goal.returns
returns g c =
    let l = c.loop-rest in
    let z : length l.rest.now ≡ 0 = eqb-true (length l.rest.now) 0 (sym c.loop-rest-test.ensures) in
    (sym (chunk_end l.intake l.rest.now z) ∙ l.invariant.0, omega (arith, l.invariant.1))
