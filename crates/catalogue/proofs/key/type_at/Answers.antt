use Prim.Native.Nat.{ℕ, ◌+◌, ◌-◌, ◌<◌}
use native.Mathlib.Omega.{arith}
use mathlib.Core.Path.{◌≡◌, refl}
use mathlib.Core.List.{List}
use lib.ListN.{length, take, drop, get_or, length-take, length-drop}
use Rattle.std.proofs.lemmas.List.{get_or-take}
use Rattle.catalogue.specs.Line.{type_at}
use Rattle.catalogue.proofs.laws.section.Types.{typing_starts, typing_long, typing_turns, typing_stops, typing_ends}
use Rattle.catalogue.proofs.key.type_at.Goals as goal

item_is : (s : List ℕ) (at i : ℕ) → i < length (take (at + 16 - at) (drop at s)) → get_or (take (at + 16 - at) (drop at s)) i 0 ≡ get_or (drop at s) i 0
item_is s at i h = get_or-take (at + 16 - at) (drop at s) i 0 (omega (arith, length-take (at + 16 - at) (drop at s)))

pub loop-i-init : goal.loop-i-init
loop-i-init c =
    let d = c.args in
    (typing_starts (drop d.at d.s.now), simp length-drop (omega arith), refl)

pub returns-then-b-eq32 : goal.returns-then-b-eq32
unfolding type_at
returns-then-b-eq32 c =
    typing_stops c.loop-i.invariant.1 c.loop-i.invariant.0 (omega (arith, length-take (c.args.at + 16 - c.args.at) (drop c.args.at c.args.s.now))) (item_is c.args.s.now c.args.at c.loop-i.i c.loop-i-test.true) c.if-b-eq32.true

pub loop-i-preserved : goal.loop-i-preserved
loop-i-preserved c =
    let T = typing_turns c.loop-i.invariant.1 c.loop-i.invariant.0 (omega (arith, length-take (c.args.at + 16 - c.args.at) (drop c.args.at c.args.s.now))) (item_is c.args.s.now c.args.at c.loop-i.i c.loop-i-test.true) c.if-b-eq32.false in
    (T, c.loop-i.invariant.1, typing_long c.loop-i.invariant.1 T)

pub returns : goal.returns
unfolding type_at
returns c =
    typing_ends c.loop-i.invariant.1 c.loop-i.invariant.0 (omega (arith, length-take (c.args.at + 16 - c.args.at) (drop c.args.at c.args.s.now)))
