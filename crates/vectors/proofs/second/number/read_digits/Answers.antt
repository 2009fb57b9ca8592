use Rattle.std.proofs.Common.{◌^◌, ◌<◌, ◌≤◌, ℕ, arith, rules, add-one, pow-suc}
use native.Mathlib.Nat.{pow-le-pow_right}
use Rattle.vectors.proofs.second.number.read_digits.Goals as goal

seven_places : (v k : ℕ) → v < 10 ^ k → k ≤ 7 → v < 10000000
seven_places v k h e = omega (arith, pow-le-pow_right {n = 10} (omega arith) e)

eight_places : (v k : ℕ) → v < 10 ^ k → k ≤ 8 → v < 100000000
eight_places v k h e = omega (arith, pow-le-pow_right {n = 10} (omega arith) e)

pub overflow_mul-value : goal.overflow_mul-value
overflow_mul-value c =
    let l = c.loop-b in
    omega (arith, seven_places l.value l.b-index l.invariant (search rules))

pub overflow_add-value : goal.overflow_add-value
overflow_add-value c =
    let l = c.loop-b in
    omega (arith, seven_places l.value l.b-index l.invariant (search rules))

pub loop-b-preserved : goal.loop-b-preserved
loop-b-preserved c =
    let l = c.loop-b in
    rw add-one (omega (arith, pow-suc 10 l.b-index, l.invariant))

pub returns : goal.returns
returns c =
    let l = c.loop-b in
    eight_places l.value l.b-index l.invariant (search rules)
