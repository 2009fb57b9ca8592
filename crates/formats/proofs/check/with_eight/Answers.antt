use borrow.Author.Rules.{rules}
use native.Mathlib.Omega.{arith}
use mathlib.Core.Path.{◌≡◌, sym, ◌∙◌}
use Prim.Native.Nat.{◌+◌, ◌-◌, ◌*◌, ◌/◌, ◌%◌, ◌≤◌, ◌<◌}
use lib.Bits.{and_mask}
use Rattle.formats.proofs.laws.CheckEight.{weigh, weigh_more, weigh_none, weigh_most, ones, eight_at_once}
use Rattle.formats.proofs.check.with_eight.Goals as goal

pub loop-k-init : goal.loop-k-init
loop-k-init c =
    (search rules, search rules, sym (weigh_none c.args.part.now 8 (search rules)))

pub loop-k-preserved : goal.loop-k-preserved
loop-k-preserved c =
    let l = c.loop-k in
    let e : l.k - 1 + 1 ≡ l.k = omega arith in
    let w = rw (e, ← l.invariant.2) at (weigh_more c.args.part.now (l.k - 1) (omega arith)) in
    (search rules, omega (arith, w, weigh_most c.args.part.now (l.k - 1) c.requires (λ i. (c.shared_slice_known-in-loop-k-1.given i).fits)), sym w)

pub returns-then-sum-ones-lt65791 : goal.returns-then-sum-ones-lt65791
returns-then-sum-ones-lt65791 c =
    let l = c.loop-k in
    let k : l.k ≡ 0 = omega arith in
    let e : l.ahead ≡ weigh c.args.part.now = rw k at l.invariant.2 in
    let t : c.args.sum + 256 * ones (c.args.sum + l.ahead) < 65791 = c.if-sum-ones-lt65791.true in
    let o : c.args.sum + 255 * ones (c.args.sum + l.ahead) ≤ 65790 = omega arith in
    let v = c.args.sum + l.ahead in
    let m : v * 256 % 4294967296 ≡ v * 256 = omega arith in
    and_mask (v / 256 + v * 256 % 4294967296) 16 ∙ rw (m, e) (sym (eight_at_once c.args.part.now c.args.sum c.requires (λ i. (c.shared_slice_known-1.given i).fits) (omega arith) (rw e at o)))
