use borrow.Author.Rules.{rules}
use native.Mathlib.Omega.{arith}
use mathlib.Core.Path.{◌≡◌, refl, ap, ◌∙◌}
use Prim.Native.Nat.{◌+◌, ◌-◌}
use lib.ListN.{length, take, drop}
use borrow.Author.Count.{below_none}
use Rattle.columns.specs.Bytes.{barred, found}
use Rattle.columns.proofs.laws.Bytes.{part_last, part_found, part_free, found_there, found_none}
use Rattle.columns.proofs.bytes.first_barred.Goals as goal

pub returns-then-n-lt16 : goal.returns-then-n-lt16
returns-then-n-lt16 c =
    let a = c.args in
    c.barred_between.ensures ∙ ap found (part_last a.from a.to a.column a.s.now 0 (omega arith) (below_none _))

pub loop-i-init : goal.loop-i-init
loop-i-init c = (search rules, below_none _)

pub returns-then-is_some : goal.returns-then-is_some
returns-then-is_some c =
    let a = c.args in
    let i = c.loop-i.i in
    let n = barred a.from a.to (a.column + i) (take (i + 16 - i) (drop i a.s.now)) in
    let e : c.barred_between-found.result ≡ found n = c.barred_between-found.ensures in
    e ∙ ap found (part_found a.from a.to a.column a.s.now i i (i + 16 - i) (omega arith) (omega arith) c.loop-i.invariant.1 n refl (found_there n (rw (c.is_some.ensures, e) at c.if-is_some.true)))

pub loop-i-preserved : goal.loop-i-preserved
loop-i-preserved c =
    let a = c.args in
    let i = c.loop-i.i in
    let n = barred a.from a.to (a.column + i) (take (i + 16 - i) (drop i a.s.now)) in
    let e : c.barred_between-found.result ≡ found n = c.barred_between-found.ensures in
    let more = part_free a.from a.to a.column a.s.now i i (i + 16 - i) (omega arith) (omega arith) c.loop-i.invariant.1 c.requires.0 (omega arith) (found_none n (rw (c.is_some.ensures, e) at c.if-is_some.false)) in
    (search rules, λ j h. more j (omega arith))

pub returns : goal.returns
returns c =
    let a = c.args in
    c.barred_between-2.ensures
    ∙ ap found (part_last a.from a.to a.column a.s.now (length a.s.now - 16) (omega arith) (λ j h. c.loop-i.invariant.1 j (omega arith)))
