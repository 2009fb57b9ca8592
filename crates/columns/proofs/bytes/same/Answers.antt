use borrow.Author.Rules.{rules}
use native.Mathlib.Omega.{arith}
use mathlib.Core.Path.{◌≡◌, refl, sym, ◌∙◌}
use Prim.Native.Nat.{◌-◌, ◌+◌}
use lib.ListN.{length}
use borrow.Author.Tests.{not-true, not-false}
use Rattle.columns.proofs.laws.Bytes.{same_length, parts_more, parts_apart, parts_last}
use Rattle.columns.proofs.bytes.same.Goals as goal

pub returns-then-n-b : goal.returns-then-n-b
returns-then-n-b c =
    let a = c.args in
    sym (same_length a.a.now a.b.now c.if-n-b.true)

pub loop-i-init : goal.loop-i-init
loop-i-init c =
    (search rules, refl)

pub returns-then-not-same_between : goal.returns-then-not-same_between
returns-then-not-same_between c =
    let a = c.args in
    let i = c.loop-i.i in
    sym (parts_apart a.a.now a.b.now i (i + 16 - i) (sym c.same_between.ensures ∙ not-true _ c.if-not-same_between.true-raw))

pub loop-i-preserved : goal.loop-i-preserved
loop-i-preserved c =
    let a = c.args in
    let i = c.loop-i.i in
    let z : i + (i + 16 - i) ≡ i + 16 = omega arith in
    let equal = sym c.same_between.ensures ∙ not-false _ c.if-not-same_between.false-raw in
    (search rules, rw z at (parts_more a.a.now a.b.now i i (i + 16 - i) (omega arith) c.loop-i.invariant.1 equal))

pub returns : goal.returns
returns c =
    let a = c.args in
    let n = length a.a.now in
    c.same_between-2.ensures
    ∙ parts_last a.a.now a.b.now c.loop-i.i (n - 16) (n - (n - 16)) (omega arith) c.loop-i.invariant.1 (omega arith) (omega arith)
