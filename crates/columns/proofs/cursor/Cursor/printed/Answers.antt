use borrow.Author.Rules.{rules}
use native.Mathlib.Omega.{arith}
use mathlib.Core.Path.{◌≡◌, sym, ap, ◌∙◌}
use Prim.Native.Nat.{◌+◌, ◌-◌}
use lib.ListN.{length}
use lib.Seq.{slice, length-slice}
use Rattle.columns.specs.Bytes.{skip}
use Rattle.columns.proofs.laws.Bytes.{skip_short}
use Rattle.columns.proofs.laws.Cursor.{as_printed, not_printed}
use Rattle.columns.proofs.cursor.Cursor.printed.Goals as goal

pub returns-then-is_empty : goal.returns-then-is_empty
returns-then-is_empty c =
    let a = c.args in
    let e = c.skip-rest.ensures ∙ ap (skip a.b) c.field-field.ensures in
    λ seen. record { answer = rw c.past.ensures.0 (as_printed seen a.self.at a.b a.width _ (sym (ap length e) ∙ search rules)); next = c.past.ensures.1 }

pub overflow_sub-column : goal.overflow_sub-column
overflow_sub-column c =
    let a = c.args in
    omega (arith, ap length c.skip-rest.ensures, skip_short a.b c.field-field.result.now, ap length c.field-field.ensures, length-slice a.self.at (a.self.at + a.width) a.line.now c.requires.0)

pub returns : goal.returns
returns c =
    let a = c.args in
    let e = c.skip-rest.ensures ∙ ap (skip a.b) c.field-field.ensures in
    let f = slice a.self.at (a.self.at + a.width) a.line.now in
    let l : length f ≡ a.width = omega (arith, length-slice a.self.at (a.self.at + a.width) a.line.now c.requires.0) in
    let z : a.self.at + 1 + (a.width - length c.skip-rest.result.now) ≡ a.self.at + 1 + (length f - length (skip a.b f)) = rw (e, l) in
    let not_empty : length c.skip-rest.result.now ≡ 0 → ⊥ = search rules in
    λ seen. record { answer = rw (c.past-2.ensures.0, c.at.ensures, z) (not_printed seen a.self.at a.b a.width f (λ q. not_empty (ap length e ∙ q))); next = c.past-2.ensures.1 }
