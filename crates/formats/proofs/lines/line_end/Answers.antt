use borrow.Author.Rules.{rules}
use native.Mathlib.Omega.{arith}
use mathlib.Core.Path.{◌≡◌, sym, ap, ◌∙◌}
use Prim.Native.Nat.{ℕ, ◌<◌, ◌-◌, ◌+◌}
use Rattle.formats.specs.Lines.{line_end}
use Rattle.formats.proofs.laws.Lines.{line_end_to, part_in, part_past}
use Rattle.formats.proofs.lines.line_end.Goals as goal

pub overflow_add-result : goal.overflow_add-result
overflow_add-result c =
    let short = c.no_newline.ensures.1 c.if-not-no_newline.true in
    let small : c.newline_in.result < 16 = rw c.newline_in.ensures short in
    search rules

pub returns-then-not-no_newline : goal.returns-then-not-no_newline
returns-then-not-no_newline c =
    let short = c.no_newline.ensures.1 c.if-not-no_newline.true in
    let small : c.newline_in.result < 16 = rw c.newline_in.ensures short in
    let i = c.loop-i.i in
    let found = part_in c.args.s.now i (i + 16 - i) (omega arith) (omega (arith, short)) in
    (sym (c.loop-i.invariant.2 ∙ found ∙ ap (λ (m : ℕ). i + m) (sym c.newline_in.ensures)), search rules, search rules)

pub loop-i-preserved : goal.loop-i-preserved
loop-i-preserved c =
    let i = c.loop-i.i in
    let whole = c.no_newline.ensures.0 c.if-not-no_newline.false in
    let s = c.args.s.now in
    let z : i + (i + 16 - i) ≡ i + 16 = omega arith in
    (search rules, search rules, c.loop-i.invariant.2 ∙ part_past s i (i + 16 - i) (omega arith) (omega (arith, whole)) ∙ ap (line_end s) z)

pub returns : goal.returns
returns c =
    let l = c.loop-i in
    let s = c.args.s.now in
    (c.scan_end.ensures.0 ∙ sym l.invariant.2, search rules, omega (arith, c.scan_end.ensures.0, line_end_to s l.i l.invariant.1))
