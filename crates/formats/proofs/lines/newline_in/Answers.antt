use borrow.Author.Rules.{rules}
use native.Mathlib.Omega.{arith}
use mathlib.Core.Path.{◌≡◌, sym, ap, ◌∙◌}
use Prim.Native.Nat.{◌-◌, ◌+◌}
use Rattle.formats.proofs.laws.Lines.{end_stop, end_other, end_last}
use Rattle.formats.specs.Lines.{line_end}
use Rattle.formats.proofs.lines.newline_in.Goals as goal

pub loop-i-init : goal.loop-i-init
loop-i-init c =
    (search rules, sym (end_last 10 c.args.c.now 16 (search rules)))

pub loop-i-preserved-then-c-i-eq-NEWLINE : goal.loop-i-preserved-then-c-i-eq-NEWLINE
loop-i-preserved-then-c-i-eq-NEWLINE c =
    (search rules, sym (end_stop 10 c.args.c.now (c.loop-i.i - 1) (search rules) c.if-c-i-eq-NEWLINE.true))

pub loop-i-preserved : goal.loop-i-preserved
loop-i-preserved c =
    let s = c.args.c.now in
    let z : c.loop-i.i - 1 + 1 ≡ c.loop-i.i = omega arith in
    (search rules, c.loop-i.invariant.1 ∙ sym (end_other 10 s (c.loop-i.i - 1) (search rules) c.if-c-i-eq-NEWLINE.false ∙ ap (line_end s) z))

pub returns : goal.returns
returns c =
    let z : c.loop-i.i ≡ 0 = omega arith in
    c.loop-i.invariant.1 ∙ rw z
