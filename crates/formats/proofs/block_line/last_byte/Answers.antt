use native.Mathlib.Omega.{arith}
use mathlib.Core.Path.{sym, ap, ◌∙◌}
use Prim.Native.Nat.{ℕ}
use lib.ListN.{take}
use Rattle.formats.specs.Block.{last_byte}
use Rattle.formats.proofs.laws.BlockLine.{last_of}
use Rattle.formats.proofs.block_line.last_byte.Goals as goal

pub returns-in-0 : goal.returns-in-0
unfolding last_byte
returns-in-0 c =
    sym (ap last_byte (c.trimmed.ensures.0 ∙ ap (λ (n : ℕ). take n c.args.line.now) c.in-0.is))

pub returns-in_default : goal.returns-in_default
returns-in_default c =
    sym (ap last_byte c.trimmed.ensures.0 ∙ last_of c.args.line.now c.trimmed.result (omega arith) c.trimmed.ensures.1)
