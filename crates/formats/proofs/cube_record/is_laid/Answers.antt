use mathlib.Core.Path.{ap, ◌∙◌}
use mathlib.Core.List.{List}
use Prim.Native.Nat.{ℕ}
use lib.ListN.{length}
use Rattle.columns.specs.Bytes.{same_bytes}
use Rattle.columns.specs.Table.{placed}
use Rattle.formats.proofs.laws.CubeRecord.{text_filled}
use Rattle.formats.proofs.cube_record.is_laid.Goals as goal

pub returns : goal.returns
returns c =
    let a = c.args in
    c.same.ensures
    ∙ ap (λ (x : List ℕ). same_bytes x a.from.now)
    (c.copy_at-2.ensures ∙ ap (placed (length a.head.now) a.chars.now) c.copy_at.ensures ∙ text_filled a.head.now a.chars.now c.requires)
