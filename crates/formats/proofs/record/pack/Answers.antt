use Rattle.formats.specs.Record.{value_bytes}
use Rattle.formats.proofs.laws.Record.{packed_parts}
use Rattle.columns.specs.Table.{placed}
use Prim.Native.Nat.{◌+◌, ◌*◌}
use lib.ListN.{length}
use mathlib.Core.Path.{ap, ◌∙◌}
use Rattle.formats.proofs.record.pack.Goals as goal

pub returns : goal.returns
returns c =
    let a = c.args in
    c.copy_at-2.ensures
    ∙ ap (placed (1 + length a.flags.now + 8 * length a.values.now) a.text.now) (c.values_at.ensures ∙ ap (placed (1 + length a.flags.now) (value_bytes a.values.now)) c.copy_at.ensures)
    ∙ packed_parts a.kind a.flags.now a.values.now a.text.now a.out.now c.requires
