use mathlib.Core.Path.{sym, ap, ◌∙◌}
use Rattle.columns.specs.Number.{value}
use Rattle.columns.proofs.laws.Number.{scan_below, int_is}
use Rattle.columns.proofs.number.read_any_int.Goals as goal

pub field_of-requires : goal.field_of-requires
field_of-requires c = rw c.scan_whole.ensures (scan_below _ 18 c.requires)

pub returns : goal.returns
returns c = c.field_of.ensures ∙ ap value c.scan_whole.ensures ∙ sym (int_is _)
