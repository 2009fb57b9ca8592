use native.Mathlib.Omega.{arith}
use mathlib.Core.Path.{refl, sym, ◌∙◌}
use Rattle.catalogue.proofs.laws.room.Weight.{link_judged, link_misread}
use Rattle.catalogue.proofs.order.link_allowed.Goals as goal

-- The line that the first byte says is judged, and the bytes after it are zero.
pub returns-then-is_link : goal.returns-then-is_link
returns-then-is_link c =
    link_judged c.args.entry.now c.requires (omega (arith, c.type_inv.entry 0)) refl c.zeros.ensures (sym c.is_link.ensures ∙ c.if-is_link.true)

pub returns-else-is_link : goal.returns-else-is_link
returns-else-is_link c =
    c.if-is_link.false ∙ link_misread c.args.entry.now c.requires (omega (arith, c.type_inv.entry 0)) refl (sym c.is_link.ensures ∙ c.if-is_link.false)
