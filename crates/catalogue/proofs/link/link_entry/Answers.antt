use mathlib.Core.Path.{◌∙◌}
use Rattle.catalogue.proofs.laws.room.Linked.{entry_made}
use Rattle.catalogue.proofs.link.link_entry.Goals as goal

-- The line is copied behind its length, into zeros.
pub returns : goal.returns
returns c =
    c.copy_in.ensures ∙ entry_made c.args.line.now c.requires
