use mathlib.Core.Path.{refl, ◌∙◌, ap}
use lib.ListN.{length}
use Rattle.catalogue.proofs.laws.section.Rows.{entry_part, entry_length}
use Rattle.catalogue.proofs.section.Entries.entry.Goals as goal

pub returns : goal.returns
returns c =
    let e = c.args.self.now in
    let p = entry_part e.of e.bytes.now c.args.i c.requires refl c.entry_at-at.ensures in
    (p, ap length p ∙ entry_length e.of e.bytes.now e.inside c.args.i c.requires)
