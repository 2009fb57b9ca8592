use Rattle.formats.proofs.laws.LinkLine.{link_laid}
use Rattle.formats.proofs.link.link_line.Goals as goal

pub returns : goal.returns
returns c =
    let a = c.args in
    link_laid a.names.now a.kind.now a.address.now a.text.now c.requires.0 c.requires.1 c.copy_at.ensures c.copy_at-2.ensures c.copy_at-3.ensures c.copy_at-4.ensures
