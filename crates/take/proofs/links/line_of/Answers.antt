use native.Mathlib.Omega.{arith}
use mathlib.Core.Path.{refl}
use Rattle.catalogue.proofs.laws.step.Link.{line_cut}
use Rattle.take.proofs.laws.Links.{line_size}
use Rattle.take.proofs.links.line_of.Goals as goal

pub returns : goal.returns
returns c =
    let e = c.args.entry.now in
    let b = c.type_inv.entry 0 in
    (line_cut e refl, omega (arith, line_size e refl c.requires (omega (arith, b)), b))
