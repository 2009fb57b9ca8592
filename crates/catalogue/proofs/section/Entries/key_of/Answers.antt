use native.Mathlib.Omega.{arith}
use Rattle.catalogue.specs.Entries.{key_of_entry}
use Rattle.catalogue.proofs.section.Entries.key_of.Goals as goal

pub key_at-requires : goal.key_at-requires
key_at-requires c =
    let i = c.args.self.now.inside in
    (omega (arith, i.source, c.entry.ensures.1), omega (arith, i.identifier, c.entry.ensures.1), λ t. omega (arith, i.type t, c.entry.ensures.1))

pub returns : goal.returns
unfolding key_of_entry
returns c =
    rw c.entry.ensures.0 at c.key_at.ensures
