use mathlib.Core.Path.{◌∙◌}
use Rattle.formats.proofs.laws.Check.{character_is}
use Rattle.formats.proofs.laws.Lines.{rest_is}
use Rattle.formats.proofs.check.check_from.Goals as goal

pub returns : goal.returns
returns c =
    let a = c.args in
    let w = c.with_all in
    rw c.modulo_91.ensures (character_is a.s.now w.result (rw rest_is at w.ensures ∙ c.requires.1))
