use mathlib.Core.Path.{refl, sym, ap, ◌∙◌}
use Rattle.formats.specs.Cube.{line_read}
use Rattle.formats.proofs.laws.LinkLine.{parts_no_text, parts_malformed, parts_formed, parts_read}
use Rattle.formats.proofs.laws.Link.{type_part, address_part, text_part}
use Rattle.formats.proofs.link.read_parts.Goals as goal

pub returns-in_default : goal.returns-in_default
returns-in_default c =
    rw c.at.ensures (ap line_read (sym (parts_no_text _ _ refl _ refl c.in_default.ensures.places)))

pub returns-then-not-is_formed : goal.returns-then-not-is_formed
returns-then-not-is_formed c =
    let p = c.in-Some.ensures.places in
    rw c.at-then-not-is_formed.ensures (ap line_read (sym (parts_malformed _ (parts_formed _ _ p.0 _ p.1 c.is_formed.ensures ∙ c.if-not-is_formed.true))))

pub returns : goal.returns
returns c =
    let l = c.args.line.now in
    let p = c.in-Some.ensures.places in
    rw (type_part l _ p.0, address_part l _ p.0 _ p.1, text_part l _ p.0 _ p.1) (ap line_read (sym (parts_read _ c.requires.1.1 (parts_formed _ _ p.0 _ p.1 c.is_formed.ensures ∙ c.if-not-is_formed.false))))
