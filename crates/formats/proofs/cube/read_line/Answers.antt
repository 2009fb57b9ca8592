use mathlib.Core.Path.{refl, sym, ◌∙◌}
use borrow.Author.Tests.{le-ltb, lt-ltb}
use Rattle.formats.specs.Cube.{read_line}
use Rattle.formats.proofs.laws.Cube.{untouched, no_part}
use Rattle.formats.proofs.cube.read_line.Goals as goal

pub returns-then-line-lt2 : goal.returns-then-line-lt2
unfolding read_line
returns-then-line-lt2 c =
    rw (c.at.ensures, lt-ltb _ 2 c.if-line-lt2.true, no_part _ c.if-line-lt2.true) (untouched _ _ refl _ _ _)

pub returns-then-is_type : goal.returns-then-is_type
unfolding read_line
returns-then-is_type c =
    rw (le-ltb _ 2 c.if-line-lt2.false, sym c.is_type.ensures ∙ c.if-is_type.true) c.read_event.ensures

pub returns-then-is_type-2 : goal.returns-then-is_type-2
unfolding read_line
returns-then-is_type-2 c =
    rw (le-ltb _ 2 c.if-line-lt2.false, sym c.is_type.ensures ∙ c.if-is_type.false, sym c.is_type-else-is_type.ensures ∙ c.if-is_type-2.true) (untouched _ _ c.read_delete.ensures _ _ _)

pub returns-then-is_type-3 : goal.returns-then-is_type-3
unfolding read_line
returns-then-is_type-3 c =
    rw (le-ltb _ 2 c.if-line-lt2.false, sym c.is_type.ensures ∙ c.if-is_type.false, sym c.is_type-else-is_type.ensures ∙ c.if-is_type-2.false, sym c.is_type-else-is_type-2.ensures ∙ c.if-is_type-3.true) (untouched _ _ c.read_link.ensures _ _ _)

pub returns-else-is_type-3 : goal.returns-else-is_type-3
unfolding read_line
returns-else-is_type-3 c =
    rw (c.at-else-is_type-3.ensures, le-ltb _ 2 c.if-line-lt2.false, sym c.is_type.ensures ∙ c.if-is_type.false, sym c.is_type-else-is_type.ensures ∙ c.if-is_type-2.false, sym c.is_type-else-is_type-2.ensures ∙ c.if-is_type-3.false) (untouched _ _ refl _ _ _)
