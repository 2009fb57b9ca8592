use mathlib.Core.Path.{sym, ap, ◌∙◌}
use Rattle.std.proofs.lemmas.Result.{err_from_is_err_and}
use Rattle.formats.specs.Cube.{link_parts, read_link, line_read}
use Rattle.formats.proofs.laws.Cube.{text_begun, text_refused}
use Rattle.formats.proofs.laws.LinkLine.{parts_no_blank}
use Rattle.formats.proofs.link.read_link.Goals as goal

pub returns-in_err-judge_text : goal.returns-in_err-judge_text
unfolding read_link
returns-in_err-judge_text c =
    let p = err_from_is_err_and c.from_residual.result c.from_residual.ensures.1 in
    rw (p.1, p.2) (ap line_read (sym (text_refused 20 255 14 link_parts c.args.line.now _ (rw c.in_err-judge_text.was at c.judge_text.ensures))))

pub returns-then-line-ne-BLANK : goal.returns-then-line-ne-BLANK
unfolding read_link
returns-then-line-ne-BLANK c =
    let w = text_begun 20 255 14 link_parts c.args.line.now (rw c.in_ok-judge_text.was at c.judge_text.ensures) in
    rw c.at.ensures (ap line_read (sym (w.1.1 ∙ parts_no_blank _ c.if-line-ne-BLANK.true)))

pub returns : goal.returns
unfolding read_link
returns c =
    let w = text_begun 20 255 14 link_parts c.args.line.now (rw c.in_ok-judge_text.was at c.judge_text.ensures) in
    c.read_parts.ensures ∙ ap line_read (sym w.1.1)
