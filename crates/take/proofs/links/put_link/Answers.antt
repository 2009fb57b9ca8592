use native.Mathlib.Omega.{arith}
use mathlib.Core.List.{[], ◌∷◌}
use Rattle.take.proofs.laws.Text.{put_length}
use Rattle.take.proofs.laws.Links.{line_says, link_shown, link_put}
use Rattle.take.proofs.links.put_link.Goals as goal

pub returns-then-not-is_delete : goal.returns-then-not-is_delete
returns-then-not-is_delete g c =
    let a = c.args in
    let l = c.line_of-line in
    let p = c.put_bytes in
    let q = c.put_byte in (
      link_put a.entry.now a.out.now l.ensures.0 (line_says a.entry.now l.ensures.0 c.is_delete.ensures c.if-not-is_delete.true) p.ensures q.ensures,
      omega (arith, put_length a.out.now l.result.now p.ensures, put_length p.new.self (10 ∷ []) q.ensures, l.ensures.1),
    )

pub returns-else-not-is_delete : goal.returns-else-not-is_delete
returns-else-not-is_delete g c =
    let a = c.args in
    (link_shown a.out.now a.entry.now (line_says a.entry.now c.line_of-line.ensures.0 c.is_delete.ensures c.if-not-is_delete.false), omega arith)
