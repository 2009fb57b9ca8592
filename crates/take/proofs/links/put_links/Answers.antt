use native.Mathlib.Omega.{arith}
use mathlib.Core.List.{[], ◌∷◌, append_assoc}
use Rattle.take.specs.Text.{section, links_title}
use Rattle.take.proofs.laws.Text.{put_length}
use Rattle.take.proofs.links.put_links.Goals as goal

-- The title, how many are printed, a newline and their lines, one behind the other.
pub returns : goal.returns
unfolding section
returns g c =
    let t = c.put_bytes.ensures in
    let n = c.put_number.ensures in
    let l = c.put_byte.ensures in
    let e = c.put_shown.ensures in (
      rw (e.0, l, n.0, t, c.count_shown.ensures.0) (simp append_assoc),
      omega (arith, put_length c.args.out.now links_title t, n.1, put_length c.put_number.new.out (10 ∷ []) l, e.1),
    )
