use Rattle.take.proofs.laws.Text.{put_length}
use Rattle.take.specs.Text.{section}
use Rattle.catalogue.proofs.laws.section.Rows.{entries_length}
use native.Mathlib.Omega.{arith}
use mathlib.Core.List.{[], ◌∷◌, append_assoc}
use Rattle.take.proofs.text.put_section.Goals as goal

-- The title, the count, a newline and the entries, one behind the other.
pub returns : goal.returns
unfolding section
returns g c =
    let a = c.args.entries.now in
    let t = c.put_bytes.ensures in
    let n = c.put_number.ensures in
    let l = c.put_byte.ensures in
    let e = c.put_entries.ensures in (
      rw (e.0, l, n.0, t, entries_length a.of a.bytes.now) (simp append_assoc),
      omega (arith, put_length c.args.out.now c.args.title.now t, n.1, put_length c.put_number.new.out (10 ∷ []) l, e.1),
    )
