use Rattle.take.proofs.laws.Text.{put_length}
use Rattle.take.specs.Text.{printed_line}
use native.Mathlib.Omega.{arith}
use mathlib.Core.List.{[], ◌∷◌, append_assoc}
use Rattle.take.proofs.text.put_answer.Goals as goal

pub returns : goal.returns
unfolding printed_line
returns g c =
    let a = c.put_number in
    let b = c.put_number-2 in
    let d = c.put_number-3 in (
      rw (c.put_byte-3.ensures, d.ensures.0, c.put_byte-2.ensures, b.ensures.0, c.put_byte.ensures, a.ensures.0, c.from.ensures) (simp append_assoc),
      omega (
        arith,
        a.ensures.1,
        put_length a.new.out (32 ∷ []) c.put_byte.ensures,
        b.ensures.1,
        put_length b.new.out (32 ∷ []) c.put_byte-2.ensures,
        d.ensures.1,
        put_length d.new.out (10 ∷ []) c.put_byte-3.ensures,
      ),
    )
