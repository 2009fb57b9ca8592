use Rattle.columns.proofs.laws.Places.{chars_placed}
use Rattle.formats.proofs.laws.Record.{bytes_length}
use Rattle.formats.specs.Record.{value_bytes}
use Prim.Native.Nat.{◌+◌, ◌*◌}
use lib.ListN.{length}
use native.Mathlib.Omega.{arith}
use Rattle.formats.proofs.record.values_at.Goals as goal

pub returns : goal.returns
returns c =
    let a = c.args in
    chars_placed a.at (a.at + 8 * length a.values.now) (value_bytes a.values.now) a.out.now _ (omega (arith, bytes_length a.values.now)) c.requires c.put_values.ensures
