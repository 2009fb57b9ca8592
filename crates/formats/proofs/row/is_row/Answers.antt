use native.Mathlib.Omega.{arith}
use mathlib.Core.Path.{◌≡◌, ap, ◌∙◌}
use mathlib.Core.List.{List}
use Prim.Native.Nat.{ℕ, ◌-◌}
use lib.ListN.{length, replicate, take, drop}
use Rattle.columns.specs.Bytes.{same_bytes}
use Rattle.formats.specs.Record.{packed}
use Rattle.formats.proofs.laws.Record.{packed_length}
use Rattle.formats.proofs.laws.RowRecord.{over_part}
use Rattle.formats.proofs.row.is_row.Goals as goal

pub returns : goal.returns
returns c =
    let a = c.args in
    let p = c.requires in
    let f = c.format_of-f in
    let n : length (packed f.result.kind a.flags.now a.values.now a.text.now) ≡ length a.from.now = packed_length f.result.kind a.flags.now a.values.now a.text.now ∙ omega (arith, p.0, p.1.0, p.1.1.0, p.1.1.1) in
    rw (← f.ensures.name) (c.same.ensures ∙ ap (λ (x : List ℕ). same_bytes x a.from.now) (ap (λ (x : List ℕ). take (length a.from.now - 0) (drop 0 x)) c.pack.ensures ∙ over_part (packed f.result.kind a.flags.now a.values.now a.text.now) (replicate 512 0) (length a.from.now) n))
