-- Bytes put into a gap.
use Prim.Native.Nat.{ℕ, ◌+◌, ◌-◌, ◌≤◌}
use mathlib.Core.Path.{◌≡◌, ◌∙◌}
use mathlib.Core.List.{List, ◌++◌, append_assoc}
use native.Mathlib.Omega.{arith}
use lib.ListN.{length, take, drop}
use lib.Seq.{paste, take-append-le, take-take, take-length, drop_at, length-take-le}
use Rattle.catalogue.specs.Splice.{opened, spliced}

-- a gap, filled
pub filled : (r s : List ℕ) (at used : ℕ) → at ≤ used → used + length s ≤ length r → paste (opened r at used (length s) at) at s (length s) ≡ spliced r at used s
unfolding opened spliced
filled r s at used h k =
    let T : List ℕ = take (used - at) (drop at r) ++ drop (used + length s) r in
    let n : length (take (at + length s) r) ≡ at + length s = length-take-le (at + length s) r (omega arith) in
    let e1 : take at (take (at + length s) r ++ T) ≡ take at r = take-append-le at (take (at + length s) r) T (omega arith) ∙ take-take at (at + length s) r (omega arith) in
    let e2 : drop (at + length s) (take (at + length s) r ++ T) ≡ T = drop_at (take (at + length s) r) T (at + length s) n in
    rw (e1, e2, take-length s) (append_assoc (take at r) s T)
