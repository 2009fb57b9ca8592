use mathlib.Core.Path.{◌≡◌}
use mathlib.Core.List.{[]}
use Prim.Native.Nat.{◌≤◌, ◌*◌}
use lib.ListN.{length, drop}
use Rattle.columns.specs.Table.{columns_of}
use Rattle.columns.proofs.laws.Judge.{Left}
use Rattle.formats.specs.Check.{check_sum}
use Rattle.formats.proofs.judge.judge_sealed.Given as goal

abbrev pub invariant-loop-i : goal.invariant-loop-i
invariant-loop-i l =
    (l.i ≤ length l.rows)
    × (check_sum l.sum (drop (3 * l.i) l.head) ≡ check_sum 0 l.head)
    × Left (columns_of l.rows l.ranges []) l.start l.line (columns_of (drop l.i l.rows) l.ranges []) l.at
