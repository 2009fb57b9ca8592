use mathlib.Core.Path.{◌≡◌}
use mathlib.Core.List.{◌∷◌}
use Prim.Native.Nat.{ℕ, ◌+◌, ◌<◌}
use lib.ListN.{length, get_or, take}
use Rattle.columns.specs.Table.{over}
use Rattle.formats.specs.Record.{words_by}
use Rattle.formats.specs.RunSteps.{no_kind}
use Rattle.formats.specs.declared.lettered.LineKind.{LineKind}
use Rattle.formats.proofs.run.put_counts.Given as goal

abbrev pub invariant-loop-i : goal.invariant-loop-i
invariant-loop-i l =
    (length l.out ≡ length l.fn.out) × (l.out ≡ over (words_by 2 (λ (k : LineKind). get_or l.tally k.letter 0) (take (l.i + 1) (l.kinds.opener ∷ l.kinds.others.now))) l.fn.out) × ((k : ℕ) → k < l.i → (get_or l.kinds.others.now k no_kind).letter < 256)
