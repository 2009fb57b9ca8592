use Rattle.std.proofs.Common.{◌≡◌, ◌^◌, ◌<◌, drop}
use Rattle.columns.specs.Word.{word_of}
use Rattle.columns.proofs.word.read_word.Given as goal

abbrev pub invariant-loop-b : goal.invariant-loop-b
invariant-loop-b l =
    (l.n < 256 ^ l.b-index) × (word_of 0 l.s ≡ word_of l.n (drop l.b-index l.s))
