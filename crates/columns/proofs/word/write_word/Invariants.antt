use Rattle.std.proofs.Common.{◌≡◌, ◌++◌, length, drop}
use Rattle.columns.specs.Word.{word_bytes}
use Rattle.columns.proofs.word.write_word.Given as goal

abbrev pub invariant-loop-i : goal.invariant-loop-i
invariant-loop-i l = word_bytes (length l.initial.out) l.n ≡ word_bytes l.i l.m ++ drop l.i l.out
