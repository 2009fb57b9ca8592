-- A run walked line by line, as a block is: each call is told what the call before it met. Document 02, Wish 5.
use Rattle.std.specs.Prelude.{◌≡◌, ℕ, ◌+◌, ◌-◌, List, [], ◌∷◌, length, take, drop, get_or, eqb, leb, ltb}
use Rattle.columns.specs.Answer.{pick, Answer, ok, refusal, is_ok, wrong_length, number_of}
use Rattle.formats.specs.Lines.{line_end}
use Rattle.formats.specs.BlockReader.{line_of, next_of}
use Rattle.formats.specs.BlockWalk.{no_line, nothing}
use Rattle.formats.specs.declared.lettered.LineKind.{LineKind}
use Rattle.formats.specs.Lettered.{Lettered, kinds_of, named, leading}
use Rattle.formats.specs.declared.block_walk.BlockLine.{BlockLine}

-- the number of the event of a line, after n events: a line that opens one has the next number
abbrev pub event_after : Lettered → ℕ → ℕ → ℕ
event_after L letter n = pick (eqb letter L.opener.letter) (n + 1) n

-- a line told by its first letter: the letter as its kind, and the number of its event; or 1 where it is empty, 3 of another letter
abbrev pub told_as : Lettered → Answer LineKind → ℕ → ℕ → ℕ → BlockLine
told_as L (ok k) n e x = record { kind = k.letter; number = event_after L k.letter n; end = e; next = x }
told_as L (refusal m c) n e x = nothing (number_of m)

-- the line at a place, after n events: none past the end, and none after more events than a number can tell
abbrev pub told_at : Lettered → List ℕ → ℕ → ℕ → BlockLine
told_at L b at n =
    pick (ltb 65534 n) (nothing no_line)
    (pick (leb (length b) at) (nothing no_line) (told_as L (leading (kinds_of L) (line_of b at)) n (line_end b at) (next_of b at)))

-- the first line: 1 in a run over 65,536 bytes
unfoldable pub first_told : Lettered → List ℕ → BlockLine
first_told L b = pick (ltb 65536 (length b)) (nothing (number_of wrong_length)) (told_at L b 0 0)

-- the line after one that was met; none after anything else
unfoldable pub next_told : Lettered → List ℕ → BlockLine → BlockLine
next_told L b x =
    pick (ltb 65536 (length b)) (nothing (number_of wrong_length))
    (pick (is_ok (named (kinds_of L) x.kind)) (told_at L b x.next x.number) (nothing no_line))

-- ---- a whole walk

-- a line that is met: its letter, its event's number, and its bytes
pub record MetLine : Type 0 where
  pub letter : ℕ
  pub event : ℕ
  pub line : List ℕ

-- the lines, in order, after n events
unfoldable pub met_of : Lettered → ℕ → List (List ℕ) → List MetLine
met_of L n [] = []
met_of L n (l ∷ ls) =
    record { letter = get_or l 0 0; event = event_after L (get_or l 0 0) n; line = l } ∷ met_of L (event_after L (get_or l 0 0) n) ls

-- what the calls meet from one that answered x for the line at a place: that line, by its bytes from the place to its end, and then
-- what the call after it answers; until there is no line, at the end of the run
pub data WalkedFrom (L : Lettered) (b : List ℕ) : BlockLine → ℕ → List MetLine → Type 0 where
  ended : {at : ℕ} → at ≡ length b → WalkedFrom L b (nothing no_line) at []
  met : {x : BlockLine} {at : ℕ} {ms : List MetLine} → WalkedFrom L b (next_told L b x) x.next ms → WalkedFrom L b x at (record { letter = x.kind; event = x.number; line = take (x.end - at) (drop at b) } ∷ ms)
