-- A gap opened in a buffer, and bytes put into it; bytes taken out; a count stored: what the code does to the bytes of a room.
use Rattle.std.specs.Prelude.{ℕ, ◌+◌, ◌-◌, ◌/◌, ◌%◌, List, ◌++◌, length, take, drop, set, replicate}
use Rattle.std.proofs.Math.Seq.{paste}

-- r with its bytes from i up to used moved up by w
unfoldable pub opened : List ℕ → ℕ → ℕ → ℕ → ℕ → List ℕ
opened r at used w i = take (i + w) r ++ (take (used - i) (drop i r) ++ drop (used + w) r)

-- the bytes s put in at a place, what was there and after it up to used moved up
unfoldable pub spliced : List ℕ → ℕ → ℕ → List ℕ → List ℕ
spliced r at used s = take at r ++ (s ++ (take (used - at) (drop at r) ++ drop (used + length s) r))

abbrev pub zeros : ℕ → List ℕ
zeros n = replicate n 0

-- w bytes taken out at a place, those after them up to used moved down, and zeros put after those
unfoldable pub cut_out : List ℕ → ℕ → ℕ → ℕ → List ℕ
cut_out r at used w = paste (paste r at (drop (at + w) r) (used - w - at)) (used - w) (zeros w) w

-- a number stored in two bytes, high byte first
unfoldable pub counted : List ℕ → ℕ → ℕ → List ℕ
counted r at n = set (set r at (n / 256)) (at + 1) (n % 256)
