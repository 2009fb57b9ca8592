-- A number in bytes, high byte first: the numbers of a record (docs/RECORDS.md), and the keys of a room's entries (document 01, "The
-- catalogue").
use Rattle.std.specs.Prelude.{ℕ, zero, suc, ◌+◌, ◌*◌, ◌/◌, ◌%◌, List, [], ◌∷◌, ◌++◌}

-- the last w bytes of n
unfoldable pub word_bytes : ℕ → ℕ → List ℕ
word_bytes zero n = []
word_bytes (suc w) n = word_bytes w (n / 256) ++ (n % 256) ∷ []

-- n followed by the bytes of s
unfoldable pub word_of : ℕ → List ℕ → ℕ
word_of n [] = n
word_of n (b ∷ s) = word_of (n * 256 + b) s
