-- Sections of a room, each after its count. How many there are, how large their entries and how many at most, is data. Document 01,
-- "The catalogue".
use Rattle.std.specs.Prelude.{ℕ, zero, suc, ◌+◌, ◌*◌, ◌/◌, ◌%◌, List, [], ◌∷◌, ◌++◌, length, take, drop, get_or}

-- a count in two bytes, high byte first, and back
unfoldable pub count : ℕ → List ℕ
count n = n / 256 ∷ n % 256 ∷ []

unfoldable pub number : List ℕ → ℕ
number r = get_or r 0 0 * 256 + get_or r 1 0

unfoldable pub flat : List (List ℕ) → List ℕ
flat [] = []
flat (x ∷ xs) = x ++ flat xs

-- n rows of w bytes
unfoldable pub rows : ℕ → ℕ → List ℕ → List (List ℕ)
rows zero w r = []
rows (suc n) w r = take w r ∷ rows n w (drop w r)

-- a section: the bytes of an entry, the most entries, and the entries
pub record Part : Type 0 where
  pub size : ℕ
  pub most : ℕ
  pub entries : List (List ℕ)

abbrev pub part : ℕ → ℕ → List (List ℕ) → Part
part w m xs = record { size = w; most = m; entries = xs }

-- the sections one after the other, each after its count
unfoldable pub laid : List Part → List ℕ
laid [] = []
laid (p ∷ ps) = count (length p.entries) ++ (flat p.entries ++ laid ps)

-- the entries that bytes say for sections like the given ones, in order or not
unfoldable pub said : List Part → List ℕ → List Part
said [] r = []
said (p ∷ ps) r = part p.size p.most (rows (number r) p.size (drop 2 r)) ∷ said ps (drop (2 + p.size * number r) r)

-- the bytes of full sections
unfoldable pub capacity : List Part → ℕ
capacity [] = 0
capacity (p ∷ ps) = 2 + p.size * p.most + capacity ps
