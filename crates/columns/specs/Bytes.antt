-- The bytes of a line. Document 01, "Numbers in columns": text bytes are codes 32 to 126, any other byte is barred.
use Rattle.std.specs.Prelude.{◌≡◌, ℕ, ◌+◌, ◌<◌, List, [], ◌∷◌, Bool, true, false, ◌&&◌, leb, eqb, get_or, Option, Some, None}
use Rattle.columns.specs.Answer.{pick}

abbrev pub is_text : ℕ → Bool
is_text b = leb 32 b && leb b 126

-- text throughout, a helping definition: computed for words that are written out
abbrev pub all_text : List ℕ → Bool
all_text [] = true
all_text (b ∷ s) = is_text b && all_text s

abbrev pub is_digit : ℕ → Bool
is_digit b = leb 48 b && leb b 57

abbrev pub is_bracket : ℕ → Bool
is_bracket b = pick (eqb b 91) true (eqb b 93)

abbrev pub is_none : List ℕ → Bool
is_none [] = true
is_none (b ∷ s) = false

-- the bytes after the leading ones of a code
unfoldable pub skip : ℕ → List ℕ → List ℕ
skip x [] = []
skip x (b ∷ s) = pick (eqb b x) (skip x s) (b ∷ s)

-- the bytes after the leading blanks
abbrev pub trim : List ℕ → List ℕ
trim f = skip 32 f

-- nothing but blanks
abbrev pub all_blank : List ℕ → Bool
all_blank f = is_none (trim f)

-- a byte that may stand in a column; where brackets are barred, no bracket
abbrev pub is_allowed : Bool → ℕ → Bool
is_allowed bars b = is_text b && pick bars (pick (is_bracket b) false true) true

abbrev pub inside : ℕ → ℕ → ℕ → Bool
inside from to column = leb from column && leb column to

-- each of the first n bytes may stand in any column
abbrev pub Plain : ℕ → List ℕ → Type 0
Plain n s = (j : ℕ) → j < n → is_allowed true (get_or s j 0) ≡ true

-- the lowest column with a barred byte, brackets barred in the columns `from` to `to`; 0 where there is none
-- the bytes are those from the given column on
unfoldable pub barred : ℕ → ℕ → ℕ → List ℕ → ℕ
barred from to column [] = 0
barred from to column (b ∷ s) =
    pick (is_allowed (inside from to column) b) (barred from to (column + 1) s) column

-- the column, where there is one
abbrev pub found : ℕ → Option ℕ
found k = pick (eqb k 0) None (Some k)

-- none of the first n bytes is barred
abbrev pub Free : ℕ → ℕ → ℕ → ℕ → List ℕ → Type 0
Free from to column n s = (j : ℕ) → j < n → is_allowed (inside from to (column + j)) (get_or s j 0) ≡ true

-- a letter of a set
unfoldable pub member : ℕ → List ℕ → Bool
member b [] = false
member b (x ∷ s) = pick (eqb b x) true (member b s)

-- equal byte for byte
unfoldable pub same_bytes : List ℕ → List ℕ → Bool
same_bytes [] [] = true
same_bytes [] (b ∷ t) = false
same_bytes (a ∷ s) [] = false
same_bytes (a ∷ s) (b ∷ t) = pick (eqb a b) (same_bytes s t) false
