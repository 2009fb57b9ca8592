-- The check character of an E line. Document 01, "The E line".
use Rattle.std.specs.Prelude.{ℕ, ◌+◌, ◌*◌, ◌/◌, ◌%◌, List, [], ◌∷◌}

-- a 16-bit sum, rotated right by one bit
abbrev pub rotated : ℕ → ℕ
rotated s = s / 2 + s % 2 * 32768

-- for each byte the sum is rotated, then the byte is added modulo 65536
unfoldable pub check_sum : ℕ → List ℕ → ℕ
check_sum s [] = s
check_sum s (b ∷ l) = check_sum ((rotated s + b) % 65536) l

unfoldable pub check_character : List ℕ → ℕ
check_character l = 36 + check_sum 0 l % 91
