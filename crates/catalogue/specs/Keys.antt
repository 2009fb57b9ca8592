-- A key's words as the code has them, and the number that they write.
use Rattle.std.specs.Prelude.{ℕ, ◌+◌, ◌*◌, Bool, List, [], ◌++◌, take, drop, get_or}
use Rattle.columns.specs.Answer.{pick}
use Rattle.catalogue.specs.Line.{type_at, key_of}
use Rattle.catalogue.specs.declared.key.Key.{Key}

abbrev pub two : List ℕ → ℕ → ℕ
two s at = get_or s at 0 * 256 + get_or s (at + 1) 0

unfoldable pub eight : List ℕ → ℕ → ℕ
eight s at = ((two s at * 65536 + two s (at + 2)) * 65536 + two s (at + 4)) * 65536 + two s (at + 6)

-- the key with its source and its identifier at two places; its type, if it has one, stands 13 bytes after the identifier's first
unfoldable pub key_in : Bool → ℕ → ℕ → List ℕ → ℕ
key_in typed source identifier s = key_of (take 2 (drop source s) ++ take 8 (drop identifier s)) (pick typed (type_at (identifier + 13) s) [])

-- its words in a base
abbrev pub in_base : ℕ → Key → ℕ
in_base b k = ((k.source * b + k.identifier) * b + k.high) * b + k.low

unfoldable pub key_number : Key → ℕ
key_number k = in_base 18446744073709551616 k

-- a pair's key has no type
abbrev pub pair_key : ℕ → ℕ → Key
pair_key source identifier = record { source = source; identifier = identifier; high = 0; low = 0 }
