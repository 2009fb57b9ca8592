-- The parts of an LI line. Document 02, "Take the links": type, address and text, parted by one blank each; the text is the
-- rest of the line.
use Rattle.std.specs.Prelude.{ℕ, ◌+◌, List, [], ◌∷◌, Bool, true, false, not, ◌&&◌, length, drop, eqb, leb}
use Rattle.columns.specs.Answer.{pick}
use Rattle.columns.specs.Bytes.{same_bytes}
use Rattle.formats.specs.Lines.{up_to}

-- the bytes before the first blank, all where there is none
abbrev pub word : List ℕ → List ℕ
word l = up_to 32 l

-- no blanks
unfoldable pub solid : List ℕ → Bool
solid [] = true
solid (b ∷ l) = pick (eqb b 32) false (solid l)

-- the type stands from column 16 on
unfoldable pub type_of : List ℕ → List ℕ
type_of l = word (drop 15 l)

-- the address after the type and a blank
unfoldable pub address_of : List ℕ → List ℕ
address_of l = word (drop (16 + length (type_of l)) l)

-- the text after the address and a blank
unfoldable pub text_of : List ℕ → List ℕ
text_of l = drop (17 + length (type_of l) + length (address_of l)) l

-- at least one byte, and no blanks
unfoldable pub is_whole_word : List ℕ → Bool
is_whole_word s = leb 1 (length s) && solid s

-- at least one byte, and the first is no blank
unfoldable pub begun : List ℕ → Bool
begun [] = false
begun (b ∷ l) = not (eqb b 32)

-- a type of 1 to 16 bytes, an address and a text of at least one each; the text alone has blanks, though not first
unfoldable pub formed : List ℕ → List ℕ → List ℕ → Bool
formed ty ad tx = leb (length ty) 16 && (is_whole_word ty && (is_whole_word ad && begun tx))

-- a text that takes the link back: `delete` or `delete:`
unfoldable pub says_delete : List ℕ → Bool
says_delete tx =
    pick (same_bytes tx (100 ∷ 101 ∷ 108 ∷ 101 ∷ 116 ∷ 101 ∷ [])) true (same_bytes tx (100 ∷ 101 ∷ 108 ∷ 101 ∷ 116 ∷ 101 ∷ 58 ∷ []))
