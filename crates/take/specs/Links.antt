-- The links that the program prints. Document 02, "Take the links": the count of the links whose text is neither `delete` nor
-- `delete:`, and their lines.
use Rattle.std.specs.Prelude.{ℕ, List, [], ◌∷◌}
use Rattle.columns.specs.Answer.{pick}
use Rattle.formats.specs.Link.{text_of, says_delete}
use Rattle.catalogue.specs.Line.{link_line}

-- the lines of the entries that no text takes back
unfoldable pub shown : List (List ℕ) → List (List ℕ)
shown [] = []
shown (e ∷ es) = pick (says_delete (text_of (link_line e))) (shown es) (link_line e ∷ shown es)
