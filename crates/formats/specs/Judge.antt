-- Whether a line is acceptable as an E line or as an LI line: what the line reader answers, with no record. Document 01, "The E
-- line"; document 02, "Take the links".
use Rattle.std.specs.Prelude.{◌≡◌, ℕ, List, [], Bool, true, false, Option, None, Some, drop}
use Rattle.columns.specs.Answer.{Answer, ok, refusal, is_ok}
use Rattle.columns.specs.Column.{Col}
use Rattle.columns.specs.Reading.{read_columns}
use Rattle.formats.specs.Check.{check_sum}
use Rattle.formats.specs.Cube.{Message, event, delete, link, read_line}

abbrev pub is_event_answer : Answer Message → Bool
is_event_answer (ok (event ns t)) = true
is_event_answer (ok (delete names t)) = false
is_event_answer (ok (link names ty ad tx)) = false
is_event_answer (refusal n k) = false

unfoldable pub is_event_line : List ℕ → Bool
is_event_line l = is_event_answer (read_line l)

abbrev pub is_link_answer : Answer Message → Bool
is_link_answer (ok (event ns t)) = false
is_link_answer (ok (delete names t)) = false
is_link_answer (ok (link names ty ad tx)) = true
is_link_answer (refusal n k) = false

unfoldable pub is_link_line : List ℕ → Bool
is_link_line l = is_link_answer (read_line l)

-- what the code finds on its way through the columns after the first `start` bytes of a line: where they are accepted, a sum that the
-- bytes of `head` after its first n bring to the check sum of all of it; else none
abbrev pub Sealing : List Col → ℕ → List ℕ → ℕ → List ℕ → Option ℕ → Type 0
Sealing cs start line n head None = false ≡ is_ok (read_columns cs [] start (drop start line))
Sealing cs start line n head (Some sum) =
    (true ≡ is_ok (read_columns cs [] start (drop start line))) × (check_sum sum (drop n head) ≡ check_sum 0 head)
