-- What the catalogue reads of a line: its kind, its pair or triple and its version. Document 01, "The catalogue"; document 02, "Take the
-- links".
use Rattle.std.specs.Prelude.{ℕ, ◌+◌, ◌*◌, ◌-◌, ◌≡◌, List, [], ◌∷◌, ◌++◌, eqb, length, take, drop, get_or, replicate}
use Rattle.columns.specs.Answer.{pick, Answer, ok, refusal, refusal_at, wrong_length}
use Rattle.formats.specs.Cube.{Message, read_line}
use Rattle.formats.specs.Link.{word}
use Rattle.columns.specs.Word.{word_of}
use Rattle.columns.specs.declared.Refusal.{Refusal}
use Rattle.formats.specs.Cube as cube

-- acceptable as an E line, as a DE line with a version, as a DE line with a blank version, as an LI line; refused
pub data Kind : Type 0 where
  event delete blank link refused : Kind

abbrev pub kind_of : Answer Message → Kind
kind_of (ok (cube.event ns t)) = event
kind_of (ok (cube.delete names t)) = pick (eqb (get_or names 10 0) 32) blank delete
kind_of (ok (cube.link names ty ad tx)) = link
kind_of (refusal n k) = refused

unfoldable pub kind : List ℕ → Kind
kind l = kind_of (read_line l)

-- document 01's word: the line meets every rule for an E, a DE or an LI line
abbrev pub Acceptable : List ℕ → Type 0
Acceptable l = kind l ≡ refused → ⊥

-- the refusal of a refused line; a line that is read has none, and its length's stands here
abbrev pub refusal_in : Answer Message → Refusal
refusal_in (ok m) = refusal_at wrong_length 0
refusal_in (refusal n k) = refusal_at n k

-- a line's pair is its source (columns 11 and 12) with its identifier (columns 3 to 10)
unfoldable pub pair : List ℕ → List ℕ
pair l = take 2 (drop 10 l) ++ take 8 (drop 2 l)

-- versions compare by byte code
unfoldable pub version : List ℕ → ℕ
version l = get_or l 12 0

-- a link's type: of the 16 bytes from a place on those before the first blank
unfoldable pub type_at : ℕ → List ℕ → List ℕ
type_at at l = word (take 16 (drop at l))

-- entries ascend by source, identifier and, in links, type, by byte code: by the number that these bytes write in base 256, high byte
-- first. A type is filled with zeros to 16 bytes, so a shorter one stands before one that it begins.
unfoldable pub filled : List ℕ → List ℕ
filled t = t ++ replicate (16 - length t) 0

unfoldable pub key_of : List ℕ → List ℕ → ℕ
key_of p t = word_of 0 (p ++ filled t)

unfoldable pub key : List ℕ → ℕ
key l = key_of (pair l) []

-- ---- deletions

-- a deletion's 11 bytes: the pair of a line, and a version
unfoldable pub deletion : List ℕ → ℕ → List ℕ
deletion l v = pair l ++ (v ∷ [])

unfoldable pub deletion_key : List ℕ → ℕ
deletion_key d = key_of (take 10 d) []

unfoldable pub deletion_version : List ℕ → ℕ
deletion_version d = get_or d 10 0

-- ---- links

-- a link's type, from column 16 on; its triple is its source, identifier and type
unfoldable pub link_type : List ℕ → List ℕ
link_type l = type_at 15 l

unfoldable pub triple : List ℕ → List ℕ
triple l = pair l ++ link_type l

unfoldable pub triple_key : List ℕ → ℕ
triple_key l = key_of (pair l) (link_type l)

-- its version is two bytes, columns 13 and 14
unfoldable pub wide_version : List ℕ → ℕ
wide_version l = get_or l 12 0 * 256 + get_or l 13 0

-- a link's 256 bytes: the length of the line, the line, zeros
unfoldable pub link_entry : List ℕ → List ℕ
link_entry l = length l ∷ (l ++ replicate (255 - length l) 0)

unfoldable pub link_line : List ℕ → List ℕ
link_line e = take (get_or e 0 0) (drop 1 e)

unfoldable pub link_key : List ℕ → ℕ
link_key e = triple_key (drop 1 e)

unfoldable pub link_version : List ℕ → ℕ
link_version e = wide_version (drop 1 e)

-- ---- by kind

abbrev pub key_by : Kind → List ℕ → ℕ
key_by event = key
key_by delete = key
key_by blank = key
key_by link = triple_key
key_by refused = key

abbrev pub version_by : Kind → List ℕ → ℕ
version_by event = version
version_by delete = version
version_by blank = version
version_by link = wide_version
version_by refused = version
