-- A run of lines by their first letter, as it is read: whether each line is accepted, and how many lines there are of each kind.
-- Document 01, "The block", its last paragraph; document 02, Wish 5.
use Rattle.std.specs.Prelude.{◌≡◌, ℕ, suc, ◌+◌, ◌*◌, List, [], ◌∷◌, length, get_or, eqb, ltb, Result, Ok, Err}
use Rattle.columns.specs.Answer.{pick, Answer, ok, refusal, wrong_length, too_short}
use Rattle.columns.specs.Column.{Rec}
use Rattle.columns.specs.Table.{over}
use Rattle.formats.specs.Lines.{lines_of}
use Rattle.formats.specs.Record.{words_by}
use Rattle.formats.specs.declared.lettered.LineKind.{LineKind}
use Rattle.formats.specs.Lettered.{at_start, Lettered, kinds_of, leading, read_lettered}
use Rattle.formats.specs.Refused.{refused_at}
use Rattle.formats.specs.declared.LineRefusal.{LineRefusal}

-- ---- the counts, over the lines alone

-- the lines that begin with a letter
unfoldable pub begun : ℕ → List (List ℕ) → ℕ
begun b [] = 0
begun b (l ∷ ls) = pick (eqb (get_or l 0 0) b) 1 0 + begun b ls

-- how many lines there are of each kind
unfoldable pub counts_of : List LineKind → List (List ℕ) → List ℕ
counts_of [] ls = []
counts_of (k ∷ ks) ls = begun k.letter ls ∷ counts_of ks ls

-- how many events: the lines that open one
abbrev pub events_of : Lettered → List (List ℕ) → ℕ
events_of L ls = begun L.opener.letter ls

-- ---- the answer: the number of events, or the refusal of a line

abbrev pub Run : Type 0
Run = Result ℕ LineRefusal

-- line n: its refusal, or what is answered with the lines after it
abbrev pub on_line : ℕ → Answer Rec → Run → Run
on_line n (refusal number column) rest = refused_at number column n
on_line n (ok m) rest = rest

-- the rank of a line that was accepted
abbrev pub rank_of : Answer LineKind → ℕ
rank_of (ok k) = k.rank
rank_of (refusal n c) = 0

-- the lines from line n on, the first after one of rank `before`: the refusal of the first refused, or `x` where there is none
unfoldable pub first_refused : List LineKind → ℕ → ℕ → List (List ℕ) → Run → Run
first_refused ks n before [] x = x
first_refused ks n before (l ∷ ls) x =
    on_line n (read_lettered ks before l) (first_refused ks (suc n) (rank_of (leading ks l)) ls x)

-- the bytes that the counts take
abbrev pub counts_size : Lettered → ℕ
counts_size L = 2 * length (kinds_of L)

-- 11 where the place for the counts is short; 1 at line 0 over 65,536 bytes; the first refused line; else the number of events
unfoldable pub read_run : Lettered → List ℕ → ℕ → Run
read_run L b room =
    pick (ltb room (counts_size L)) (refused_at too_short 0 0)
    (pick (ltb 65536 (length b)) (refused_at wrong_length 0 0)
    (first_refused (kinds_of L) 1 at_start (lines_of b) (Ok (events_of L (lines_of b)))))

-- ---- the lent bytes

-- two bytes for each count, high byte first
abbrev pub count_bytes : List ℕ → List ℕ
count_bytes ns = words_by 2 (λ n. n) ns

-- the counts over the first of them, or nothing changed
abbrev pub counts_after : Lettered → List ℕ → Run → List ℕ → List ℕ
counts_after L b (Ok events) from = over (count_bytes (counts_of (kinds_of L) (lines_of b))) from
counts_after L b (Err e) from = from

pub record RunRead (L : Lettered) (b : List ℕ) (r : Run) (from to : List ℕ) : Type 0 where
  pub answer : r ≡ read_run L b (length from)
  pub bytes : to ≡ counts_after L b (read_run L b (length from)) from
