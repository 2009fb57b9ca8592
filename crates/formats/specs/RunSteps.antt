-- What the code comes to at one line of a run. Helping definitions; what is answered for the run stands in Run.
use Rattle.std.specs.Prelude.{◌≡◌, ℕ, ◌<◌, List, length, get_or, Result, Ok, Err}
use Rattle.columns.specs.Answer.{Answer, ok, refusal, refusal_at}
use Rattle.columns.specs.Column.{Rec}
use Rattle.formats.specs.Lettered.{at_start, leading, read_lettered}
use Rattle.formats.specs.Run.{Run, begun, first_refused}
use Rattle.columns.specs.declared.Refusal.{Refusal}
use Rattle.formats.specs.declared.lettered.LineKind.{LineKind}

-- what stands at no place of a list of kinds
abbrev pub no_kind : LineKind
no_kind = record { letter = 0; kind = 0; rank = 0; after = 0 }

-- an answer about a kind, as the code has it
abbrev pub as_kind : Answer LineKind → Result LineKind Refusal
as_kind (ok k) = Ok k
as_kind (refusal n c) = Err (refusal_at n c)

-- a line that was judged: its kind, or its refusal
abbrev pub stepped_by : Answer Rec → Answer LineKind → Result LineKind Refusal
stepped_by (ok m) k = as_kind k
stepped_by (refusal n c) k = Err (refusal_at n c)

abbrev pub step_of : List LineKind → ℕ → List ℕ → Result LineKind Refusal
step_of ks before l = stepped_by (read_lettered ks before l) (leading ks l)

-- the lines of a run: the first refusal, or none, with 0 for the events; and how many lines begin with each byte, in a tally that was empty
pub record Empty (tally : List ℕ) : Type 0 where
  pub size : length tally ≡ 256
  pub none : (b : ℕ) → get_or tally b 0 ≡ 0

abbrev pub Tallied : List (List ℕ) → Run → List ℕ → Type 0
Tallied ls (Ok events) tally = (b : ℕ) → b < 256 → get_or tally b 0 ≡ begun b ls
Tallied ls (Err e) tally = Unit {0}

pub record Judged (ks : List LineKind) (ls : List (List ℕ)) (r : Run) (to : List ℕ) : Type 0 where
  pub answer : r ≡ first_refused ks 1 at_start ls (Ok 0)
  pub tally : Tallied ls r to
