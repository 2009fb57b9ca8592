-- Two lists of lines with the same acceptable lines, and what is asked of them: the premises of demand 3.
-- Document 01, "The catalogue"; document 02, "Take the links".
use Rattle.std.specs.Prelude.{ℕ, ◌≤◌, ◌≡◌, ◌↔◌, length}
use mathlib.Core.List.{List, Memᴰ}
use Rattle.catalogue.specs.Line.{Acceptable, event, blank, link, kind, pair, version, triple, wide_version}

-- the line x occurs in the list
abbrev pub Occurs : List (List ℕ) → List ℕ → Type 0
Occurs ls x = Memᴰ x ls

-- the same acceptable lines occur, whatever their order and repeats, and whatever refused lines stand among them
abbrev pub SameLines : List (List ℕ) → List (List ℕ) → Type 0
SameLines ls ms = (x : List ℕ) → Acceptable x → (Occurs ls x ↔ Occurs ms x)

-- what is asked of a list where E lines may share source, identifier and version and yet differ, and LI lines those and their type
pub record Bounded (ls : List (List ℕ)) : Type 0 where
  -- no acceptable delete has a blank version
  pub no_blank : (x : List ℕ) → Occurs ls x → kind x ≡ blank → ⊥
  -- at most 512 pairs are named by acceptable E and DE lines
  pub pairs : List (List ℕ)
  pub few : length pairs ≤ 512
  pub named_there : (x : List ℕ) → Occurs ls x → Acceptable x → (kind x ≡ link → ⊥) → Memᴰ (pair x) pairs
  -- at most 64 triples are named by acceptable LI lines
  pub triples : List (List ℕ)
  pub few_triples : length triples ≤ 64
  pub triple_there : (x : List ℕ) → Occurs ls x → kind x ≡ link → Memᴰ (triple x) triples

-- what demand 3 asks of a list, beside that the other has the same acceptable lines
pub record Settled (ls : List (List ℕ)) : Type 0 where
  pub bounded : Bounded ls
  -- no two acceptable event lines share source, identifier and version yet differ
  pub no_conflict : (x y : List ℕ) → Occurs ls x → Occurs ls y → kind x ≡ event → kind y ≡ event → pair x ≡ pair y → version x ≡ version y → x ≡ y
  -- no two acceptable LI lines share source, identifier, type and version yet differ
  pub no_link_conflict : (x y : List ℕ) → Occurs ls x → Occurs ls y → kind x ≡ link → kind y ≡ link → triple x ≡ triple y → wide_version x ≡ wide_version y → x ≡ y
