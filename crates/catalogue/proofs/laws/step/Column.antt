-- An answer's column is that of a refused line, or 0.
use Prim.Native.Nat.{ℕ, ◌≤◌}
use mathlib.Core.List.{List}
use mathlib.Core.Option.{Option, none, some}
use native.Mathlib.Omega.{arith}
use lib.Dec.{ltb, leb}
use lib.ListN.{length}
use Rattle.columns.specs.Answer.{Answer, ok, refusal}
use Rattle.columns.specs.Bytes.{same_bytes}
use Rattle.columns.proofs.laws.Bounds.{column_of}
use Rattle.formats.specs.Cube.{Message, read_line}
use Rattle.formats.proofs.laws.CubeRecordBack.{line_bound}
use Rattle.catalogue.specs.Answers.{Deed, call_column, answered}
use Rattle.catalogue.specs.declared.decide.Deed.TheVariants.{Leave, Hold, Note, Wipe, Link}
use Rattle.catalogue.specs.declared.decide.Notice.{Notice}
use Rattle.catalogue.specs.declared.decide.Notice.TheVariants.{Event, Delete, Blank}
use Rattle.catalogue.specs.Line.{Kind, event, delete, blank, link, refused, kind, refusal_in, version, link_version, link_entry}
use Rattle.catalogue.specs.Catalogue.{Catalogue}
use Rattle.catalogue.specs.Taking.{covered, over_held, over_deleted, over_blank, decide, declined, limited, pair_deed, over_link, limited_link, link_deed, deed_by, deed_of, done, step}
use Rattle.catalogue.proofs.laws.assoc.Tests.{pick_by}

abbrev Low : Deed → Type 0
Low e = call_column (answered e) ≤ 255

held_low : (l : List ℕ) (h : Option (List ℕ)) → Low (over_held l h)
unfolding over_held
held_low l none = omega arith
held_low l (some h) =
    pick_by Low (ltb (version l) (version h)) _ _ (λ t. omega arith) (λ t. pick_by Low (same_bytes l h) _ _ (λ u. omega arith) (λ u. omega arith))

deleted_low : (v : ℕ) (h : Option (List ℕ)) → Low (over_deleted v h)
unfolding over_deleted
deleted_low v none = omega arith
deleted_low v (some h) = pick_by Low (leb (version h) v) _ _ (λ t. omega arith) (λ t. omega arith)

decide_low : (n : Notice) (l : List ℕ) (d h : Option (List ℕ)) → Low (decide n l d h)
unfolding decide over_blank
decide_low Event l d h = pick_by Low (covered d (version l)) _ _ (λ t. omega arith) (λ t. held_low l h)
decide_low Delete l d h = pick_by Low (covered d (version l)) _ _ (λ t. omega arith) (λ t. deleted_low (version l) h)
decide_low Blank l d none = omega arith
decide_low Blank l d (some h) = omega arith

declined_low : (e : Deed) → Low e → Low (declined e)
unfolding declined
declined_low (Leave x) w = w
declined_low (Hold n) w = omega arith
declined_low (Note v) w = omega arith
declined_low (Wipe v) w = omega arith
declined_low (Link n) w = omega arith

limited_low : (n : ℕ) (d h : Option (List ℕ)) (e : Deed) → Low e → Low (limited n d h e)
unfolding limited
limited_low n none none e w = pick_by Low (leb 512 n) _ _ (λ t. declined_low e w) (λ t. w)
limited_low n none (some h) e w = w
limited_low n (some d) h e w = w

link_low : (n : ℕ) (e : List ℕ) (o : Option (List ℕ)) → Low (limited_link n o (over_link e o))
unfolding limited_link over_link
link_low n e none = pick_by Low (leb 64 n) _ _ (λ t. omega arith) (λ t. omega arith)
link_low n e (some x) =
    pick_by Low (ltb (link_version e) (link_version x)) _ _ (λ t. omega arith) (λ t. pick_by Low (same_bytes e x) _ _ (λ u. omega arith) (λ u. omega arith))

line_low : (a : Answer Message) → column_of a ≤ 255 → (refusal_in a).column ≤ 255
line_low (ok m) h = omega arith
line_low (refusal n k) h = h

pair_low : (n : Notice) (c : Catalogue) (l : List ℕ) → Low (pair_deed n c l)
unfolding pair_deed
pair_low n c l = limited_low _ _ _ _ (decide_low n l _ _)

deed_low : (t : Kind) (c : Catalogue) (l : List ℕ) → Low (deed_by t c l)
unfolding link_deed
deed_low event c l = pair_low Event c l
deed_low delete c l = pair_low Delete c l
deed_low blank c l = pair_low Blank c l
deed_low link c l = link_low (length c.links) (link_entry l) _
deed_low refused c l = line_low (read_line l) (line_bound l)

pub step_low : (c : Catalogue) (l : List ℕ) → call_column (step c l).answer ≤ 255
unfolding step done deed_of
step_low c l = deed_low (kind l) c l
