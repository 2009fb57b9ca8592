-- What the code finds of a line's pair in a room in order, and that it decides what the definition does.
use Rattle.std.proofs.Common.{Result, Ok, Err}
use Prim.Native.Nat.{ℕ, ◌+◌, ◌≤◌}
use mathlib.Core.Path.{◌≡◌, refl, sym, ◌∙◌, ap, subst}
use mathlib.Core.Logic.{inl, inr}
use mathlib.Core.Bool.{false}
use mathlib.Core.List.{List, [], ◌∷◌}
use mathlib.Core.Option.{some}
use native.Mathlib.Omega.{arith}
use lib.ListN.{length, drop, get_or, length-drop}
use lib.Seq.{get_or-drop}
use Rattle.catalogue.specs.declared.section.Section.{Section}
use Rattle.catalogue.specs.declared.decide.Notice.{Notice}
use Rattle.catalogue.specs.declared.decide.Notice.TheVariants.{Event, Delete, Blank}
use Rattle.catalogue.specs.declared.decide.Findings.{Findings}
use Rattle.catalogue.specs.Assoc.{find, AscFrom}
use Rattle.catalogue.specs.Line.{Acceptable, event, link, kind, key, pair, deletion, deletion_key}
use Rattle.catalogue.specs.Catalogue.{named}
use Rattle.catalogue.specs.Taking.{covered, decide, limited, deed_of}
use Rattle.catalogue.specs.Room.{contents}
use Rattle.catalogue.specs.Ordered.{Ordered}
use Rattle.catalogue.specs.Keys.{key_in}
use Rattle.catalogue.specs.Entries.{entries_of, key_of_entry, entry_of, Inside, Sought, IsPlaceOf}
use Rattle.catalogue.specs.Places.{end_of, held_in, deletions_in, links_in}
use Rattle.catalogue.specs.Findings.{notice_kind, IsFound, Placed, Known}
use Rattle.catalogue.proofs.laws.assoc.Below.{below_le}
use Rattle.catalogue.proofs.laws.section.Keys.{first_two, first_eight}
use Rattle.catalogue.proofs.laws.section.Rows.{entries_length}
use Rattle.catalogue.proofs.laws.section.Seek.{sought_find, sought_as}
use Rattle.catalogue.proofs.laws.step.Decide.{deed_of_lem, held_decides}
use Rattle.catalogue.proofs.laws.room.Encode.{room_size_lem}
use Rattle.catalogue.proofs.laws.room.View.{view_good}
use Rattle.catalogue.proofs.laws.room.Places.{held_key_lem, deletion_key_lem, held_entries, deletion_entries, held_inside, deletion_inside, held_asc, deletion_asc, used_fits}

-- the notice of an E line
event_notice : (n : Notice) → notice_kind n ≡ event → n ≡ Event
event_notice Event e = refl
event_notice Delete e = let z : ◌≡◌ {A = ℕ} 0 1 = cc in absurd (omega arith)
event_notice Blank e = let z : ◌≡◌ {A = ℕ} 0 1 = cc in absurd (omega arith)

-- a notice is no link
pub notice_apart : (l : List ℕ) (n : Notice) → kind l ≡ notice_kind n → kind l ≡ link → ⊥
notice_apart l Event e r = let z : ◌≡◌ {A = ℕ} 0 1 = cc in omega arith
notice_apart l Delete e r = let z : ◌≡◌ {A = ℕ} 0 1 = cc in omega arith
notice_apart l Blank e r = let z : ◌≡◌ {A = ℕ} 0 1 = cc in omega arith

-- a notice is an acceptable line
pub notice_ok : (l : List ℕ) (n : Notice) → kind l ≡ notice_kind n → Acceptable l
notice_ok l Event e r = let z : ◌≡◌ {A = ℕ} 0 1 = cc in omega arith
notice_ok l Delete e r = let z : ◌≡◌ {A = ℕ} 0 1 = cc in omega arith
notice_ok l Blank e r = let z : ◌≡◌ {A = ℕ} 0 1 = cc in omega arith

pub line_key : (l : List ℕ) → key_in false 10 2 l ≡ key l
unfolding key_in key pair
line_key l = refl

-- a deletion, byte by byte
pub deletion_bytes : (l : List ℕ) (v : ℕ) → 13 ≤ length l
    → get_or l 10 0 ∷ get_or l 11 0 ∷ get_or l 2 0 ∷ get_or l 3 0 ∷ get_or l 4 0 ∷ get_or l 5 0 ∷ get_or l 6 0 ∷ get_or l 7 0 ∷ get_or l 8 0 ∷ get_or l 9 0 ∷ v ∷ [] ≡ deletion l v
unfolding deletion pair
deletion_bytes l v h = sym (simp (first_two (drop 10 l) (simp length-drop (omega arith)), first_eight (drop 2 l) (simp length-drop (omega arith)), get_or-drop))

-- a place that a search answers lies in the section
pub sought_place : (f : List ℕ → ℕ) (k : ℕ) (xs : List (List ℕ)) (s : Result ℕ ℕ) → Sought f k xs s → IsPlaceOf s (length xs)
sought_place f k xs (Ok i) h = h.1
sought_place f k xs (Err i) h = omega (arith, h.0, below_le f k xs)

module _ (r : List ℕ) (o : Ordered r) where
  pub long_enough : (2 ≤ length r) × (end_of (held_in r) + 2 ≤ length r) × (end_of (deletions_in r) + 2 ≤ length r) × (end_of (links_in r) ≤ length r)
  long_enough = (omega (arith, room_size_lem, o.long), omega (arith, used_fits r o, o.long), omega (arith, used_fits r o, o.long), omega (arith, used_fits r o, o.long))

  -- both sections can be searched, and what a search finds is found in the catalogue
  module _ {s : Section} (e : s ≡ held_in r) where
    pub held_open : Inside s r × AscFrom (key_of_entry s) 0 (entries_of s r)
    held_open = rw e (held_inside r o, held_asc r o)

    pub held_sought : {k j : ℕ} → k ≡ j → (x : Result ℕ ℕ) → Sought (key_of_entry s) k (entries_of s r) x → Sought key j (contents r).held x
    held_sought {k} {j} f x h =
        sought_as (key_of_entry s) key k j (entries_of s r) (contents r).held x (ap key_of_entry e ∙ held_key_lem r) f (ap (λ (y : Section). entries_of y r) e ∙ held_entries r o) h

  module _ {s : Section} (e : s ≡ deletions_in r) where
    pub deletion_open : Inside s r × AscFrom (key_of_entry s) 0 (entries_of s r)
    deletion_open = rw e (deletion_inside r o, deletion_asc r o)

    pub deletion_sought : {k j : ℕ} → k ≡ j → (x : Result ℕ ℕ) → Sought (key_of_entry s) k (entries_of s r) x → Sought deletion_key j (contents r).deletions x
    deletion_sought {k} {j} f x h =
        sought_as (key_of_entry s) deletion_key k j (entries_of s r) (contents r).deletions x (ap key_of_entry e ∙ deletion_key_lem r) f (ap (λ (y : Section). entries_of y r) e ∙ deletion_entries r o) h

  module _ (l : List ℕ) (f : Findings) (K : Known r l f) where
    held_rows : entries_of f.held r ≡ (contents r).held
    held_rows = ap (λ (y : Section). entries_of y r) K.held_is ∙ held_entries r o

    deletion_rows : entries_of f.deletions r ≡ (contents r).deletions
    deletion_rows = ap (λ (y : Section). entries_of y r) K.deletions_are ∙ deletion_entries r o

    -- where the pair is in no held line, or the line is no event, the deletions were searched
    pub searched : (kind l ≡ event → IsFound f.in_held → ⊥) → Sought deletion_key (key l) (contents r).deletions f.in_deletions
    searched n = elim K.in_deletions [ inl s ↦ s | inr u ↦ absurd (n u.0 u.1) ]

    pub known_placed : Placed r f
    known_placed =
        let n : length (contents r).held ≡ f.held.count = sym (ap length held_rows) ∙ entries_length f.held r in
        let m : length (contents r).deletions ≡ f.deletions.count = sym (ap length deletion_rows) ∙ entries_length f.deletions r in
        record {
          held_inside = (held_open K.held_is).0;
          deletions_inside = (deletion_open K.deletions_are).0;
          held_size = ap (λ (s : Section). s.size) K.held_is;
          deletion_size = ap (λ (s : Section). s.size) K.deletions_are;
          held_place = subst (IsPlaceOf f.in_held) n (sought_place key (key l) (contents r).held f.in_held K.in_held);
          deletion_place = elim K.in_deletions [
            | inl s ↦ subst (IsPlaceOf f.in_deletions) m (sought_place deletion_key (key l) (contents r).deletions f.in_deletions s)
            | inr u ↦ rw u.2 (omega arith)
          ];
        }

    pub found_held : find key (key l) (contents r).held ≡ entry_of (entries_of f.held r) f.in_held
    found_held = sought_find key (key l) (contents r).held (view_good r o).held_ascends f.in_held K.in_held ∙ ap (λ (xs : List (List ℕ)). entry_of xs f.in_held) (sym held_rows)

    some_held : (xs : List (List ℕ)) (s : Result ℕ ℕ) → IsFound s → (h : List ℕ) × (entry_of xs s ≡ some h)
    some_held xs (Ok i) u = (get_or xs i [], refl)
    some_held xs (Err i) u = absurd u

    -- what was found decides, searched or not
    pub known_decides : (n : Notice) → kind l ≡ notice_kind n
        → limited (named (contents r)) (entry_of (entries_of f.deletions r) f.in_deletions) (entry_of (entries_of f.held r) f.in_held)
        (decide n l (entry_of (entries_of f.deletions r) f.in_deletions) (entry_of (entries_of f.held r) f.in_held))
        ≡ deed_of (contents r) l
    unfolding limited decide covered
    known_decides n e =
        elim K.in_deletions [
          | inl s ↦
              sym (deed_of_lem (contents r) l n (entry_of (entries_of f.deletions r) f.in_deletions) (entry_of (entries_of f.held r) f.in_held) e
              (sought_find deletion_key (key l) (contents r).deletions (view_good r o).deletion_ascends f.in_deletions s ∙ ap (λ (xs : List (List ℕ)). entry_of xs f.in_deletions) (sym deletion_rows)) found_held)
          | inr u ↦
              let w = some_held (entries_of f.held r) f.in_held u.1 in
              rw (u.2, w.1, event_notice n (sym e ∙ u.0)) (sym (held_decides (contents r) l (view_good r o) w.0 u.0 (found_held ∙ w.1)))
        ]
