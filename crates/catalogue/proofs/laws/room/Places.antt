-- The sections of a room at the places that the code reads: for any bytes, and for a room in order.
use Prim.Native.Nat.{ℕ, ◌+◌, ◌≤◌}
use mathlib.Core.Path.{◌≡◌, refl, sym, ◌∙◌, ap, subst}
use mathlib.Core.Bool.{true, false}
use mathlib.Core.List.{List, [], ◌∷◌, ◌++◌}
use native.Mathlib.Omega.{arith}
use lib.ListN.{length, take, drop}
use lib.Seq.{take-add, drop-drop}
use Rattle.catalogue.specs.Line.{type_at, pair, key_of, key, deletion_key, link_type, triple_key, link_key}
use Rattle.formats.specs.Link.{word}
use Rattle.catalogue.specs.Assoc.{AscFrom}
use Rattle.catalogue.specs.Section.{Part, part, laid, said, rows}
use Rattle.catalogue.specs.Catalogue.{Catalogue, parts, from_parts}
use Rattle.catalogue.specs.Room.{room_size, contents}
use Rattle.catalogue.specs.Ordered.{Ordered}
use Rattle.catalogue.specs.Keys.{two, key_in}
use Rattle.catalogue.specs.Entries.{entries_of, key_of_entry, Inside}
use Rattle.catalogue.specs.Places.{end_of, held_in, deletions_in, links_in}
use Rattle.catalogue.proofs.laws.section.Wide.{Fits}
use Rattle.catalogue.proofs.laws.section.Rows.{entries_length}
use Rattle.catalogue.proofs.laws.section.Laid.{laid_length, said_next}
use Rattle.catalogue.proofs.laws.section.Parts.{Stands}
use Rattle.catalogue.proofs.laws.step.Good.{good_fits}
use Rattle.catalogue.proofs.laws.room.Encode.{laid_fits}
use Rattle.catalogue.proofs.laws.room.View.{view_good}

-- the keys of the sections' entries
pub held_key_lem : (r : List ℕ) → key_of_entry (held_in r) ≡ key
unfolding key_of_entry key_in key pair
held_key_lem r = refl

pub deletion_key_lem : (r : List ℕ) → key_of_entry (deletions_in r) ≡ deletion_key
unfolding key_of_entry key_in deletion_key
deletion_key_lem r = λ i d. key_of (sym (take-add 2 8 d) i) []

pub link_key_lem : (r : List ℕ) → key_of_entry (links_in r) ≡ link_key
unfolding key_of_entry key_in link_key triple_key link_type pair type_at
link_key_lem r = λ i e. key_of (take 2 (sym (drop-drop 10 1 e) i) ++ take 8 (sym (drop-drop 2 1 e) i)) (word (take 16 (sym (drop-drop 15 1 e) i)))

-- what the bytes say, as the code reads it
pub contents_entries : (r : List ℕ) → contents r ≡ record { held = entries_of (held_in r) r; deletions = entries_of (deletions_in r) r; links = entries_of (links_in r) r }
unfolding contents entries_of said
contents_entries r =
    let hs : List (List ℕ) = rows (two r 0) 80 (drop 2 r) in
    let ds : List (List ℕ) = rows (two r (end_of (held_in r))) 11 (drop (end_of (held_in r) + 2) r) in
    ap from_parts (said_next (part 80 512 []) (part 11 512 [] ∷ part 256 64 [] ∷ []) r 0 (two r 0) refl)
    ∙ ap (λ (ps : List Part). from_parts (part 80 512 hs ∷ ps)) (said_next (part 11 512 []) (part 256 64 [] ∷ []) r (end_of (held_in r)) (two r (end_of (held_in r))) refl)
    ∙ ap (λ (ps : List Part). from_parts (part 80 512 hs ∷ part 11 512 ds ∷ ps)) (said_next (part 256 64 []) [] r (end_of (deletions_in r)) (two r (end_of (deletions_in r))) refl)

-- the held lines and their count, whatever the bytes are
pub held_rows : (r : List ℕ) → entries_of (held_in r) r ≡ (contents r).held
held_rows r = sym (ap (λ (c : Catalogue). c.held) (contents_entries r))

pub rows_counted : (r : List ℕ) → two r 0 ≡ length (contents r).held
rows_counted r = sym (entries_length (held_in r) r) ∙ ap length (held_rows r)

-- no type is asked for
pub untyped : (m n : ℕ) → false ≡ true → m ≤ n
untyped m n e = let z : ◌≡◌ {A = ℕ} 0 1 = cc in absurd (omega arith)

-- a section that ends inside the bytes lies in them
pub held_lies : (r : List ℕ) → end_of (held_in r) ≤ length r → Inside (held_in r) r
held_lies r h = record { fits = h; source = omega arith; identifier = omega arith; type = untyped 31 80 }

pub deletions_lie : (r : List ℕ) → end_of (deletions_in r) ≤ length r → Inside (deletions_in r) r
deletions_lie r h = record { fits = h; source = omega arith; identifier = omega arith; type = untyped 31 11 }

pub links_lie : (r : List ℕ) → end_of (links_in r) ≤ length r → Inside (links_in r) r
links_lie r h = record { fits = h; source = omega arith; identifier = omega arith; type = λ (t : true ≡ true). omega arith }

module _ (r : List ℕ) (o : Ordered r) where
  pub held_entries : entries_of (held_in r) r ≡ (contents r).held
  held_entries = held_rows r

  pub deletion_entries : entries_of (deletions_in r) r ≡ (contents r).deletions
  deletion_entries = sym (ap (λ (c : Catalogue). c.deletions) (contents_entries r))

  pub link_entries : entries_of (links_in r) r ≡ (contents r).links
  link_entries = sym (ap (λ (c : Catalogue). c.links) (contents_entries r))

  pub held_count_lem : two r 0 ≡ length (contents r).held
  held_count_lem = rows_counted r

  pub deletion_count : two r (end_of (held_in r)) ≡ length (contents r).deletions
  deletion_count = sym (entries_length (deletions_in r) r) ∙ ap length deletion_entries

  pub link_count : two r (end_of (deletions_in r)) ≡ length (contents r).links
  link_count = sym (entries_length (links_in r) r) ∙ ap length link_entries

  fits : Fits (parts (contents r))
  fits = good_fits (contents r) (view_good r o)

  pub few : (two r 0 ≤ 512) × (two r (end_of (held_in r)) ≤ 512) × (two r (end_of (deletions_in r)) ≤ 64)
  few = (omega (arith, held_count_lem, fits.0.1), omega (arith, deletion_count, fits.1.0.1), omega (arith, link_count, fits.1.1.0.1))

  pub used_is : end_of (links_in r) ≡ length (laid (parts (contents r)))
  used_is = omega (arith, held_count_lem, deletion_count, link_count, laid_length (parts (contents r)) fits)

  pub used_fits : end_of (links_in r) ≤ room_size
  used_fits = omega (arith, used_is, laid_fits (contents r) (view_good r o))

  pub held_stands : Stands (held_in r) [] 80 (contents r).held
  unfolding laid
  held_stands = record { at_is = refl; size_is = refl; count_is = held_count_lem }

  pub deletion_stands : Stands (deletions_in r) (part 80 512 (contents r).held ∷ []) 11 (contents r).deletions
  deletion_stands = record {
    at_is = omega (arith, held_count_lem, laid_length (part 80 512 (contents r).held ∷ []) (fits.0, tt));
    size_is = refl;
    count_is = deletion_count;
  }

  pub link_stands : Stands (links_in r) (part 80 512 (contents r).held ∷ part 11 512 (contents r).deletions ∷ []) 256 (contents r).links
  link_stands = record {
    at_is = omega (arith, held_count_lem, deletion_count, laid_length (part 80 512 (contents r).held ∷ part 11 512 (contents r).deletions ∷ []) (fits.0, (fits.1.0, tt)));
    size_is = refl;
    count_is = link_count;
  }

  pub held_inside : Inside (held_in r) r
  held_inside = held_lies r (omega (arith, used_fits, o.long))

  pub deletion_inside : Inside (deletions_in r) r
  deletion_inside = deletions_lie r (omega (arith, used_fits, o.long))

  pub link_inside : Inside (links_in r) r
  link_inside = links_lie r (omega (arith, used_fits, o.long))

  -- each ascends, as the code reads it
  pub held_asc : AscFrom (key_of_entry (held_in r)) 0 (entries_of (held_in r) r)
  held_asc = subst (λ (f : List ℕ → ℕ). AscFrom f 0 (entries_of (held_in r) r)) (sym (held_key_lem r)) (subst (AscFrom key 0) (sym held_entries) (view_good r o).held_ascends)

  pub deletion_asc : AscFrom (key_of_entry (deletions_in r)) 0 (entries_of (deletions_in r) r)
  deletion_asc = subst (λ (f : List ℕ → ℕ). AscFrom f 0 (entries_of (deletions_in r) r)) (sym (deletion_key_lem r)) (subst (AscFrom deletion_key 0) (sym deletion_entries) (view_good r o).deletion_ascends)

  pub link_asc : AscFrom (key_of_entry (links_in r)) 0 (entries_of (links_in r) r)
  link_asc = subst (λ (f : List ℕ → ℕ). AscFrom f 0 (entries_of (links_in r) r)) (sym (link_key_lem r)) (subst (AscFrom link_key 0) (sym link_entries) (view_good r o).link_ascends)
