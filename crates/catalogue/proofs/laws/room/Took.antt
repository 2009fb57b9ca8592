-- What taking a line answers and counts, from what the code found and decided.
use Rattle.std.proofs.Common.{Result, Ok, Err}
use Prim.Native.Nat.{ℕ, ◌+◌, ◌≤◌}
use mathlib.Core.Path.{◌≡◌, refl, sym, ◌∙◌, ap, ap₂, subst}
use mathlib.Core.Bool.{Bool, true, false}
use mathlib.Core.List.{List}
use native.Mathlib.Omega.{arith}
use lib.Dec.{eqb}
use lib.ListN.{length, get_or}
use Rattle.columns.specs.Answer.{pick, Answer, ok, refusal}
use Rattle.formats.specs.Cube.{Message, read_line, line_read}
use Rattle.formats.specs.Cube as cube
use Rattle.formats.specs.declared.cube.Parts.{Parts}
use Rattle.formats.specs.declared.cube.Parts.TheVariants as P
use Rattle.columns.specs.declared.Refusal.{Refusal}
use Rattle.formats.proofs.laws.CubeFields.{delete_version}
use Rattle.formats.proofs.laws.CubeThere.{was_there}
use Rattle.catalogue.specs.Answers.{Deed, answered}
use Rattle.catalogue.specs.declared.decide.Deed.TheVariants.{Leave, Hold, Note, Wipe, Link}
use Rattle.catalogue.specs.declared.decide.Notice.{Notice}
use Rattle.catalogue.specs.declared.decide.Notice.TheVariants.{Blank}
use Rattle.catalogue.specs.declared.decide.Notice.TheVariants as N
use Rattle.catalogue.specs.declared.decide.Findings.{Findings}
use Rattle.catalogue.specs.declared.take.Receipt.{Receipt}
use Rattle.catalogue.specs.Line.{Acceptable, event, delete, blank, link, kind_of, kind, refusal_in, key, deletion_key}
use Rattle.catalogue.specs.Catalogue.{only_held, named}
use Rattle.catalogue.specs.Taking.{decide, limited, deed_of, done, step}
use Rattle.catalogue.specs.Room.{contents, room_after}
use Rattle.catalogue.specs.Ordered.{Ordered}
use Rattle.catalogue.specs.Entries.{Sought, entries_of, entry_of}
use Rattle.catalogue.specs.Findings.{notice_kind, IsFound, Known, one_more_named, named_after, Took}
use Rattle.catalogue.proofs.laws.section.Seek.{found_find, missing_find}
use Rattle.catalogue.proofs.laws.step.Names.{held_named, deletion_named}
use Rattle.catalogue.proofs.laws.step.Count.{Changes, named_leave, named_link, named_known, named_new}
use Rattle.catalogue.proofs.laws.step.Decide.{deed_refused}
use Rattle.catalogue.proofs.laws.step.Link.{link_ok_lem}
use Rattle.catalogue.proofs.laws.step.Untouched.{apart}
use Rattle.catalogue.proofs.laws.room.View.{view_good, call_is, ordered_after, after_contents}
use Rattle.catalogue.proofs.laws.room.Found.{searched, known_decides}
use Rattle.catalogue.proofs.laws.room.Carry.{left}

-- ---- the kind of the line that was read

blank_or_delete : (t : Bool) → pick t blank delete ≡ notice_kind (pick t Blank N.Delete)
blank_or_delete true = refl
blank_or_delete false = refl

-- the parts that are there say which kind of line it is; of a delete its version does
module _ (l : List ℕ) (p : Parts) (q : line_read (read_line l) ≡ Ok p) where
  pub there_link : (t a n : ℕ) → p ≡ P.Link t a n → kind l ≡ link
  unfolding kind
  there_link t a n i = let w = was_there (read_line l) p q in by_message w.message w.is (w.says ∙ ap Ok i)
    where
      by_message : (m : Message) → read_line l ≡ ok m → line_read (ok m) ≡ Ok (P.Link t a n) → kind_of (read_line l) ≡ link
      by_message (cube.event ns s) e p = let z : ◌≡◌ {A = ℕ} 0 1 = cc in absurd (omega arith)
      by_message (cube.delete names s) e p = let z : ◌≡◌ {A = ℕ} 0 1 = cc in absurd (omega arith)
      by_message (cube.link names ty ad tx) e p = ap kind_of e

  pub there_event : p ≡ P.Event → kind l ≡ event
  unfolding kind
  there_event i = let w = was_there (read_line l) p q in by_message w.message w.is (w.says ∙ ap Ok i)
    where
      by_message : (m : Message) → read_line l ≡ ok m → line_read (ok m) ≡ Ok P.Event → kind_of (read_line l) ≡ event
      by_message (cube.event ns s) e p = ap kind_of e
      by_message (cube.delete names s) e p = let z : ◌≡◌ {A = ℕ} 0 1 = cc in absurd (omega arith)
      by_message (cube.link names ty ad tx) e p = let z : ◌≡◌ {A = ℕ} 0 1 = cc in absurd (omega arith)

  pub there_delete : (n : ℕ) → p ≡ P.Delete n → kind l ≡ notice_kind (pick (eqb (get_or l 12 0) 32) Blank N.Delete)
  unfolding kind
  there_delete n i = let w = was_there (read_line l) p q in by_message w.message w.is (w.says ∙ ap Ok i)
    where
      by_message : (m : Message) → read_line l ≡ ok m → line_read (ok m) ≡ Ok (P.Delete n) → kind_of (read_line l) ≡ notice_kind (pick (eqb (get_or l 12 0) 32) Blank N.Delete)
      by_message (cube.event ns s) e p = let z : ◌≡◌ {A = ℕ} 0 1 = cc in absurd (omega arith)
      by_message (cube.delete names s) e p =
          ap kind_of e ∙ ap (λ (v : ℕ). pick (eqb v 32) blank delete) (delete_version l names s e) ∙ blank_or_delete (eqb (get_or l 12 0) 32)
      by_message (cube.link names ty ad tx) e p = let z : ◌≡◌ {A = ℕ} 0 1 = cc in absurd (omega arith)

-- ---- a room in order

module _ {r : List ℕ} (o : Ordered r) where
  pub few_named : named (contents r) ≤ 512
  few_named = (view_good r o).few

  -- an acceptable line, taken
  took_by : (l : List ℕ) → Acceptable l → {e : Deed} → e ≡ deed_of (contents r) l → {after : List ℕ} → after ≡ room_after r l → (t : Receipt)
      → t.call ≡ answered e → t.named ≡ named (step (contents r) l).after → Took r l after t
  unfolding kind step done
  took_by l a {e} p {after} w t u v =
      let answers : answered e ≡ (step (contents r) l).answer = ap answered p in
      record {
        call_is = rw (u, answers, call_is r o l);
        room_is = w;
        ordered = rw w (ordered_after r o l);
        named_are = rw (v, w, after_contents r o l);
      }

  -- a link, taken: the pairs named stay
  pub took_link : (l : List ℕ) → kind l ≡ link → {e : Deed} → e ≡ deed_of (contents r) l → {m : ℕ} → m ≡ named (contents r) → {after : List ℕ} → after ≡ room_after r l → (t : Receipt)
      → t.call ≡ answered e → t.named ≡ m → Took r l after t
  unfolding named
  took_link l k p q w t u v =
      let s = (apart (contents r) l).0 k in
      took_by l (link_ok_lem l k) p w t u (v ∙ q ∙ sym (ap₂ (λ (hs ds : List (List ℕ)). length ds + length (only_held ds hs)) s.0 s.1))

  module _ {l : List ℕ} {f : Findings} (K : Known r l f) where
    -- the code's decision is the definition's
    pub decided : (n : Notice) → kind l ≡ notice_kind n → {m : ℕ} → m ≡ named (contents r) → {e g : Deed}
        → e ≡ decide n l (entry_of (entries_of f.deletions r) f.in_deletions) (entry_of (entries_of f.held r) f.in_held)
        → g ≡ limited m (entry_of (entries_of f.deletions r) f.in_deletions) (entry_of (entries_of f.held r) f.in_held) e
        → g ≡ deed_of (contents r) l
    decided n k p q h = rw (h, p, q) (known_decides r o l f K n k)

    one_more : Changes (deed_of (contents r) l) → (h d : Result ℕ ℕ) → f.in_held ≡ h → f.in_deletions ≡ d → one_more_named h d (named (contents r)) ≡ named (step (contents r) l).after
    one_more c (Ok i) d p q =
        sym (named_known (contents r) l (view_good r o) (held_named (contents r) (key l) _ (found_find key (key l) (contents r).held i (rw p at K.in_held))))
    one_more c (Err i) d p q = unheld d q (searched r o l f K (λ (e : kind l ≡ event) (w : IsFound f.in_held). subst IsFound p w))
      where
        unheld : (d : Result ℕ ℕ) → f.in_deletions ≡ d → Sought deletion_key (key l) (contents r).deletions f.in_deletions → one_more_named (Err i) d (named (contents r)) ≡ named (step (contents r) l).after
        unheld (Ok j) q s =
            sym (named_known (contents r) l (view_good r o) (deletion_named (contents r) (key l) _ (found_find deletion_key (key l) (contents r).deletions j (rw q at s))))
        unheld (Err j) q s =
            sym (named_new (contents r) l (view_good r o) (missing_find deletion_key (key l) (contents r).deletions (view_good r o).deletion_ascends j (rw q at s))
            (missing_find key (key l) (contents r).held (view_good r o).held_ascends i (rw p at K.in_held)) c)

    named_by : (e : Deed) → deed_of (contents r) l ≡ e → named_after e f.in_held f.in_deletions (named (contents r)) ≡ named (step (contents r) l).after
    named_by (Leave m) p = sym (named_leave (contents r) l m p)
    named_by (Hold m) p = one_more (subst Changes (sym p) tt) f.in_held f.in_deletions refl refl
    named_by (Note v) p = one_more (subst Changes (sym p) tt) f.in_held f.in_deletions refl refl
    named_by (Wipe v) p = one_more (subst Changes (sym p) tt) f.in_held f.in_deletions refl refl
    named_by (Link m) p = sym (named_link (contents r) l m p)

    -- an acceptable line about a pair, taken
    pub took : Acceptable l → {e : Deed} → e ≡ deed_of (contents r) l → {m : ℕ} → m ≡ named (contents r) → {after : List ℕ} → after ≡ room_after r l → (t : Receipt)
        → t.call ≡ answered e → t.named ≡ named_after e f.in_held f.in_deletions m → Took r l after t
    took a {e} p q w t u v = took_by l a p w t u (rw (v, q) (named_by e (sym p)))

  -- a refused line
  pub took_refused : (l : List ℕ) {x : Refusal} → read_line l ≡ refusal x.reason x.column → {m : ℕ} → m ≡ named (contents r) → (t : Receipt) → t.call ≡ Err x → t.named ≡ m → Took r l r t
  unfolding kind step done
  took_refused l {x} e q t u v =
      let d : deed_of (contents r) l ≡ Leave (Err x) = deed_refused (contents r) l (ap kind_of e) ∙ ap (λ (a : Answer Message). Leave (Err (refusal_in a))) e in
      record { call_is = rw (u, call_is r o l, d); room_is = left o l d; ordered = o; named_are = v ∙ q }
