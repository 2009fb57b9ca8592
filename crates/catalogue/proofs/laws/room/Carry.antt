-- The moves that a deed makes, on a room in order.
use Rattle.std.proofs.Common.{Result, Ok, Err}
use Prim.Native.Nat.{ℕ, ◌+◌, ◌≤◌, ◌<◌}
use mathlib.Core.Path.{◌≡◌, refl, sym, ◌∙◌, ap, subst}
use mathlib.Core.List.{List, [], ◌∷◌, ◌++◌}
use mathlib.Core.Option.{some}
use native.Mathlib.Omega.{arith}
use lib.ListN.{length, drop, get_or}
use Rattle.catalogue.specs.declared.section.Section.{Section}
use Rattle.catalogue.specs.Answers.{Deed, Call}
use Rattle.catalogue.specs.declared.Effect.{Effect}
use Rattle.catalogue.specs.declared.decide.Deed.TheVariants.{Leave, Hold, Note, Wipe, Link}
use Rattle.catalogue.specs.declared.decide.Findings.{Findings}
use Rattle.catalogue.specs.Assoc.{put, remove}
use Rattle.catalogue.specs.Line.{event, link, kind, key, deletion, deletion_key}
use Rattle.catalogue.specs.Section.{part, capacity}
use Rattle.catalogue.specs.Catalogue.{Catalogue, parts, with_held, with_deletions}
use Rattle.catalogue.specs.Taking.{deed_of, done, step}
use Rattle.catalogue.specs.Room.{room_size, encode, contents, room_after}
use Rattle.catalogue.specs.Ordered.{Ordered}
use Rattle.catalogue.specs.Entries.{Sought, RoomFor, Inside, IsPlaceOf}
use Rattle.catalogue.specs.Moves.{put_in, taken_out}
use Rattle.catalogue.specs.Places.{end_of, held_in, deletions_in, links_in}
use Rattle.catalogue.specs.Findings.{IsFound, Known, Notable}
use Rattle.catalogue.proofs.laws.section.Wide.{Fits}
use Rattle.catalogue.proofs.laws.section.Parts.{put_section, cut_section}
use Rattle.catalogue.proofs.laws.section.Seek.{found_find, missing_find}
use Rattle.catalogue.proofs.laws.step.Line.{whole, event_length, deletion_key_lem, deletion_length}
use Rattle.catalogue.proofs.laws.step.Good.{Good, good_fits}
use Rattle.catalogue.proofs.laws.step.Keep.{step_good, removed_good}
use Rattle.catalogue.proofs.laws.step.Fair.{Fair, deed_fair}
use Rattle.catalogue.proofs.laws.step.Decide.{Plain, held_decides, over_held_plain}
use Rattle.catalogue.proofs.laws.room.Encode.{encoded_ordered, encoded_contents, encoded_rest}
use Rattle.catalogue.proofs.laws.room.View.{view, view_good, room_is}
use Rattle.catalogue.proofs.laws.room.Places.{few as few_entries, held_inside, deletion_inside, held_stands, deletion_stands, used_is, used_fits}
use Rattle.catalogue.proofs.laws.room.Found.{sought_place, searched}

pub room_capacity : (c : Catalogue) → capacity (parts c) ≤ room_size
unfolding room_size capacity
room_capacity c = omega arith

-- what putting an entry asks
abbrev pub PutAsks : List ℕ → Section → ℕ → Result ℕ ℕ → List ℕ → Type 0
PutAsks r of used s l = Inside of r × (end_of of ≤ used) × RoomFor s (used + length l) (length r) × (of.count < 65535) × (length l ≡ of.size) × IsPlaceOf s of.count

-- the room x between the two moves of a Wipe: the deletion is put into it, which makes the room after the line
pub record Between (r l : List ℕ) (v : ℕ) (s : Result ℕ ℕ) (x : List ℕ) : Type 0 where
  pub ordered : Ordered x
  pub able : Notable x l v s
  pub done_is : encode (with_deletions (contents x) (put deletion_key (deletion l v) (contents x).deletions)) ++ drop room_size x ≡ room_after r l

module _ {r : List ℕ} (o : Ordered r) where
  pub fits : Fits (parts (contents r))
  fits = good_fits (contents r) (view_good r o)

  -- a line put among the held ones
  held_put : (l : List ℕ) → length l ≡ 80 → length (put key l (contents r).held) ≤ 512 → (s : Result ℕ ℕ) → Sought key (key l) (contents r).held s
      → (put_in r (held_in r) (end_of (links_in r)) s l ≡ encode (with_held (contents r) (put key l (contents r).held)) ++ drop room_size r) × RoomFor s (end_of (links_in r) + length l) (length r)
  unfolding encode
  held_put l hl few s h =
      let t = put_section room_size [] (part 11 512 (contents r).deletions ∷ part 256 64 (contents r).links ∷ []) 80 512 (drop room_size r) (contents r).held fits (room_capacity (contents r))
      (held_in r) (held_stands r o) (end_of (links_in r)) (used_is r o) key (view_good r o).held_ascends l hl few s h o.long in
      (ap (λ (x : List ℕ). put_in x (held_in r) (end_of (links_in r)) s l) (view r o) ∙ t.0, t.1)

  -- a deletion put among the deletions
  module _ {l : List ℕ} {v : ℕ} {s : Result ℕ ℕ} (N : Notable r l v s) where
    noted : (put_in r (deletions_in r) (end_of (links_in r)) s (deletion l v) ≡ encode (with_deletions (contents r) (put deletion_key (deletion l v) (contents r).deletions)) ++ drop room_size r)
        × RoomFor s (end_of (links_in r) + length (deletion l v)) (length r)
    unfolding encode
    noted =
        let t = put_section room_size (part 80 512 (contents r).held ∷ []) (part 256 64 (contents r).links ∷ []) 11 512 (drop room_size r) (contents r).deletions fits (room_capacity (contents r))
        (deletions_in r) (deletion_stands r o) (end_of (links_in r)) (used_is r o) deletion_key (view_good r o).deletion_ascends (deletion l v) (deletion_length l v N.long) N.few s
        (rw (deletion_key_lem l v N.long) N.place) o.long in
        (ap (λ (x : List ℕ). put_in x (deletions_in r) (end_of (links_in r)) s (deletion l v)) (view r o) ∙ t.0, t.1)

    module _ {of : Section} (e : of ≡ deletions_in r) {used : ℕ} (u : used ≡ end_of (links_in r)) {x : List ℕ} (w : x ≡ deletion l v) where
      pub note_asks : PutAsks r of used s x
      note_asks =
          rw (u, w, e) (
            deletion_inside r o,
            omega arith,
            noted.1,
            omega (arith, (few_entries r o).1),
            deletion_length l v N.long,
            rw (deletion_stands r o).count_is (sought_place deletion_key (key l) (contents r).deletions s N.place),
          )

      pub note_put : put_in r of used s x ≡ encode (with_deletions (contents r) (put deletion_key (deletion l v) (contents r).deletions)) ++ drop room_size r
      note_put = rw (u, w, e) noted.0

  -- a held line taken out: the room of the lesser catalogue
  module _ (k i : ℕ) (h : Sought key k (contents r).held (Ok i)) where
    lesser : Catalogue
    lesser = with_held (contents r) (remove key k (contents r).held)

    lesser_good : Good lesser
    unfolding lesser
    lesser_good = removed_good (contents r) (view_good r o) k (get_or (contents r).held i []) (found_find key k (contents r).held i h)

    held_cut : taken_out r (held_in r) (end_of (links_in r)) i ≡ encode lesser ++ drop room_size r
    unfolding encode lesser
    held_cut =
        ap (λ (x : List ℕ). taken_out x (held_in r) (end_of (links_in r)) i) (view r o)
        ∙ cut_section room_size [] (part 11 512 (contents r).deletions ∷ part 256 64 (contents r).links ∷ []) 80 512 (drop room_size r) (contents r).held fits (room_capacity (contents r))
        (held_in r) (held_stands r o) (end_of (links_in r)) (used_is r o) key (view_good r o).held_ascends k i h

  -- ---- the deeds

  -- what the room is after a deed
  module _ (l : List ℕ) (e : Deed) (p : deed_of (contents r) l ≡ e) where
    pub done_room : encode (done e (contents r) l).after ++ drop room_size r ≡ room_after r l
    unfolding step
    done_room = ap (λ (x : Deed). encode (done x (contents r) l).after ++ drop room_size r) (sym p) ∙ sym (room_is r o l)

    pub done_fits : Fits (parts (done e (contents r) l).after)
    unfolding step
    done_fits = subst (λ (x : Deed). Fits (parts (done x (contents r) l).after)) p (good_fits (step (contents r) l).after (step_good (contents r) (view_good r o) l))

    fair : Fair (contents r) l e
    fair = subst (Fair (contents r) l) p (deed_fair (contents r) l)

  pub left : (l : List ℕ) {n : Call} → deed_of (contents r) l ≡ Leave n → r ≡ room_after r l
  unfolding done
  left l {n} p = view r o ∙ done_room l (Leave n) p

  -- only a link is stored among the links
  pub no_link : (l : List ℕ) → (kind l ≡ link → ⊥) → {n : Effect} → deed_of (contents r) l ≡ Link n → ⊥
  no_link l a {n} p = a (fair l (Link n) p).is_link_lem

  module _ {l : List ℕ} {f : Findings} (K : Known r l f) where
    module _ {n : Effect} (p : deed_of (contents r) l ≡ Hold n) where
      hold_put : (put_in r (held_in r) (end_of (links_in r)) f.in_held l ≡ room_after r l) × RoomFor f.in_held (end_of (links_in r) + length l) (length r)
      unfolding done
      hold_put =
          let t = held_put l (event_length l (fair l (Hold n) p).is_event_lem) (done_fits l (Hold n) p).0.1 f.in_held K.in_held in
          (t.0 ∙ done_room l (Hold n) p, t.1)

      module _ {used : ℕ} (u : used ≡ end_of (links_in r)) where
        pub hold_asks : PutAsks r f.held used f.in_held l
        hold_asks =
            rw (u, K.held_is) (
              held_inside r o,
              omega arith,
              hold_put.1,
              omega (arith, (few_entries r o).0),
              event_length l (fair l (Hold n) p).is_event_lem,
              rw (held_stands r o).count_is (sought_place key (key l) (contents r).held f.in_held K.in_held),
            )

        pub hold_room : put_in r f.held used f.in_held l ≡ room_after r l
        hold_room = rw (u, K.held_is) hold_put.0

    -- a deletion is put only where the deletions were searched
    deletes : (e : Deed) → deed_of (contents r) l ≡ e → (Plain e → ⊥) → Sought deletion_key (key l) (contents r).deletions f.in_deletions
    deletes e p n = searched r o l f K (λ (q : kind l ≡ event). by_held q f.in_held refl)
      where
        by_held : kind l ≡ event → (s : Result ℕ ℕ) → f.in_held ≡ s → IsFound s → ⊥
        by_held q (Ok i) g w =
            let t : Sought key (key l) (contents r).held (Ok i) = rw g at K.in_held in
            let h : List ℕ = get_or (contents r).held i [] in
            n (subst Plain (sym (held_decides (contents r) l (view_good r o) h q (found_find key (key l) (contents r).held i t)) ∙ p) (over_held_plain l (some h)))
        by_held q (Err i) g w = w

    module _ {v : ℕ} (p : deed_of (contents r) l ≡ Note v) where
      pub note_able : Notable r l v f.in_deletions
      unfolding done
      note_able =
          record { long = (whole l (fair l (Note v) p).acceptable).long; place = deletes (Note v) p (λ (u : ⊥). u); few = (done_fits l (Note v) p).1.0.1 }

      pub note_room : encode (with_deletions (contents r) (put deletion_key (deletion l v) (contents r).deletions)) ++ drop room_size r ≡ room_after r l
      unfolding done
      note_room = done_room l (Note v) p

    module _ {v : ℕ} (p : deed_of (contents r) l ≡ Wipe v) where
      pub wipe_found : {i : ℕ} → f.in_held ≡ Err i → ⊥
      wipe_found {i} e =
          let a = missing_find key (key l) (contents r).held (view_good r o).held_ascends i (rw e at K.in_held) in
          let b = (fair l (Wipe v) p).is_held in
          let z : ◌≡◌ {A = ℕ} 0 1 = cc in omega arith

      module _ {i used : ℕ} (e : f.in_held ≡ Ok i) (u : used ≡ end_of (links_in r)) where
        found_in : Sought key (key l) (contents r).held (Ok i)
        found_in = rw e at K.in_held

        pub wipe_asks : Inside f.held r × (end_of f.held ≤ used) × (used ≤ length r) × (f.held.count < 65536) × (i < f.held.count)
        wipe_asks =
            rw (u, K.held_is)
            (held_inside r o, omega arith, omega (arith, used_fits r o, o.long), omega (arith, (few_entries r o).0), omega (arith, found_in.1, (held_stands r o).count_is))

        pub between : {x : List ℕ} → x ≡ taken_out r f.held used i → Between r l v f.in_deletions x
        unfolding done lesser
        between {x} q =
            let c : Catalogue = with_held (contents r) (remove key (key l) (contents r).held) in
            let g : Good c = lesser_good (key l) i found_in in
            let w : x ≡ encode c ++ drop room_size r = q ∙ rw (u, K.held_is) (held_cut (key l) i found_in) in
            rw w (record {
              ordered = encoded_ordered c g (drop room_size r);
              able = record {
                long = (whole l (fair l (Wipe v) p).acceptable).long;
                place = rw (encoded_contents c g (drop room_size r)) (deletes (Wipe v) p (λ (u : ⊥). u));
                few = rw (encoded_contents c g (drop room_size r)) (done_fits l (Wipe v) p).1.0.1;
              };
              done_is = rw (encoded_contents c g (drop room_size r), encoded_rest c g (drop room_size r)) (done_room l (Wipe v) p);
            })
