-- A link in a room in order: its bytes, what is found and decided of its triple, and its entry stored.
use Rattle.std.proofs.Common.{Result}
use Prim.Native.Nat.{ℕ, suc, ◌+◌, ◌*◌, ◌-◌, ◌≤◌}
use mathlib.Core.Path.{◌≡◌, refl, sym, ◌∙◌, ap, ap₂, subst}
use mathlib.Core.List.{List, [], ◌∷◌}
use mathlib.Core.Bool.{true}
use mathlib.Core.Option.{Option}
use native.Mathlib.Omega.{arith}
use lib.ListN.{length, drop, set, replicate, length-replicate, replicate-append-replicate}
use lib.Seq.{paste, get_or-drop, take-length, drop_at}
use Rattle.catalogue.specs.declared.section.Section.{Section}
use Rattle.catalogue.specs.Answers.{Deed}
use Rattle.catalogue.specs.declared.Effect.{Effect}
use Rattle.catalogue.specs.declared.decide.Deed.TheVariants.{Leave, Hold, Note, Wipe, Link}
use Rattle.catalogue.specs.Assoc.{find, AscFrom}
use Rattle.catalogue.specs.Line.{link, kind, triple_key, wide_version, link_entry, link_key, link_version}
use Rattle.catalogue.specs.Section.{part}
use Rattle.catalogue.specs.Taking.{over_link, limited_link, link_deed, deed_of, done}
use Rattle.catalogue.specs.Room.{room_size, encode, contents, room_after}
use Rattle.catalogue.specs.Ordered.{Ordered}
use Rattle.catalogue.specs.Keys.{two, key_in}
use Rattle.catalogue.specs.Entries.{entries_of, key_of_entry, entry_of, Inside, Sought, IsPlaceOf, RoomFor}
use Rattle.catalogue.specs.Moves.{put_in}
use Rattle.catalogue.specs.Places.{end_of, links_in}
use Rattle.catalogue.proofs.laws.section.Parts.{put_section}
use Rattle.catalogue.proofs.laws.section.Seek.{sought_find, sought_as}
use Rattle.catalogue.proofs.laws.step.Link.{link_whole, entry_length, entry_key}
use Rattle.catalogue.proofs.laws.step.Fair.{Fair, deed_fair}
use Rattle.catalogue.proofs.laws.step.Decide.{deed_link}
use Rattle.catalogue.proofs.laws.room.View.{view, view_good}
use Rattle.catalogue.proofs.laws.room.Places.{link_key_lem, link_entries, link_count, few as few_entries, used_is, link_stands, link_inside, link_asc}
use Rattle.catalogue.proofs.laws.room.Found.{sought_place}
use Rattle.catalogue.proofs.laws.room.Carry.{PutAsks, room_capacity, fits, left, done_room, done_fits}

abbrev pub NotLink : Deed → Type 0
NotLink (Leave n) = Unit {0}
NotLink (Hold n) = Unit {0}
NotLink (Note v) = Unit {0}
NotLink (Wipe v) = Unit {0}
NotLink (Link n) = ⊥

pub not_link : (e : Deed) → ((n : Effect) → e ≡ Link n → ⊥) → NotLink e
not_link (Leave n) h = tt
not_link (Hold n) h = tt
not_link (Note v) h = tt
not_link (Wipe v) h = tt
not_link (Link n) h = h n refl

-- ---- an entry's bytes

zeros_drop : (m n : ℕ) → drop m (replicate {A = ℕ} (m + n) 0) ≡ replicate n 0
zeros_drop m n = ap (drop m) (sym (replicate-append-replicate {A = ℕ} m n 0)) ∙ drop_at (replicate m 0) (replicate n 0) m (length-replicate m 0)

pub entry_made : (l : List ℕ) → length l ≤ 255 → paste (set (replicate 256 0) 0 (length l)) 1 l (length l) ≡ link_entry l
unfolding link_entry
entry_made l h =
    let e : 255 ≡ length l + (255 - length l) = omega arith in
    let z : drop (length l) (replicate {A = ℕ} 255 0) ≡ replicate (255 - length l) 0 = ap (λ (k : ℕ). drop (length l) (replicate {A = ℕ} k 0)) e ∙ zeros_drop (length l) (255 - length l) in
    let m : 1 + length l ≡ suc (length l) = omega arith in
    rw (m, take-length l, z)

-- the two bytes of its version
pub version_at : (e : List ℕ) → two e 13 ≡ link_version e
unfolding link_version wide_version
version_at e = sym (ap₂ (λ (x y : ℕ). x * 256 + y) (get_or-drop 1 e 12 0) (get_or-drop 1 e 13 0))

-- ---- a room in order

module _ {r : List ℕ} (o : Ordered r) where
  module _ {s : Section} (e : s ≡ links_in r) where
    pub links_open : Inside s r × AscFrom (key_of_entry s) 0 (entries_of s r)
    links_open = rw e (link_inside r o, link_asc r o)

    link_rows : entries_of s r ≡ (contents r).links
    link_rows = ap (λ (y : Section). entries_of y r) e ∙ link_entries r o

    module _ (l : List ℕ) (k : kind l ≡ link) where
      -- the key of the line's entry, as the code reads it
      pub line_key : {x : List ℕ} → x ≡ link_entry l → {n : ℕ} → n ≡ key_in true 11 3 x → n ≡ triple_key l
      unfolding key_of_entry
      line_key {x} p q = q ∙ ap (key_in true 11 3) p ∙ ap (λ (f : List ℕ → ℕ). f (link_entry l)) (link_key_lem r) ∙ entry_key l (link_whole l k)

      pub link_sought : {n : ℕ} → n ≡ triple_key l → (x : Result ℕ ℕ) → Sought (key_of_entry s) n (entries_of s r) x → Sought link_key (triple_key l) (contents r).links x
      link_sought {n} p x h = sought_as (key_of_entry s) link_key n (triple_key l) (entries_of s r) (contents r).links x (ap key_of_entry e ∙ link_key_lem r) p link_rows h

      pub link_place : (x : Result ℕ ℕ) → Sought link_key (triple_key l) (contents r).links x → IsPlaceOf x s.count
      link_place x h = subst (IsPlaceOf x) (sym (ap (λ (y : Section). y.count) e ∙ link_count r o)) (sought_place link_key (triple_key l) (contents r).links x h)

      -- the code's decision is the definition's
      pub link_decided : (x : Result ℕ ℕ) → Sought link_key (triple_key l) (contents r).links x → {y : List ℕ} → y ≡ link_entry l → {d g : Deed} → d ≡ over_link y (entry_of (entries_of s r) x)
          → g ≡ limited_link s.count (entry_of (entries_of s r) x) d → g ≡ deed_of (contents r) l
      unfolding link_deed
      link_decided x h p q w =
          let f : find link_key (triple_key l) (contents r).links ≡ entry_of (entries_of s r) x =
          sought_find link_key (triple_key l) (contents r).links (view_good r o).link_ascends x h ∙ ap (λ (xs : List (List ℕ)). entry_of xs x) (sym link_rows) in
          let n : s.count ≡ length (contents r).links = ap (λ (y : Section). y.count) e ∙ link_count r o in
          let y : Option (List ℕ) = entry_of (entries_of s r) x in
          w ∙ ap (limited_link s.count y) (q ∙ ap (λ (z : List ℕ). over_link z y) p) ∙ ap (λ (k : ℕ). limited_link k y (over_link (link_entry l) y)) n
          ∙ sym (deed_link (contents r) l k ∙ ap (λ (o : Option (List ℕ)). limited_link (length (contents r).links) o (over_link (link_entry l) o)) f)

  -- an entry put among the links
  module _ (l : List ℕ) (k : kind l ≡ link) (s : Result ℕ ℕ) (h : Sought link_key (triple_key l) (contents r).links s) {n : Effect} (p : deed_of (contents r) l ≡ Link n) where
    at_key : Sought link_key (link_key (link_entry l)) (contents r).links s
    at_key = rw (entry_key l (link_whole l k)) h

    link_put : (put_in r (links_in r) (end_of (links_in r)) s (link_entry l) ≡ room_after r l) × RoomFor s (end_of (links_in r) + length (link_entry l)) (length r)
    unfolding encode done
    link_put =
        let t = put_section room_size (part 80 512 (contents r).held ∷ part 11 512 (contents r).deletions ∷ []) [] 256 64 (drop room_size r) (contents r).links (fits o) (room_capacity (contents r))
        (links_in r) (link_stands r o) (end_of (links_in r)) (used_is r o) link_key (view_good r o).link_ascends (link_entry l) (entry_length l (link_whole l k)) (done_fits o l (Link n) p).1.1.0.1 s at_key o.long in
        (ap (λ (x : List ℕ). put_in x (links_in r) (end_of (links_in r)) s (link_entry l)) (view r o) ∙ t.0 ∙ done_room o l (Link n) p, t.1)

    module _ {of : Section} (e : of ≡ links_in r) {used : ℕ} (u : used ≡ end_of of) {x : List ℕ} (w : x ≡ link_entry l) where
      pub store_asks : PutAsks r of used s x
      store_asks =
          rw (u, w, e) (
            link_inside r o,
            omega arith,
            link_put.1,
            omega (arith, (few_entries r o).2),
            entry_length l (link_whole l k),
            rw (link_stands r o).count_is (sought_place link_key (triple_key l) (contents r).links s h),
          )

      pub store_room : put_in r of used s x ≡ room_after r l
      store_room = rw (u, w, e) link_put.0

  -- a link that is not stored changes nothing
  pub link_left : (l : List ℕ) → kind l ≡ link → (e : Deed) → deed_of (contents r) l ≡ e → NotLink e → r ≡ room_after r l
  link_left l k (Leave n) p f = left o l p
  link_left l k (Hold n) p f = let q = (subst (Fair (contents r) l) p (deed_fair (contents r) l)).is_event_lem in let z : ◌≡◌ {A = ℕ} 0 1 = cc in absurd (omega arith)
  link_left l k (Note v) p f = absurd ((subst (Fair (contents r) l) p (deed_fair (contents r) l)).about_pair k)
  link_left l k (Wipe v) p f = absurd ((subst (Fair (contents r) l) p (deed_fair (contents r) l)).about_pair k)
  link_left l k (Link n) p f = absurd f
