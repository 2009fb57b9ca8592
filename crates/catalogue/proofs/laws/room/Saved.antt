-- Rooms saved before there were links go on.
use Prim.Native.Nat.{ℕ, ◌+◌, ◌-◌, ◌≤◌}
use mathlib.Core.Path.{◌≡◌, refl, sym, ◌∙◌, ap, subst}
use mathlib.Core.List.{List, [], ◌++◌, append_assoc, append-nil}
use native.Mathlib.Omega.{arith}
use lib.ListN.{length, replicate, length-append, replicate-append-replicate}
use Rattle.catalogue.specs.Section.{part, count, flat, laid, capacity}
use Rattle.catalogue.specs.Catalogue.{Catalogue, parts}
use Rattle.catalogue.specs.Room.{room_of, room_size, encode, contents}
use Rattle.catalogue.specs.Ordered.{Ordered}
use Rattle.catalogue.specs.Saved.{old_parts, old_size, old_room, grown, SavedRooms}
use Rattle.catalogue.proofs.laws.section.Laid.{laid_length, used_fits}
use Rattle.catalogue.proofs.laws.section.Parts.{laid_split}
use Rattle.catalogue.proofs.laws.step.Good.{Good, good_of, good_fits}
use Rattle.catalogue.proofs.laws.room.Encode.{room_size_lem, encoded_contents, encoded_ordered}

old_size_lem : old_size ≡ 46596
unfolding old_size capacity
old_size_lem = refl

zeros_join : (m n : ℕ) → replicate {A = ℕ} m 0 ++ replicate n 0 ≡ replicate (m + n) 0
zeros_join m n = replicate-append-replicate m n 0

module _ (c : Catalogue) (g : Good c) where
  -- no links add a count of zero
  laid_more : c.links ≡ [] → laid (parts c) ≡ laid (old_parts c) ++ replicate 2 0
  unfolding laid flat count
  laid_more e = laid_split (old_parts c) (part 256 64 c.links) [] ∙ rw e

  old_fits : length (laid (old_parts c)) ≤ old_size
  unfolding old_size capacity
  old_fits =
      let f = good_fits c g in
      omega (arith, laid_length (old_parts c) (f.0, (f.1.0, tt)), used_fits (old_parts c) (f.0, (f.1.0, tt)))

  pub grown_is : c.links ≡ [] → grown (old_room c) ≡ encode c
  unfolding encode old_room room_of
  grown_is e =
      let n : ℕ = length (laid (old_parts c)) in
      let m : length (laid (parts c)) ≡ n + 2 = ap length (laid_more e) ∙ length-append (laid (old_parts c)) (replicate 2 0) in
      let k : old_size - n + (room_size - old_size) ≡ 2 + (room_size - length (laid (parts c))) = omega (arith, room_size_lem, old_size_lem, old_fits) in
      append_assoc (laid (old_parts c)) (replicate (old_size - n) 0) (replicate (room_size - old_size) 0)
      ∙ ap (λ (z : List ℕ). laid (old_parts c) ++ z) (zeros_join (old_size - n) (room_size - old_size) ∙ ap (λ (j : ℕ). replicate {A = ℕ} j 0) k ∙ sym (zeros_join 2 (room_size - length (laid (parts c)))))
      ∙ sym (append_assoc (laid (old_parts c)) (replicate 2 0) (replicate (room_size - length (laid (parts c))) 0))
      ∙ ap (λ (x : List ℕ). x ++ replicate (room_size - length (laid (parts c))) 0) (sym (laid_more e))

pub saved_rooms : SavedRooms
saved_rooms c h e =
    let g = good_of c h in
    let l = grown_is c g e in
    let w : encode c ++ [] ≡ grown (old_room c) = append-nil (encode c) ∙ sym l in
    record { layout = l; ordered = subst Ordered w (encoded_ordered c g []); same = ap contents (sym w) ∙ encoded_contents c g [] }
