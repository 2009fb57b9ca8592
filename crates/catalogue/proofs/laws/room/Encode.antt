-- The room of a good catalogue has the room's size and reads back.
use Prim.Native.Nat.{ℕ, ◌+◌, ◌-◌, ◌≤◌}
use mathlib.Core.Path.{◌≡◌, refl, sym, ◌∙◌, ap, subst}
use mathlib.Core.List.{List, [], ◌++◌, append_assoc, append-nil}
use native.Mathlib.Omega.{arith}
use lib.ListN.{length, drop, replicate, length-append, length-replicate, replicate-append-replicate}
use lib.Seq.{take_at, drop_at}
use Rattle.catalogue.specs.Section.{count, flat, laid, said, capacity}
use Rattle.catalogue.specs.Catalogue.{Catalogue, empty, parts, from_parts, only_held, named}
use Rattle.catalogue.specs.Room.{room_of, room_size, encode, contents, is_in_order}
use Rattle.catalogue.specs.Ordered.{Ordered}
use Rattle.columns.proofs.laws.Bytes.{same_self}
use Rattle.catalogue.proofs.laws.section.Laid.{laid_length, used_fits, said_laid}
use Rattle.catalogue.proofs.laws.step.Good.{Good, good_back, good_fits, empty_good}

pub room_size_lem : room_size ≡ 62982
unfolding room_size capacity
room_size_lem = refl

pub laid_fits : (c : Catalogue) → Good c → length (laid (parts c)) ≤ room_size
unfolding room_size capacity
laid_fits c g = omega (arith, laid_length (parts c) (good_fits c g), used_fits (parts c) (good_fits c g))

module _ (c : Catalogue) (g : Good c) (z : List ℕ) where
  pub encode_length : length (encode c) ≡ room_size
  unfolding encode room_of
  encode_length = simp (length-append, length-replicate) (omega (arith, laid_fits c g))

  pub encoded_contents : contents (encode c ++ z) ≡ c
  unfolding encode room_of contents said
  encoded_contents =
      ap (λ (r : List ℕ). from_parts (said (parts c) r)) (append_assoc (laid (parts c)) (replicate (room_size - length (laid (parts c))) 0) z)
      ∙ ap from_parts (said_laid (parts c) (replicate (room_size - length (laid (parts c))) 0 ++ z) (good_fits c g))

  pub encoded_rest : drop room_size (encode c ++ z) ≡ z
  encoded_rest = drop_at (encode c) z room_size encode_length

-- and is in order, whatever follows it
pub encoded_ordered : (c : Catalogue) → Good c → (z : List ℕ) → Ordered (encode c ++ z)
unfolding is_in_order
encoded_ordered c g z =
    let e : contents (encode c) ≡ c = ap contents (sym (append-nil (encode c))) ∙ encoded_contents c g [] in
    record {
      long = simp length-append (omega (arith, encode_length c g z));
      fine = rw (take_at (encode c) z room_size (encode_length c g z), e, good_back c g) (same_self (encode c));
    }

-- a zeroed room is that of an empty catalogue
zeros_split : (m n : ℕ) → m ≤ n → replicate {A = ℕ} n 0 ≡ replicate m 0 ++ replicate (n - m) 0
zeros_split m n h = let e : n ≡ m + (n - m) = omega arith in ap (λ (k : ℕ). replicate {A = ℕ} k 0) e ∙ sym (replicate-append-replicate {A = ℕ} m (n - m) 0)

laid_empty : laid (parts empty) ≡ replicate 6 0
unfolding laid flat count
laid_empty = refl

pub zeroed_empty : replicate room_size 0 ≡ encode empty
unfolding encode room_of
zeroed_empty =
    zeros_split 6 room_size (omega (arith, room_size_lem)) ∙ ap (λ (q : List ℕ). q ++ replicate (room_size - length q) 0) (sym laid_empty)

-- a zeroed room is in order and names no pair
pub zeroed_ordered : Ordered (replicate 62982 0)
zeroed_ordered =
    subst (λ (n : ℕ). Ordered (replicate n 0)) room_size_lem (subst Ordered (append-nil (encode empty) ∙ sym zeroed_empty) (encoded_ordered empty empty_good []))

pub zeroed_named : named (contents (replicate 62982 0)) ≡ 0
unfolding named only_held
zeroed_named =
    ap (λ (n : ℕ). named (contents (replicate n 0))) (sym room_size_lem)
    ∙ ap (λ (r : List ℕ). named (contents r)) (zeroed_empty ∙ sym (append-nil (encode empty)))
    ∙ ap named (encoded_contents empty empty_good [])
