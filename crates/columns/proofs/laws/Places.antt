-- Laws of a list over some places of another: in the record that is read and in the line that is written.
use mathlib.Core.Path.{◌≡◌, refl, sym, ap, ◌∙◌}
use mathlib.Core.List.{List, [], ◌∷◌, ◌++◌, append_assoc}
use Prim.Native.Nat.{ℕ, ◌+◌, ◌≤◌, ◌<◌, ◌-◌}
use native.Mathlib.Omega.{arith}
use lib.ListN.{length, take, drop, set, length-append, length-drop, take-append-drop, length-set}
use native.Mathlib.Numerals.{add-one}
use lib.Seq.{take_at, drop_at, length-take-le, drop-drop, set_split}
use borrow.Rule.Slice.PartMut.{put_mid, mid_of, mid_len}
use Rattle.columns.specs.Table.{placed, over}
use Rattle.columns.proofs.laws.Answers.{over_whole}

module _ {A : Type 0} where
  pub placed_none : (k : ℕ) (l : List A) → l ≡ placed k [] l
  placed_none k l = sym (take-append-drop k l)

  head_length : (k : ℕ) (xs l : List A) → k + length xs ≤ length l → length (take k l ++ xs) ≡ k + length xs
  head_length k xs l h = length-append (take k l) xs ∙ rw (length-take-le k l (omega arith))

  -- what comes before, and what comes after
  pub placed_split : (k n : ℕ) (xs l : List A) → n ≡ k + length xs → placed k xs l ≡ (take k l ++ xs) ++ drop n l
  placed_split k n xs l e = rw (drop-drop (length xs) k l, ← e) (sym (append_assoc (take k l) xs (drop n l)))

  pub placed_length : (k : ℕ) (xs l : List A) → k + length xs ≤ length l → length (placed k xs l) ≡ length l
  placed_length k xs l h =
      ap length (placed_split k (k + length xs) xs l refl)
      ∙ length-append (take k l ++ xs) (drop (k + length xs) l)
      ∙ rw (head_length k xs l h, length-drop (k + length xs) l) (omega arith)

  pub placed_placed : (k n : ℕ) (xs ys l : List A) → n ≡ k + length xs → n + length ys ≤ length l → placed n ys (placed k xs l) ≡ placed k (xs ++ ys) l
  placed_placed k n xs ys l e h =
      let b : length (take k l ++ xs) ≡ n = head_length k xs l (omega arith) ∙ sym e in
      let z : k + length (xs ++ ys) ≡ n + length ys = omega (arith, length-append xs ys) in
      rw (placed_split k n xs l e, take_at (take k l ++ xs) (drop n l) n b, drop_at (take k l ++ xs) (drop n l) n b, drop-drop (length ys) n l, drop-drop (length (xs ++ ys)) k l, z, append_assoc, append_assoc)

  pub placed_take : (k n : ℕ) (xs l : List A) → n ≡ k + length xs → n ≤ length l → take n (placed k xs l) ≡ take k l ++ xs
  placed_take k n xs l e h =
      ap (take n) (placed_split k n xs l e) ∙ take_at (take k l ++ xs) (drop n l) n (head_length k xs l (omega arith) ∙ sym e)

  pub set_placed : (k : ℕ) (l : List A) (x : A) → k < length l → set l k x ≡ placed k (x ∷ []) l
  set_placed k l x h = set_split l k x h ∙ rw (drop-drop 1 k l, add-one)

  pub three_placed : (k : ℕ) (l : List A) (x y z : A) → k + 3 ≤ length l → set (set (set l k x) (k + 1) y) (k + 2) z ≡ placed k (x ∷ y ∷ z ∷ []) l
  three_placed k l x y z h =
      let a : set l k x ≡ placed k (x ∷ []) l = set_placed k l x (omega arith) in
      let b : set (set l k x) (k + 1) y ≡ placed k (x ∷ y ∷ []) l =
      set_placed (k + 1) (set l k x) y (omega (arith, length-set l k x)) ∙ ap (placed (k + 1) (y ∷ [])) a ∙ placed_placed k (k + 1) (x ∷ []) (y ∷ []) l refl (omega arith) in
      set_placed (k + 2) (set (set l k x) (k + 1) y) z (omega (arith, length-set (set l k x) (k + 1) y, length-set l k x))
      ∙ ap (placed (k + 2) (z ∷ [])) b
      ∙ placed_placed k (k + 2) (x ∷ y ∷ []) (z ∷ []) l refl (omega arith)

  -- more at the end of what stands over the first places
  pub part_over : (xs ys l out : List A) (at : ℕ) → out ≡ over xs l → at ≡ length xs → at + length ys ≤ length l → placed at ys out ≡ over (xs ++ ys) l
  part_over xs ys l out at e n h =
      let z : at ≡ 0 + length xs = omega arith in
      ap (placed at ys) e ∙ placed_placed 0 at xs ys l z h

  pub set_over : (xs l out : List A) (x : A) (i : ℕ) → length xs ≡ i → i < length l → out ≡ over xs l → set out i x ≡ over (xs ++ x ∷ []) l
  set_over xs l out x i n h e =
      let k : length out ≡ length l = ap length e ∙ placed_length 0 xs l (omega arith) in
      set_placed i out x (omega arith) ∙ part_over xs (x ∷ []) l out i e (sym n) (omega arith)

-- a part of a lent list, written over as a whole
pub part_placed : (k e : ℕ) (ys l : List ℕ) → e ≡ k + length ys → put_mid k (e - k) l ys ≡ placed k ys l
part_placed k e ys l h = let z : e - k ≡ length ys = omega arith in rw z

pub chars_placed : (k e : ℕ) (s l ys : List ℕ) → e ≡ k + length s → e ≤ length l → ys ≡ over s (mid_of k (e - k) l) → put_mid k (e - k) l ys ≡ placed k s l
chars_placed k e s l ys h f q =
    let m : length s ≡ length (mid_of k (e - k) l) = sym (mid_len k e l f ∙ omega arith) in
    ap (put_mid k (e - k) l) (q ∙ over_whole s (mid_of k (e - k) l) m) ∙ part_placed k e s l h
