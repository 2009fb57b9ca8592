-- An entry put into one section of many, or taken out of it: the room of the sections with that one changed.
use Rattle.std.proofs.Common.{Result, Ok, Err}
use Prim.Native.Nat.{ℕ, suc, ◌+◌, ◌*◌, ◌-◌, ◌≤◌, ◌<◌}
use mathlib.Core.Path.{◌≡◌, refl, ◌∙◌, ap, ap₂}
use mathlib.Core.List.{List, [], ◌∷◌, ◌++◌, append_assoc}
use native.Mathlib.Omega.{arith}
use lib.ListN.{length, take, drop, set, replicate, length-append, length-set}
use lib.Seq.{paste}
use Rattle.catalogue.specs.declared.section.Section.{Section}
use Rattle.catalogue.specs.Assoc.{put, remove, AscFrom}
use Rattle.catalogue.specs.Section.{Part, part, count, flat, laid, capacity}
use Rattle.catalogue.specs.Room.{room_of}
use Rattle.catalogue.specs.Splice.{spliced, counted}
use Rattle.catalogue.specs.Entries.{Sought, RoomFor}
use Rattle.catalogue.specs.Moves.{entry_at, put_in, taken_out}
use Rattle.catalogue.proofs.laws.section.Laid.{flat_length, count_length, laid_length, used_fits}
use Rattle.catalogue.proofs.laws.section.RowMoves.{lay, insert_row, replace_row, remove_row, splice_length, rest_length}
use Rattle.catalogue.proofs.laws.section.Seek.{put_missing, put_found, remove_found}
use Rattle.catalogue.proofs.laws.section.Wide.{Wide, Fits, put_wide, remove_wide}

-- the section stands behind the front ones, with as many entries as xs and of their size
pub record Stands (of : Section) (front : List Part) (w : ℕ) (xs : List (List ℕ)) : Type 0 where
  pub at_is : of.at ≡ length (laid front)
  pub size_is : of.size ≡ w
  pub count_is : of.count ≡ length xs

pub laid_split : (front : List Part) (p : Part) (back : List Part) → laid (front ++ p ∷ back) ≡ laid front ++ (count (length p.entries) ++ (flat p.entries ++ laid back))
unfolding laid
laid_split [] p back = refl
laid_split (q ∷ front) p back =
    ap (λ (x : List ℕ). count (length q.entries) ++ (flat q.entries ++ x)) (laid_split front p back) ∙ simp append_assoc

module _ (S : ℕ) (front back : List Part) (w m : ℕ) (z : List ℕ) where
  -- the sections with these entries in their midst
  abbrev pub with : List (List ℕ) → List Part
  with xs = front ++ part w m xs ∷ back

  with_length : (xs : List (List ℕ)) → Wide w xs → length (laid (with xs)) ≡ length (laid front) + 2 + w * length xs + length (laid back)
  with_length xs h = ap length (laid_split front (part w m xs) back) ∙ simp length-append (omega (arith, count_length (length xs), flat_length w xs h))

  with_lay : (xs : List (List ℕ)) → room_of S (with xs) ++ z ≡ lay (laid front) xs (laid back) (S - length (laid (with xs))) z
  unfolding room_of lay
  with_lay xs = ap (λ (x : List ℕ). (x ++ replicate (S - length (laid (with xs))) 0) ++ z) (laid_split front (part w m xs) back) ∙ simp append_assoc

  module _ (xs : List (List ℕ)) (ws : Wide w xs) (of : Section) (at : Stands of front w xs) (used : ℕ) (us : used ≡ length (laid (with xs))) where
    entry_at_lem : (i : ℕ) → entry_at of i ≡ length (laid front) + 2 + w * i
    entry_at_lem i = ap₂ (λ (a b : ℕ). a + 2 + b * i) at.at_is at.size_is

    used_is : used ≡ length (laid front) + 2 + w * length xs + length (laid back)
    used_is = us ∙ with_length xs ws

    insert_part : (i : ℕ) (l : List ℕ) → length l ≡ w → i ≤ length xs → Wide w (take i xs ++ l ∷ drop i xs) → length (laid (with (take i xs ++ l ∷ drop i xs))) ≤ S
        → counted (spliced (room_of S (with xs) ++ z) (entry_at of i) used l) of.at (of.count + 1) ≡ room_of S (with (take i xs ++ l ∷ drop i xs)) ++ z
    insert_part i l hl hi vs fits =
        let ys : List (List ℕ) = take i xs ++ l ∷ drop i xs in
        let k : w * length ys ≡ w + w * length xs = ap (λ (x : ℕ). w * x) (splice_length i xs l) ∙ omega arith in
        let c : of.count + 1 ≡ suc (length xs) = omega (arith, at.count_is) in
        let q : S - length (laid (with ys)) ≡ S - length (laid (with xs)) - w = omega (arith, with_length ys vs, with_length xs ws) in
        rw (entry_at_lem i, used_is, at.at_is, c, with_lay xs, with_lay ys, q)
        (insert_row (laid front) xs (laid back) z (S - length (laid (with xs))) w i ws l hl hi (omega (arith, with_length ys vs, with_length xs ws)))

    replace_part : (i : ℕ) (l : List ℕ) → length l ≡ w → i < length xs → Wide w (set xs i l) → paste (room_of S (with xs) ++ z) (entry_at of i) l (length l) ≡ room_of S (with (set xs i l)) ++ z
    replace_part i l hl hi vs =
        let k : w * length (set xs i l) ≡ w * length xs = ap (λ (x : ℕ). w * x) (length-set xs i l) in
        let q : S - length (laid (with (set xs i l))) ≡ S - length (laid (with xs)) = omega (arith, with_length (set xs i l) vs, with_length xs ws) in
        rw (entry_at_lem i, with_lay xs, with_lay (set xs i l), q, hl) (replace_row (laid front) xs (laid back) z (S - length (laid (with xs))) w i ws l hl hi)

    remove_part : (i : ℕ) → i < length xs → Wide w (take i xs ++ drop (suc i) xs) → length (laid (with xs)) ≤ S → taken_out (room_of S (with xs) ++ z) of used i ≡ room_of S (with (take i xs ++ drop (suc i) xs)) ++ z
    unfolding taken_out
    remove_part i hi vs fits =
        let ys : List (List ℕ) = take i xs ++ drop (suc i) xs in
        let d : length xs ≡ suc (length ys) = omega (arith, rest_length (laid front) xs (laid back) z 0 w i ws hi) in
        let k : w * length xs ≡ w + w * length ys = ap (λ (x : ℕ). w * x) d ∙ omega arith in
        let q : S - length (laid (with ys)) ≡ w + (S - length (laid (with xs))) = omega (arith, with_length ys vs, with_length xs ws) in
        rw (entry_at_lem i, used_is, at.size_is, at.at_is, at.count_is, with_lay xs, with_lay ys, q) (remove_row (laid front) xs (laid back) z (S - length (laid (with xs))) w i ws hi)

-- ---- one section among others that fit

module _ (back : List Part) (w m : ℕ) where
  fits_wide : (front : List Part) (xs : List (List ℕ)) → Fits (front ++ part w m xs ∷ back) → Wide w xs
  fits_wide [] xs f = f.0.0
  fits_wide (q ∷ front) xs f = fits_wide front xs f.1

  fits_with : (front : List Part) (xs ys : List (List ℕ)) → Fits (front ++ part w m xs ∷ back) → Wide w ys → length ys ≤ m → Fits (front ++ part w m ys ∷ back)
  fits_with [] xs ys f h k = ((h, k), f.1)
  fits_with (q ∷ front) xs ys f h k = (f.0, fits_with front xs ys f.1 h k)

  capacity_with : (front : List Part) (xs ys : List (List ℕ)) → capacity (front ++ part w m xs ∷ back) ≡ capacity (front ++ part w m ys ∷ back)
  unfolding capacity
  capacity_with [] xs ys = refl
  capacity_with (q ∷ front) xs ys = ap (λ (n : ℕ). 2 + q.size * q.most + n) (capacity_with front xs ys)

module _ (S : ℕ) (front back : List Part) (w m : ℕ) (z : List ℕ) (xs : List (List ℕ)) (fits : Fits (with S front back w m z xs)) (room : capacity (with S front back w m z xs) ≤ S)
    (of : Section) (at : Stands of front w xs) (used : ℕ) (us : used ≡ length (laid (with S front back w m z xs))) (f : List ℕ → ℕ) (asc : AscFrom f 0 xs) where
  ws : Wide w xs
  ws = fits_wide back w m front xs fits

  laid_within : (ys : List (List ℕ)) → Wide w ys → length ys ≤ m → length (laid (with S front back w m z ys)) ≤ S
  laid_within ys h k =
      let g = fits_with back w m front xs ys fits h k in
      omega (arith, laid_length (with S front back w m z ys) g, used_fits (with S front back w m z ys) g, capacity_with back w m front xs ys)

  -- an entry is put where the search says; where it is new there is room for it
  pub put_section : (l : List ℕ) → length l ≡ w → length (put f l xs) ≤ m → (s : Result ℕ ℕ) → Sought f (f l) xs s → {n : ℕ} → S ≤ n
      → (put_in (room_of S (with S front back w m z xs) ++ z) of used s l ≡ room_of S (with S front back w m z (put f l xs)) ++ z) × RoomFor s (used + length l) n
  unfolding put_in
  put_section l hl few (Err i) s long =
      let p = put_missing f l xs i asc s in
      let ys : List (List ℕ) = take i xs ++ l ∷ drop i xs in
      let vs : Wide w ys = rw p.0 at (put_wide f w l xs hl ws) in
      let within : length (laid (with S front back w m z ys)) ≤ S = laid_within ys vs (rw p.0 at few) in
      let k : w * length ys ≡ w + w * length xs = ap (λ (x : ℕ). w * x) (splice_length i xs l) ∙ omega arith in (
        rw p.0 (insert_part S front back w m z xs ws of at used us i l hl p.1 vs within),
        omega (arith, with_length S front back w m z ys vs, with_length S front back w m z xs ws),
      )
  put_section l hl few (Ok i) s long =
      let p : put f l xs ≡ set xs i l = put_found f l xs i s in (
        rw p (replace_part S front back w m z xs ws of at used us i l hl s.1 (rw p at (put_wide f w l xs hl ws))),
        tt,
      )

  -- the entry that was found is taken out
  pub cut_section : (k i : ℕ) → Sought f k xs (Ok i) → taken_out (room_of S (with S front back w m z xs) ++ z) of used i ≡ room_of S (with S front back w m z (remove f k xs)) ++ z
  cut_section k i s =
      let p : remove f k xs ≡ take i xs ++ drop (suc i) xs = remove_found f k xs asc i s in
      let g : length (laid (with S front back w m z xs)) ≤ S = omega (arith, laid_length (with S front back w m z xs) fits, used_fits (with S front back w m z xs) fits) in
      rw p (remove_part S front back w m z xs ws of at used us i s.1 (rw p at (remove_wide f w k xs ws)) g)
