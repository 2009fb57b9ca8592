-- The byte moves on rows after their count that stand anywhere in a room: a row inserted, replaced, removed.
use Prim.Native.Nat.{ℕ, zero, suc, ◌+◌, ◌*◌, ◌-◌, ◌/◌, ◌%◌, ◌≤◌, ◌<◌}
use mathlib.Core.Path.{◌≡◌, refl, sym, ◌∙◌, ap, ap₂}
use mathlib.Core.List.{List, [], ◌∷◌, ◌++◌, append_assoc}
use native.Mathlib.Omega.{arith}
use lib.ListN.{length, take, drop, get_or, set, replicate, length-append, length-take, length-drop, length-set, length-replicate, replicate-append-replicate, take-append-drop}
use lib.Seq.{paste, take_at, drop_at, drop-drop, set_at, take-length, split_at, set_split}
use Rattle.catalogue.specs.Section.{count, flat}
use Rattle.catalogue.specs.Splice.{spliced, zeros, cut_out, counted}
use Rattle.catalogue.proofs.laws.section.Wide.{Wide, wide_take, wide_drop}
use Rattle.catalogue.proofs.laws.section.Laid.{flat_length, count_length}

pub flat_append : (xs ys : List (List ℕ)) → flat (xs ++ ys) ≡ flat xs ++ flat ys
unfolding flat
flat_append [] ys = refl
flat_append (x ∷ xs) ys = ap (λ (l : List ℕ). x ++ l) (flat_append xs ys) ∙ sym (append_assoc x (flat xs) (flat ys))

pub splice_length : (j : ℕ) (xs : List (List ℕ)) (l : List ℕ) → length (take j xs ++ l ∷ drop j xs) ≡ suc (length xs)
splice_length zero xs l = refl
splice_length (suc j) [] l = refl
splice_length (suc j) (x ∷ xs) l = ap suc (splice_length j xs l)

flat_parts : (j : ℕ) (xs : List (List ℕ)) → flat xs ≡ flat (take j xs) ++ flat (drop j xs)
flat_parts j xs = ap flat (sym (take-append-drop j xs)) ∙ flat_append (take j xs) (drop j xs)

drop_zeros : (n m : ℕ) → m ≤ n → (z : List ℕ) → drop m (replicate n 0 ++ z) ≡ replicate (n - m) 0 ++ z
drop_zeros n zero h z = let e : n ≡ n - 0 = omega arith in ap (λ (k : ℕ). replicate k 0 ++ z) e
drop_zeros zero (suc m) h z = absurd (omega arith)
drop_zeros (suc n) (suc m) h z = let e : n - m ≡ suc n - suc m = omega arith in drop_zeros n m (omega arith) z ∙ ap (λ (k : ℕ). replicate k 0 ++ z) e

-- a splice before zeros: the bytes B move up over q zeros
splice_parts : (P B s z : List ℕ) (at used q : ℕ) → length P ≡ at → at + length B ≡ used → length s ≤ q
    → spliced (P ++ (B ++ (zeros q ++ z))) at used s ≡ P ++ (s ++ (B ++ (zeros (q - length s) ++ z)))
unfolding spliced
splice_parts P B s z at used q hp hb hq =
    let Q : List ℕ = B ++ (zeros q ++ z) in
    let e1 : take at (P ++ Q) ≡ P = take_at P Q at hp in
    let e2 : drop at (P ++ Q) ≡ Q = drop_at P Q at hp in
    let e3 : take (used - at) Q ≡ B = take_at B (zeros q ++ z) (used - at) (omega arith) in
    let e4 : drop (used + length s) (P ++ Q) ≡ zeros (q - length s) ++ z =
    sym (drop-drop (length s) used (P ++ Q)) ∙ ap (drop (length s)) (ap (drop used) (sym (append_assoc P B (zeros q ++ z)))
    ∙ drop_at (P ++ B) (zeros q ++ z) used (simp length-append (omega arith))) ∙ drop_zeros q (length s) hq z in
    rw (e1, e2, e3, e4)

-- bytes written over as many
paste_parts : (A x B l : List ℕ) (at w : ℕ) → length A ≡ at → length x ≡ w → length l ≡ w → paste (A ++ (x ++ B)) at l w ≡ A ++ (l ++ B)
paste_parts A x B l at w ha hx hl =
    let e1 : take at (A ++ (x ++ B)) ≡ A = take_at A (x ++ B) at ha in
    let e2 : take w l ≡ l = ap (λ (k : ℕ). take k l) (sym hl) ∙ take-length l in
    let e3 : drop (at + w) (A ++ (x ++ B)) ≡ B = ap (drop (at + w)) (sym (append_assoc A x B)) ∙ drop_at (A ++ x) B (at + w) (simp length-append (omega arith)) in
    rw (e1, e2, e3) (append_assoc A l B)

-- w bytes x taken out before B: zeros follow B
cut_parts : (A x B T : List ℕ) (at used w : ℕ) → length A ≡ at → length x ≡ w → at + w + length B ≡ used
    → cut_out (A ++ (x ++ (B ++ T))) at used w ≡ A ++ (B ++ (zeros w ++ T))
unfolding cut_out
cut_parts A x B T at used w ha hx hu =
    let r : List ℕ = A ++ (x ++ (B ++ T)) in
    let n : ℕ = length B in
    let D : List ℕ = drop (at + n) r in
    let e0 : used - w - at ≡ n = omega arith in
    let e1 : used - w ≡ at + n = omega arith in
    let d1 : drop (at + w) r ≡ B ++ T = ap (drop (at + w)) (sym (append_assoc A x (B ++ T))) ∙ drop_at (A ++ x) (B ++ T) (at + w) (simp length-append (omega arith)) in
    let p1 : paste r at (drop (at + w) r) n ≡ (A ++ B) ++ D =
    ap₂ (λ (u v : List ℕ). (u ++ take n v) ++ D) (take_at A (x ++ (B ++ T)) at ha) d1 ∙ ap (λ (u : List ℕ). (A ++ u) ++ D) (take_at B T n refl) in
    let k : length (A ++ B) ≡ at + n = simp length-append (omega arith) in
    let t1 : take (at + n) ((A ++ B) ++ D) ≡ A ++ B = take_at (A ++ B) D (at + n) k in
    let z1 : take w (zeros w) ≡ zeros w = ap (λ (j : ℕ). take j (zeros w)) (sym (length-replicate w 0)) ∙ take-length (zeros w) in
    let j : length (A ++ (x ++ B)) ≡ at + n + w = simp length-append (omega arith) in
    let d2 : drop (at + n + w) ((A ++ B) ++ D) ≡ T =
    sym (drop-drop w (at + n) ((A ++ B) ++ D)) ∙ ap (drop w) (drop_at (A ++ B) D (at + n) k) ∙ drop-drop w (at + n) r
    ∙ ap (drop (at + n + w)) (ap (λ (u : List ℕ). A ++ u) (sym (append_assoc x B T)) ∙ sym (append_assoc A (x ++ B) T)) ∙ drop_at (A ++ (x ++ B)) T (at + n + w) j in
    rw (e0, e1, p1, t1, d2, z1) (simp append_assoc)

-- a count, written over a count
count_over : (P Q : List ℕ) (at n m : ℕ) → length P ≡ at → counted (P ++ (count n ++ Q)) at m ≡ P ++ (count m ++ Q)
unfolding counted count
count_over P Q at n m h =
    ap (λ (l : List ℕ). set l (at + 1) (m % 256)) (set_at P (n / 256) (n % 256 ∷ Q) (m / 256) at h ∙ sym (append_assoc P (m / 256 ∷ []) (n % 256 ∷ Q)))
    ∙ set_at (P ++ (m / 256 ∷ [])) (n % 256) Q (m % 256) (at + 1) (simp length-append (omega arith))
    ∙ append_assoc P (m / 256 ∷ []) (m % 256 ∷ Q)

-- a section xs after its count, between P and Q, with q zeros and z after those
unfoldable pub lay : List ℕ → List (List ℕ) → List ℕ → ℕ → List ℕ → List ℕ
lay P xs Q q z = P ++ (count (length xs) ++ (flat xs ++ (Q ++ (zeros q ++ z))))

module _ (P : List ℕ) (xs : List (List ℕ)) (Q z : List ℕ) (q w i : ℕ) (ws : Wide w xs) where
  front_long : i ≤ length xs → length (P ++ (count (length xs) ++ flat (take i xs))) ≡ length P + 2 + w * i
  front_long h =
      let e : length (flat (take i xs)) ≡ w * i = flat_length w (take i xs) (wide_take w i xs ws) ∙ ap (λ (m : ℕ). w * m) (simp length-take (omega arith)) in
      simp length-append (omega (arith, count_length (length xs)))

  rear_long : i ≤ length xs → length (flat (drop i xs)) + w * i ≡ w * length xs
  rear_long h =
      let e : length (flat (drop i xs)) ≡ w * (length xs - i) = flat_length w (drop i xs) (wide_drop w i xs ws) ∙ ap (λ (m : ℕ). w * m) (length-drop i xs) in
      let d : length xs ≡ length xs - i + i = omega arith in
      let f : w * length xs ≡ w * (length xs - i + i) = ap (λ (m : ℕ). w * m) d in
      omega arith

  -- a row goes in at i
  pub insert_row : (l : List ℕ) → length l ≡ w → i ≤ length xs → w ≤ q
      → counted (spliced (lay P xs Q q z) (length P + 2 + w * i) (length P + 2 + w * length xs + length Q) l) (length P) (suc (length xs))
      ≡ lay P (take i xs ++ l ∷ drop i xs) Q (q - w) z
  unfolding lay flat
  insert_row l hl h hq =
      let n : ℕ = length xs in
      let A : List ℕ = P ++ (count n ++ flat (take i xs)) in
      let B : List ℕ = flat (drop i xs) ++ Q in
      let T : List ℕ = B ++ (zeros (q - length l) ++ z) in
      let e1 : P ++ (count n ++ (flat xs ++ (Q ++ (zeros q ++ z)))) ≡ A ++ (B ++ (zeros q ++ z)) = rw (flat_parts i xs) (simp append_assoc) in
      let e2 : spliced (A ++ (B ++ (zeros q ++ z))) (length P + 2 + w * i) (length P + 2 + w * n + length Q) l ≡ A ++ (l ++ T) =
      splice_parts A B l z (length P + 2 + w * i) (length P + 2 + w * n + length Q) q (front_long h) (simp length-append (omega (arith, rear_long h))) (omega arith) in
      let e3 : A ++ (l ++ T) ≡ P ++ (count n ++ (flat (take i xs) ++ (l ++ T))) = simp append_assoc in
      rw (e1, e2, e3, count_over P (flat (take i xs) ++ (l ++ T)) (length P) n (suc n) refl, splice_length i xs l, flat_append (take i xs) (l ∷ drop i xs), hl) (simp append_assoc)

  -- the row at i, taken apart
  row_split : i < length xs → flat xs ≡ flat (take i xs) ++ (get_or xs i [] ++ flat (drop (suc i) xs))
  unfolding flat
  row_split h = ap flat (split_at xs i [] h) ∙ flat_append (take i xs) (get_or xs i [] ∷ drop (suc i) xs)

  row_wide : (j : ℕ) (ys : List (List ℕ)) → Wide w ys → j < length ys → length (get_or ys j []) ≡ w
  row_wide j [] v h = absurd (omega arith)
  row_wide zero (y ∷ ys) v h = v.0
  row_wide (suc j) (y ∷ ys) v h = row_wide j ys v.1 (omega arith)

  -- the row at i is replaced
  pub replace_row : (l : List ℕ) → length l ≡ w → i < length xs → paste (lay P xs Q q z) (length P + 2 + w * i) l w ≡ lay P (set xs i l) Q q z
  unfolding lay flat
  replace_row l hl h =
      let n : ℕ = length xs in
      let A : List ℕ = P ++ (count n ++ flat (take i xs)) in
      let B : List ℕ = flat (drop (suc i) xs) ++ (Q ++ (zeros q ++ z)) in
      let e1 : P ++ (count n ++ (flat xs ++ (Q ++ (zeros q ++ z)))) ≡ A ++ (get_or xs i [] ++ B) = rw (row_split h) (simp append_assoc) in
      let e2 : flat (set xs i l) ≡ flat (take i xs) ++ (l ++ flat (drop (suc i) xs)) = ap flat (set_split xs i l h) ∙ flat_append (take i xs) (l ∷ drop (suc i) xs) in
      rw (e1, paste_parts A (get_or xs i []) B l (length P + 2 + w * i) w (front_long (omega arith)) (row_wide i xs ws h) hl, e2, length-set xs i l) (simp append_assoc)

  pub rest_length : i < length xs → length (take i xs ++ drop (suc i) xs) ≡ length xs - 1
  rest_length h = simp (length-append, length-take, length-drop) (omega arith)

  -- the row at i is removed
  pub remove_row : i < length xs
      → counted (cut_out (lay P xs Q q z) (length P + 2 + w * i) (length P + 2 + w * length xs + length Q) w) (length P) (length xs - 1)
      ≡ lay P (take i xs ++ drop (suc i) xs) Q (w + q) z
  unfolding lay flat
  remove_row h =
      let n : ℕ = length xs in
      let A : List ℕ = P ++ (count n ++ flat (take i xs)) in
      let x : List ℕ = get_or xs i [] in
      let B : List ℕ = flat (drop (suc i) xs) ++ Q in
      let T : List ℕ = zeros q ++ z in
      let at : ℕ = length P + 2 + w * i in
      let used : ℕ = length P + 2 + w * n + length Q in
      let hx : length x ≡ w = row_wide i xs ws h in
      let e1 : P ++ (count n ++ (flat xs ++ (Q ++ (zeros q ++ z)))) ≡ A ++ (x ++ (B ++ T)) = rw (row_split h) (simp append_assoc) in
      let f : length (flat xs) ≡ w * n = flat_length w xs ws in
      let g : length (flat xs) ≡ length (flat (take i xs)) + (length x + length (flat (drop (suc i) xs))) = ap length (row_split h) ∙ simp length-append in
      let hf : length (flat (take i xs)) ≡ w * i = flat_length w (take i xs) (wide_take w i xs ws) ∙ ap (λ (m : ℕ). w * m) (simp length-take (omega arith)) in
      let e2 : cut_out (A ++ (x ++ (B ++ T))) at used w ≡ A ++ (B ++ (zeros w ++ T)) =
      cut_parts A x B T at used w (front_long (omega arith)) hx (simp length-append (omega arith)) in
      let e3 : A ++ (B ++ (zeros w ++ T)) ≡ P ++ (count n ++ (flat (take i xs) ++ (B ++ (zeros w ++ T)))) = simp append_assoc in
      let e4 : zeros w ++ T ≡ zeros (w + q) ++ z = sym (append_assoc (zeros w) (zeros q) z) ∙ ap (λ (u : List ℕ). u ++ z) (replicate-append-replicate w q 0) in
      rw (e1, e2, e3, count_over P (flat (take i xs) ++ (B ++ (zeros w ++ T))) (length P) n (n - 1) refl, e4, rest_length h, flat_append (take i xs) (drop (suc i) xs)) (simp append_assoc)
