-- Sections laid out and read back: neither direction knows how many there are.
use Prim.Native.Nat.{ℕ, zero, suc, ◌+◌, ◌*◌, ◌-◌, ◌/◌, ◌%◌, ◌≤◌, ◌<◌}
use mathlib.Core.Path.{◌≡◌, refl, sym, ◌∙◌, ap, ap₂}
use mathlib.Core.List.{List, [], ◌∷◌, ◌++◌, append_assoc}
use native.Mathlib.Omega.{arith}
use native.Mathlib.Nat.{mul-le-mul_left}
use lib.ListN.{length, take, drop, get_or, length-append, length-drop, take-append-drop}
use lib.Seq.{take_at, drop_at, drop-drop, get_or-drop}
use Rattle.catalogue.specs.Section.{Part, part, count, number, flat, rows, laid, said, capacity}
use Rattle.catalogue.specs.Keys.{two}
use Rattle.catalogue.proofs.laws.section.Wide.{Wide, Fits}
use Rattle.catalogue.proofs.laws.section.Rows.{rows_length}

-- ---- rows and counts

pub flat_length : (w : ℕ) (xs : List (List ℕ)) → Wide w xs → length (flat xs) ≡ w * length xs
unfolding flat
flat_length w [] h = omega arith
flat_length w (x ∷ xs) h = simp length-append (omega (arith, h.0, flat_length w xs h.1))

rows_flat : (w : ℕ) (xs : List (List ℕ)) (r : List ℕ) → Wide w xs → rows (length xs) w (flat xs ++ r) ≡ xs
unfolding flat rows
rows_flat w [] r h = refl
rows_flat w (x ∷ xs) r h =
    simp (append_assoc, take_at x (flat xs ++ r) w h.0, drop_at x (flat xs ++ r) w h.0, rows_flat w xs r h.1)

flat_rows : (n w : ℕ) (x : List ℕ) → w * n ≤ length x → flat (rows n w x) ++ drop (w * n) x ≡ x
unfolding rows flat
flat_rows zero w x h = let e : w * 0 ≡ 0 = omega arith in ap (λ (k : ℕ). drop k x) e
flat_rows (suc n) w x h =
    let e : w * suc n ≡ w + w * n = omega arith in
    append_assoc (take w x) (flat (rows n w (drop w x))) (drop (w * suc n) x)
    ∙ ap (λ (t : List ℕ). take w x ++ (flat (rows n w (drop w x)) ++ t)) (ap (λ (k : ℕ). drop k x) e ∙ sym (drop-drop (w * n) w x))
    ∙ ap (λ (t : List ℕ). take w x ++ t) (flat_rows n w (drop w x) (simp length-drop (omega arith)))
    ∙ take-append-drop w x

pub count_length : (n : ℕ) → length (count n) ≡ 2
unfolding count
count_length n = refl

number_count : (n : ℕ) (r : List ℕ) → number (count n ++ r) ≡ n
unfolding number count
number_count n r = omega arith

drop_count : (n : ℕ) (r : List ℕ) → drop 2 (count n ++ r) ≡ r
unfolding count
drop_count n r = refl

count_number : (x : List ℕ) → 2 ≤ length x → get_or x 1 0 < 256 → count (number x) ++ drop 2 x ≡ x
unfolding count number
count_number [] h b = absurd (omega arith)
count_number (p ∷ []) h b = absurd (omega arith)
count_number (p ∷ q ∷ x) h b =
    let e : (p * 256 + q) / 256 ≡ p = omega arith in
    let f : (p * 256 + q) % 256 ≡ q = omega arith in
    ap₂ (λ (u v : ℕ). u ∷ v ∷ x) e f

-- the count at a place
pub number_at : (r : List ℕ) (at : ℕ) → number (drop at r) ≡ two r at
unfolding number
number_at r at = let e : at + 0 ≡ at = omega arith in ap₂ (λ (u v : ℕ). u * 256 + v) (get_or-drop at r 0 0 ∙ ap (λ (k : ℕ). get_or r k 0) e) (get_or-drop at r 1 0)

-- ---- sections

-- the bytes that sections take
abbrev pub used : List Part → ℕ
used [] = 0
used (p ∷ ps) = 2 + p.size * length p.entries + used ps

pub laid_length : (ps : List Part) → Fits ps → length (laid ps) ≡ used ps
unfolding laid
laid_length [] f = refl
laid_length (p ∷ ps) f = simp length-append (omega (arith, count_length (length p.entries), flat_length p.size p.entries f.0.0, laid_length ps f.1))

pub used_fits : (ps : List Part) → Fits ps → used ps ≤ capacity ps
unfolding capacity
used_fits [] f = omega arith
used_fits (p ∷ ps) f = omega (arith, mul-le-mul_left p.size f.0.1, used_fits ps f.1)

-- what is laid out reads back, whatever follows it
pub said_laid : (ps : List Part) (z : List ℕ) → Fits ps → said ps (laid ps ++ z) ≡ ps
unfolding said laid
said_laid [] z f = refl
said_laid (p ∷ ps) z f =
    let n : ℕ = length p.entries in
    let rest : List ℕ = flat p.entries ++ (laid ps ++ z) in
    let e : (count n ++ (flat p.entries ++ laid ps)) ++ z ≡ count n ++ rest = simp append_assoc in
    let d : drop (2 + p.size * n) (count n ++ rest) ≡ laid ps ++ z =
    sym (drop-drop (p.size * n) 2 (count n ++ rest)) ∙ ap (drop (p.size * n)) (drop_count n rest) ∙ drop_at (flat p.entries) (laid ps ++ z) (p.size * n) (flat_length p.size p.entries f.0.0) in
    ap (λ (r : List ℕ). part p.size p.most (rows (number r) p.size (drop 2 r)) ∷ said ps (drop (2 + p.size * number r) r)) e
    ∙ ap (λ (k : ℕ). part p.size p.most (rows k p.size (drop 2 (count n ++ rest))) ∷ said ps (drop (2 + p.size * k) (count n ++ rest))) (number_count n rest)
    ∙ ap₂ (λ (x : List ℕ) (y : List ℕ). part p.size p.most (rows n p.size x) ∷ said ps y) (drop_count n rest) d
    ∙ ap₂ (λ (xs : List (List ℕ)) (qs : List Part). part p.size p.most xs ∷ qs) (rows_flat p.size p.entries (laid ps ++ z) f.0.0) (said_laid ps z f.1)

-- bytes that hold all that they say are the layout of it, and the rest
pub laid_said : (ps : List Part) (r : List ℕ) → ((i : ℕ) → get_or r i 0 < 256) → used (said ps r) ≤ length r → laid (said ps r) ++ drop (used (said ps r)) r ≡ r
unfolding said laid
laid_said [] r small f = refl
laid_said (p ∷ ps) r small f =
    let n : ℕ = number r in
    let xs : List (List ℕ) = rows n p.size (drop 2 r) in
    let q : List ℕ = drop (2 + p.size * n) r in
    let m : length xs ≡ n = rows_length n p.size (drop 2 r) in
    let k : p.size * length xs ≡ p.size * n = ap (λ (u : ℕ). p.size * u) m in
    let l : length q ≡ length r - (2 + p.size * n) = length-drop (2 + p.size * n) r in
    let tail : laid (said ps q) ++ drop (used (said ps q)) q ≡ q =
    laid_said ps q (λ (i : ℕ). rw (get_or-drop (2 + p.size * n) r i 0) (small (2 + p.size * n + i))) (omega arith) in
    let d : drop (2 + p.size * length xs + used (said ps q)) r ≡ drop (used (said ps q)) q =
    ap (λ (u : ℕ). drop (2 + u + used (said ps q)) r) k ∙ sym (drop-drop (used (said ps q)) (2 + p.size * n) r) in
    let h : length (drop 2 r) ≡ length r - 2 = length-drop 2 r in
    ap₂ (λ (a : ℕ) (t : List ℕ). (count a ++ (flat xs ++ laid (said ps q))) ++ t) m d
    ∙ simp append_assoc
    (ap (λ (t : List ℕ). count n ++ (flat xs ++ t)) (tail ∙ sym (drop-drop (p.size * n) 2 r))
    ∙ ap (λ (t : List ℕ). count n ++ t) (flat_rows n p.size (drop 2 r) (omega arith))
    ∙ count_number r (omega arith) (small 1))

-- the sections from a place on, the first by its count
pub said_next : (p : Part) (ps : List Part) (r : List ℕ) (at n : ℕ) → n ≡ two r at
    → said (p ∷ ps) (drop at r) ≡ part p.size p.most (rows n p.size (drop (at + 2) r)) ∷ said ps (drop (at + 2 + p.size * n) r)
unfolding said
said_next p ps r at n h =
    let e : number (drop at r) ≡ n = number_at r at ∙ sym h in
    let f : at + (2 + p.size * n) ≡ at + 2 + p.size * n = omega arith in
    ap (λ (k : ℕ). part p.size p.most (rows k p.size (drop 2 (drop at r))) ∷ said ps (drop (2 + p.size * k) (drop at r))) e
    ∙ ap₂ (λ (x y : List ℕ). part p.size p.most (rows n p.size x) ∷ said ps y) (drop-drop 2 at r) (drop-drop (2 + p.size * n) at r ∙ ap (λ (k : ℕ). drop k r) f)
