-- The type of a link, read byte by byte up to the first blank and filled with zeros.
use Prim.Native.Nat.{ℕ, zero, suc, ◌+◌, ◌-◌, ◌≤◌, ◌<◌}
use mathlib.Core.Path.{◌≡◌, refl, sym, ◌∙◌, ap, ap₂}
use mathlib.Core.Logic.{inl, inr}
use mathlib.Core.Bool.{false}
use mathlib.Core.List.{List, [], ◌∷◌, ◌++◌, append_assoc, append-nil}
use native.Mathlib.Numerals.{add-one}
use native.Mathlib.Omega.{arith}
use lib.ListN.{length, take, drop, get_or, set, replicate, length-append, length-take, length-replicate}
use lib.Seq.{take-suc, take_at, drop_at, drop-cons, set_at, length-take-le}
use Rattle.columns.proofs.laws.Clear.{Clear, allowed_bounds}
use Rattle.formats.specs.Link.{word}
use Rattle.formats.proofs.laws.Lines.{upto_nil, upto_stop, upto_more, upto_short}
use Rattle.columns.proofs.laws.Word.{Bytes, clear_bytes, word_inj, Before, byte_order}
use Rattle.catalogue.specs.Line.{type_at, filled, key_of}
use Rattle.columns.proofs.laws.Clear as clear

-- ---- a type is at most 16 bytes

pub type_short : (at : ℕ) (s : List ℕ) → length (type_at at s) ≤ 16
unfolding type_at
type_short at s = omega (arith, upto_short 32 (take 16 (drop at s)), length-take 16 (drop at s))

pub filled_length : (t : List ℕ) → length t ≤ 16 → length (filled t) ≡ 16
unfolding filled
filled_length t h = simp (length-append, length-replicate) (omega arith)

-- ---- read byte by byte

-- the first i of d's 16 bytes are no blanks, and stand in the array
pub record Typing (d bytes : List ℕ) (i : ℕ) : Type 0 where
  pub within : i ≤ 16
  pub bytes_are : bytes ≡ filled (take i d)
  pub word_is : word (take 16 d) ≡ take i d ++ word (take (16 - i) (drop i d))

pub typing_starts : (d : List ℕ) → Typing d (replicate 16 0) 0
unfolding filled
typing_starts d = record { within = omega arith; bytes_are = refl; word_is = refl }

module _ {d bytes : List ℕ} {i : ℕ} (long : 16 ≤ length d) (T : Typing d bytes i) where
  pub typing_long : length bytes ≡ 16
  typing_long = ap length T.bytes_are ∙ filled_length (take i d) (omega (arith, length-take i d, T.within))

  module _ (h : i < 16) where
    rest_is : take (16 - i) (drop i d) ≡ get_or d i 0 ∷ take (16 - (i + 1)) (drop (i + 1) d)
    rest_is =
        let e : 16 - i ≡ suc (16 - (i + 1)) = omega arith in
        rw (e, drop-cons d i 0 (omega arith), add-one)

    pub typing_turns : {b : ℕ} → b ≡ get_or d i 0 → (b ≡ 32 → ⊥) → Typing d (set bytes i b) (i + 1)
    unfolding filled
    typing_turns {b} e n =
        let w : length (take i d) ≡ i = length-take-le i d (omega arith) in
        let z : 16 - i ≡ suc (16 - (i + 1)) = omega arith in
        let more : take (i + 1) d ≡ take i d ++ b ∷ [] = rw (add-one, e) (take-suc d i 0 (omega arith)) in
        record {
          within = omega arith;
          bytes_are = rw (T.bytes_are, more, w, z, set_at (take i d) 0 (replicate (16 - (i + 1)) 0) b i w, append_assoc, length-append, w);
          word_is = rw (more, append_assoc) (T.word_is ∙ ap (λ (l : List ℕ). take i d ++ l) (ap word rest_is ∙ rw (← e) (upto_more 32 b (take (16 - (i + 1)) (drop (i + 1) d)) n)));
        }

    pub typing_stops : {b : ℕ} → b ≡ get_or d i 0 → b ≡ 32 → bytes ≡ filled (word (take 16 d))
    typing_stops {b} e n =
        T.bytes_are
        ∙ ap filled (sym (T.word_is ∙ ap (λ (l : List ℕ). take i d ++ l) (ap word rest_is ∙ upto_stop 32 (get_or d i 0) (take (16 - (i + 1)) (drop (i + 1) d)) (sym e ∙ n)) ∙ append-nil (take i d)))

  pub typing_ends : 16 ≤ i → bytes ≡ filled (word (take 16 d))
  typing_ends h =
      let e : 16 - i ≡ 0 = omega arith in
      T.bytes_are ∙ ap filled (sym (T.word_is ∙ rw (e, upto_nil 32) (append-nil (take i d))))

-- ---- a key determines its pair and its type

zero_bytes : (n : ℕ) → Bytes (replicate n 0)
zero_bytes zero = tt
zero_bytes (suc n) = (omega arith, zero_bytes n)

pub bytes_append : (xs ys : List ℕ) → Bytes xs → Bytes ys → Bytes (xs ++ ys)
bytes_append [] ys h k = k
bytes_append (x ∷ xs) ys h k = (h.0, bytes_append xs ys h.1 k)

-- text, zeros after it: where the zeros begin the text ends
unfilled : (t u : List ℕ) (m n : ℕ) → Clear false t → Clear false u → t ++ replicate m 0 ≡ u ++ replicate n 0 → t ≡ u
unfilled t u m n clear.none clear.none e = refl
unfilled t u zero n clear.none (clear.more {b} {s} p q) e = let z : ◌≡◌ {A = ℕ} 0 1 = cc in absurd (omega arith)
unfilled t u (suc m) n clear.none (clear.more {b} {s} p q) e = let z : 0 ≡ b = cc in absurd (omega (arith, (allowed_bounds false b p).0))
unfilled t u m zero (clear.more {b} {s} p q) clear.none e = let z : ◌≡◌ {A = ℕ} 0 1 = cc in absurd (omega arith)
unfilled t u m (suc n) (clear.more {b} {s} p q) clear.none e = let z : 0 ≡ b = cc in absurd (omega (arith, (allowed_bounds false b p).0))
unfilled t u m n (clear.more {b} {s} p q) (clear.more {b = c} {s = r} x y) e =
    let h : b ≡ c = cc in
    let k : s ++ replicate m 0 ≡ r ++ replicate n 0 = cc in
    ap₂ (λ (a : ℕ) (l : List ℕ). a ∷ l) h (unfilled s r m n q y k)

filled_bytes : (t : List ℕ) → Clear false t → Bytes (filled t)
unfolding filled
filled_bytes t T = bytes_append t (replicate (16 - length t) 0) (clear_bytes T) (zero_bytes (16 - length t))

filled_same : (t u : List ℕ) → Clear false t → Clear false u → filled t ≡ filled u → t ≡ u
unfolding filled
filled_same t u T U e = unfilled t u (16 - length t) (16 - length u) T U e

module _ (p q t u : List ℕ) (n : length p ≡ length q) (f : length t ≤ 16) (g : length u ≤ 16) (P : Bytes p) (Q : Bytes q) (T : Clear false t) (U : Clear false u) where
  pub key_parts : key_of p t ≡ key_of q u → (p ≡ q) × (t ≡ u)
  unfolding key_of
  key_parts e =
      let m : length (p ++ filled t) ≡ length (q ++ filled u) = simp length-append (omega (arith, filled_length t f, filled_length u g)) in
      let w : p ++ filled t ≡ q ++ filled u = (word_inj (p ++ filled t) (q ++ filled u) 0 0 m (bytes_append p (filled t) P (filled_bytes t T)) (bytes_append q (filled u) Q (filled_bytes u U)) e).1 in
      let x : p ≡ q = sym (take_at p (filled t) (length p) refl) ∙ ap (take (length p)) w ∙ take_at q (filled u) (length p) (sym n) in
      let y : filled t ≡ filled u = sym (drop_at p (filled t) (length p) refl) ∙ ap (drop (length p)) w ∙ drop_at q (filled u) (length p) (sym n) in
      (x, filled_same t u T U y)

-- a pair's key, which has no type, determines it
pub pair_of_key : (p q : List ℕ) → length p ≡ length q → Bytes p → Bytes q → key_of p [] ≡ key_of q [] → p ≡ q
pair_of_key p q n P Q e = (key_parts p q [] [] n (omega arith) (omega arith) P Q clear.none clear.none e).0

-- ---- a shorter type stands before one that it begins

behind : (p xs ys : List ℕ) → Before xs ys → Before (p ++ xs) (p ++ ys)
behind [] xs ys h = h
behind (x ∷ p) xs ys h = inr (refl, behind p xs ys h)

begun_before : (t v : List ℕ) (b m n : ℕ) → 0 < b → 1 ≤ m → Before (t ++ replicate m 0) ((t ++ b ∷ v) ++ replicate n 0)
begun_before [] v b zero n h k = absurd (omega arith)
begun_before [] v b (suc m) n h k = inl h
begun_before (x ∷ t) v b m n h k = inr (refl, begun_before t v b m n h k)

module _ (p t v : List ℕ) (b : ℕ) (fits : length (t ++ b ∷ v) ≤ 16) (P : Bytes p) (T : Clear false t) (U : Clear false (t ++ b ∷ v)) (positive : 0 < b) where
  shorter : suc (length t) ≤ length (t ++ b ∷ v)
  shorter = simp length-append (omega arith)

  pub shorter_first : key_of p t < key_of p (t ++ b ∷ v)
  unfolding key_of filled
  shorter_first =
      let u : List ℕ = t ++ b ∷ v in
      let m : length (p ++ filled t) ≡ length (p ++ filled u) = length-append p (filled t) ∙ ap (λ (k : ℕ). length p + k) (filled_length t (omega (arith, shorter)) ∙ sym (filled_length u fits)) ∙ sym (length-append p (filled u)) in
      (byte_order (p ++ filled t) (p ++ filled u) m (bytes_append p (filled t) P (filled_bytes t T)) (bytes_append p (filled u) P (filled_bytes u U))).0
      (behind p (filled t) (filled u) (begun_before t v b (16 - length t) (16 - length u) positive (omega (arith, shorter))))
