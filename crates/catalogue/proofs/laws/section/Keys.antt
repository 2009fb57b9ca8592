-- The number of a key's words is that of its bytes, and words compare as their numbers do.
use Prim.Native.Nat.{ℕ, ◌+◌, ◌*◌, ◌≤◌, ◌<◌}
use mathlib.Core.Path.{◌≡◌, refl, sym, ◌∙◌, ap}
use mathlib.Core.Bool.{true, false}
use mathlib.Core.List.{List, [], ◌∷◌, ◌++◌}
use native.Mathlib.Omega.{arith}
use native.Mathlib.Nat.{mul-le-mul_right}
use borrow.Author.Tests.{lt-ltb, le-ltb, eq-eqb, ne_eqb}
use lib.Dec.{ltb, eqb}
use lib.ListN.{length, take, drop, get_or, length-drop, take-append-drop}
use lib.Seq.{take-suc, take-length, get_or-drop}
use Rattle.columns.specs.Word.{word_of}
use Rattle.columns.proofs.laws.Word.{word_nil, word_cons, word_append}
use Rattle.catalogue.specs.declared.key.Key.{Key}
use Rattle.catalogue.specs.Line.{type_at, filled, key_of}
use Rattle.catalogue.specs.Keys.{two, eight, key_in, in_base, key_number}
use Rattle.columns.proofs.laws.Tri.{tri, less, same, more}
use Rattle.catalogue.proofs.laws.section.Types.{type_short, filled_length}
use Rattle.catalogue.proofs.laws.assoc.Tri.{le, gt, le?, eq, ne, eq?}

-- the first bytes of a list, written out
pub first_two : (s : List ℕ) → 2 ≤ length s → take 2 s ≡ get_or s 0 0 ∷ get_or s 1 0 ∷ []
first_two [] h = absurd (omega arith)
first_two (a ∷ []) h = absurd (omega arith)
first_two (a ∷ b ∷ s) h = refl

pub first_eight : (s : List ℕ) → 8 ≤ length s
    → take 8 s ≡ get_or s 0 0 ∷ get_or s 1 0 ∷ get_or s 2 0 ∷ get_or s 3 0 ∷ get_or s 4 0 ∷ get_or s 5 0 ∷ get_or s 6 0 ∷ get_or s 7 0 ∷ []
first_eight s h =
    rw (take-suc s 7 0 (omega arith), take-suc s 6 0 (omega arith), take-suc s 5 0 (omega arith), take-suc s 4 0 (omega arith), take-suc s 3 0 (omega arith), take-suc s 2 0 (omega arith), first_two s (omega arith))

same_at : (s : List ℕ) (m n : ℕ) → m ≡ n → get_or s m 0 ≡ get_or s n 0
same_at s m n e = ap (λ (k : ℕ). get_or s k 0) e

-- eight bytes more
word_eight : (a : ℕ) (s : List ℕ) (at : ℕ) → at + 8 ≤ length s → word_of a (take 8 (drop at s)) ≡ a * 18446744073709551616 + eight s at
unfolding eight
word_eight a s at h =
    simp (first_eight (drop at s) (simp length-drop (omega arith)), get_or-drop, word_cons, word_nil)
    (omega (
      arith,
      same_at s (at + 0) at (omega arith),
      same_at s (at + 2 + 1) (at + 3) (omega arith),
      same_at s (at + 4 + 1) (at + 5) (omega arith),
      same_at s (at + 6 + 1) (at + 7) (omega arith),
    ))

-- the words of a source and an identifier write the pair
pub pair_words : (s r : List ℕ) (source identifier : ℕ) → source + 2 ≤ length s → identifier + 8 ≤ length r
    → word_of 0 (take 2 (drop source s) ++ take 8 (drop identifier r)) ≡ two s source * 18446744073709551616 + eight r identifier
pair_words s r source identifier h k =
    word_append 0 (take 2 (drop source s)) (take 8 (drop identifier r)) ∙ word_eight (word_of 0 (take 2 (drop source s))) r identifier k
    ∙ ap (λ (a : ℕ). a * 18446744073709551616 + eight r identifier) (simp (first_two (drop source s) (simp length-drop (omega arith)), get_or-drop, word_cons, word_nil) (omega (arith, same_at s (source + 0) source (omega arith))))

-- and 16 bytes more a type
type_words : (a : ℕ) (f : List ℕ) → length f ≡ 16 → word_of a f ≡ (a * 18446744073709551616 + eight f 0) * 18446744073709551616 + eight f 8
type_words a f n =
    let m : 8 ≡ length (drop 8 f) = omega (arith, length-drop 8 f) in
    let e : take 8 f ++ take 8 (drop 8 f) ≡ f = ap (λ (x : List ℕ). take 8 f ++ x) (ap (λ (k : ℕ). take k (drop 8 f)) m ∙ take-length (drop 8 f)) ∙ take-append-drop 8 f in
    ap (word_of a) (sym e) ∙ word_append a (take 8 f) (take 8 (drop 8 f)) ∙ word_eight (word_of a (take 8 f)) f 8 (omega arith)
    ∙ ap (λ (x : ℕ). x * 18446744073709551616 + eight f 8) (word_eight a f 0 (omega arith))

-- the words of a key write it: those of its pair, and those of its type's 16 bytes
pub key_words : (p t : List ℕ) → length (filled t) ≡ 16 → (k : Key) → k.source * 18446744073709551616 + k.identifier ≡ word_of 0 p → k.high ≡ eight (filled t) 0 → k.low ≡ eight (filled t) 8
    → key_number k ≡ key_of p t
unfolding key_number key_of
key_words p t n k e h l = rw (e, h, l) (sym (word_append 0 p (filled t) ∙ type_words (word_of 0 p) (filled t) n))

-- a pair's key has no type
pub pair_key_lem : (p : List ℕ) (k : Key) → k.source * 18446744073709551616 + k.identifier ≡ word_of 0 p → k.high ≡ 0 → k.low ≡ 0 → key_number k ≡ key_of p []
unfolding filled eight
pair_key_lem p k e h l = key_words p [] refl k e h l

-- a key read at its places, with its type and without one
module _ (s : List ℕ) (source identifier : ℕ) (f : source + 2 ≤ length s) (g : identifier + 8 ≤ length s) (k : Key) (p : k.source ≡ two s source) (q : k.identifier ≡ eight s identifier) where
  pair_read : k.source * 18446744073709551616 + k.identifier ≡ word_of 0 (take 2 (drop source s) ++ take 8 (drop identifier s))
  pair_read = rw (p, q) (sym (pair_words s s source identifier f g))

  pub typed_key : {t : List ℕ} → t ≡ filled (type_at (identifier + 13) s) → k.high ≡ eight t 0 → k.low ≡ eight t 8 → key_number k ≡ key_in true source identifier s
  unfolding key_in
  typed_key {t} e h l =
      let x : List ℕ = type_at (identifier + 13) s in
      key_words (take 2 (drop source s) ++ take 8 (drop identifier s)) x (filled_length x (type_short (identifier + 13) s)) k pair_read (h ∙ ap (λ (y : List ℕ). eight y 0) e) (l ∙ ap (λ (y : List ℕ). eight y 8) e)

  pub plain_key : k.high ≡ 0 → k.low ≡ 0 → key_number k ≡ key_in false source identifier s
  unfolding key_in
  plain_key h l = pair_key_lem (take 2 (drop source s) ++ take 8 (drop identifier s)) k pair_read h l

-- ---- two keys, their numbers in any base, compare word by word

module _ (B x y u v : ℕ) where
  high_less : x < y → u < B → x * B + u < y * B + v
  high_less h b = omega (arith, mul-le-mul_right B h)

  low_less : x ≡ y → u < v → x * B + u < y * B + v
  low_less e h = let q : x * B ≡ y * B = ap (λ (t : ℕ). t * B) e in omega arith

  low_within : x ≡ y → u ≤ v → x * B + u ≤ y * B + v
  low_within e h = let q : x * B ≡ y * B = ap (λ (t : ℕ). t * B) e in omega arith

  words_same : u < B → v < B → x * B + u ≡ y * B + v → (x ≡ y) × (u ≡ v)
  words_same a b e =
      elim (tri x y) [
        | less h ↦ absurd (omega (arith, high_less h a))
        | same h ↦ let q : x * B ≡ y * B = ap (λ (t : ℕ). t * B) h in (h, omega arith)
        | more h ↦ absurd (omega (arith, mul-le-mul_right B h))
      ]

-- words below the base
pub record Small (B : ℕ) (k : Key) : Type 0 where
  pub identifier : k.identifier < B
  pub high : k.high < B
  pub low : k.low < B

module _ (B : ℕ) (a b : Key) where
  pub before_true : in_base B a < in_base B b → true ≡ ltb (in_base B a) (in_base B b)
  before_true h = sym (lt-ltb (in_base B a) (in_base B b) h)

  pub before_false : in_base B b < in_base B a → false ≡ ltb (in_base B a) (in_base B b)
  before_false h = sym (le-ltb (in_base B a) (in_base B b) (omega arith))

module _ (B : ℕ) (a b : Key) (A : Small B a) where
  -- the first word that differs decides
  pub source_less : a.source < b.source → in_base B a < in_base B b
  source_less h = high_less B _ _ _ _ (high_less B _ _ _ _ (high_less B _ _ _ _ h A.identifier) A.high) A.low

  module _ (s : a.source ≡ b.source) where
    pub identifier_less : a.identifier < b.identifier → in_base B a < in_base B b
    identifier_less h = high_less B _ _ _ _ (high_less B _ _ _ _ (low_less B _ _ _ _ s h) A.high) A.low

    module _ (i : a.identifier ≡ b.identifier) where
      pairs_same : a.source * B + a.identifier ≡ b.source * B + b.identifier
      pairs_same = rw (s, i)

      pub high_word_less : a.high < b.high → in_base B a < in_base B b
      high_word_less h = high_less B _ _ _ _ (low_less B _ _ _ _ pairs_same h) A.low

      module _ (h : a.high ≡ b.high) where
        types_same : (a.source * B + a.identifier) * B + a.high ≡ (b.source * B + b.identifier) * B + b.high
        types_same = rw (s, i, h)

        pub low_word_decides : ltb a.low b.low ≡ ltb (in_base B a) (in_base B b)
        low_word_decides =
            elim (le? b.low a.low) [
              | le p ↦ rw (le-ltb a.low b.low p, le-ltb (in_base B a) (in_base B b) (low_within B _ _ _ _ (sym types_same) p))
              | gt p ↦ rw (lt-ltb a.low b.low p, lt-ltb (in_base B a) (in_base B b) (low_less B _ _ _ _ types_same p))
            ]

-- equal numbers have equal words
module _ (B : ℕ) (a b : Key) (A : Small B a) (C : Small B b) where
  pub same_words : in_base B a ≡ in_base B b → (a.source ≡ b.source) × (a.identifier ≡ b.identifier) × (a.high ≡ b.high) × (a.low ≡ b.low)
  same_words e =
      let p = words_same B _ _ _ _ A.low C.low e in
      let q = words_same B _ _ _ _ A.high C.high p.0 in
      let r = words_same B _ _ _ _ A.identifier C.identifier q.0 in
      (r.0, r.1, q.1, p.1)

  pub words_differ : ((a.source ≡ b.source) × (a.identifier ≡ b.identifier) × (a.high ≡ b.high) → ⊥) → false ≡ eqb (in_base B a) (in_base B b)
  words_differ n = sym (ne_eqb (in_base B a) (in_base B b) (λ (e : in_base B a ≡ in_base B b). let w = same_words e in n (w.0, w.1, w.2)))

  pub low_words_equal : a.source ≡ b.source → a.identifier ≡ b.identifier → a.high ≡ b.high → eqb a.low b.low ≡ eqb (in_base B a) (in_base B b)
  low_words_equal s i h =
      elim (eq? a.low b.low) [
        | eq p ↦ rw (eq-eqb a.low b.low p, eq-eqb (in_base B a) (in_base B b) (rw (s, i, h, p)))
        | ne n ↦ rw (ne_eqb a.low b.low n, ne_eqb (in_base B a) (in_base B b) (λ (e : in_base B a ≡ in_base B b). n (same_words e).3))
      ]
