-- Laws of the parts of an LI line: words, and the parts as the code finds them.
use mathlib.Core.Path.{◌≡◌, refl, sym, ap, ◌∙◌}
use mathlib.Core.Bool.{Bool, true, false, not, ◌&&◌, false≢true}
use mathlib.Core.List.{List, [], ◌∷◌, ◌++◌, append-nil}
use Prim.Native.Nat.{ℕ, suc, ◌+◌, ◌-◌, ◌≤◌, ◌<◌}
use native.Mathlib.Omega.{arith}
use lib.ListN.{length, take, drop, get_or, length-drop, drop_of_length-le}
use lib.Seq.{take_all, drop-append-le}
use lib.Dec.{eqb, leb}
use borrow.Author.Tests.{eq-eqb, ne_eqb, eqb-true, le-leb, lt-leb, leb-true}
use Rattle.columns.specs.Answer.{pick}
use Rattle.columns.proofs.laws.Tests.{both_true, and_false}
use Rattle.formats.specs.Link.{word, solid, type_of, address_of, text_of, is_whole_word, begun, formed, says_delete}
use Rattle.formats.specs.Lines.{up_to, end_from}
use Rattle.columns.proofs.laws.Bytes.{same_none}
use Rattle.formats.proofs.laws.Lines.{upto_take, upto_append}

-- ---- words: the bytes before the first blank

solid_case : (t : Bool) (b : ℕ) (w : List ℕ) → eqb b 32 ≡ t → solid w ≡ true → solid (pick t [] (b ∷ w)) ≡ true
unfolding solid
solid_case true b w e h = refl
solid_case false b w e h = rw e h

pub word_solid : (s : List ℕ) → solid (word s) ≡ true
unfolding up_to solid
word_solid [] = refl
word_solid (b ∷ s) = solid_case (eqb b 32) b (word s) refl (word_solid s)

split_case : (t : Bool) (b : ℕ) (s w : List ℕ) → eqb b 32 ≡ t → (length w < length s → s ≡ w ++ (32 ∷ drop (suc (length w)) s)) → length (pick t [] (b ∷ w)) < length (b ∷ s) → b ∷ s ≡ pick t [] (b ∷ w) ++ (32 ∷ drop (suc (length (pick t [] (b ∷ w)))) (b ∷ s))
split_case true b s w e f h = ap (λ (x : ℕ). x ∷ s) (eqb-true b 32 e)
split_case false b s w e f h = ap (λ (x : List ℕ). b ∷ x) (f (omega arith))

-- a word that does not reach the end has a blank after it
pub word_split : (s : List ℕ) → length (word s) < length s → s ≡ word s ++ (32 ∷ drop (suc (length (word s))) s)
unfolding up_to
word_split [] h = let y : ⊥ = omega arith in absurd y
word_split (b ∷ s) h = split_case (eqb b 32) b s (word s) refl (word_split s) h

ends_case : (t : Bool) (b : ℕ) (s v : List ℕ) (u : Bool) → (u ≡ true → v ≡ s) → pick t false u ≡ true → pick t [] (b ∷ v) ≡ b ∷ s
ends_case true b s v u f e = let z : ◌≡◌ {A = ℕ} 0 1 = cc in let y : ⊥ = omega arith in absurd y
ends_case false b s v u f e = ap (λ (x : List ℕ). b ∷ x) (f e)

-- bytes with no blank are a word, where no other byte follows
pub word_ends : (s z : List ℕ) → word z ≡ [] → solid s ≡ true → word (s ++ z) ≡ s
unfolding up_to solid
word_ends [] z e h = e
word_ends (b ∷ s) z e h = ends_case (eqb b 32) b s (word (s ++ z)) (solid s) (word_ends s z e) h

pub word_blank : (s z : List ℕ) → solid s ≡ true → word (s ++ (32 ∷ z)) ≡ s
unfolding up_to
word_blank s z h = word_ends s (32 ∷ z) refl h

-- the code's test of a word
pub whole_solid : (s : List ℕ) → length (word s) ≡ length s → solid s ≡ true
whole_solid s e =
    let w : word s ≡ s = sym (upto_take 32 s) ∙ take_all (length (word s)) s (omega arith) in
    ap solid (sym w) ∙ word_solid s

pub solid_whole : (s : List ℕ) → solid s ≡ true → length (word s) ≡ length s
unfolding up_to
solid_whole s h = ap length (ap word (sym (append-nil s)) ∙ word_ends s [] refl h)

-- ---- a word of its own

pub word_none : (s : List ℕ) → length s ≡ 0 → false ≡ is_whole_word s
unfolding is_whole_word
word_none s e = let h : length s < 1 = omega arith in rw (lt-leb 1 (length s) h)

pub word_is : (s : List ℕ) → (length s ≡ 0 → ⊥) → (e : ℕ) → e ≡ length (word s) → eqb e (length s) ≡ is_whole_word s
unfolding is_whole_word
word_is s n e p =
    let h : 1 ≤ length s = omega (arith, n) in
    rw (le-leb 1 (length s) h) (by_test (solid s) refl)
  where
    by_test : (t : Bool) → solid s ≡ t → eqb e (length s) ≡ t
    by_test true q = eq-eqb e (length s) (p ∙ solid_whole s q)
    by_test false q =
        ne_eqb e (length s) (λ (u : e ≡ length s). let z : true ≡ false = sym (whole_solid s (sym p ∙ u)) ∙ q in let y : ◌≡◌ {A = ℕ} 0 1 = cc in omega arith)

pub record IsWord (s : List ℕ) : Type 0 where
  pub some : 1 ≤ length s
  pub solid_is : solid s ≡ true

is_word : (s : List ℕ) → is_whole_word s ≡ true → IsWord s
unfolding is_whole_word
is_word s e =
    let p = both_true (leb 1 (length s)) (solid s) e in
    record { some = leb-true 1 (length s) p.0; solid_is = p.1 }

begun_some : (s : List ℕ) → begun s ≡ true → 1 ≤ length s
unfolding begun
begun_some [] e = let z : ◌≡◌ {A = ℕ} 0 1 = cc in let y : ⊥ = omega arith in absurd y
begun_some (b ∷ s) e = omega arith

-- ---- well formed parts

pub record Formed (ty ad tx : List ℕ) : Type 0 where
  pub type_fits : length ty ≤ 16
  pub type_word : IsWord ty
  pub address_word : IsWord ad
  pub some_text_lem : 1 ≤ length tx

pub formed_of : (ty ad tx : List ℕ) → formed ty ad tx ≡ true → Formed ty ad tx
unfolding formed
formed_of ty ad tx e =
    let p = both_true (leb (length ty) 16) (is_whole_word ty && (is_whole_word ad && begun tx)) e in
    let q = both_true (is_whole_word ty) (is_whole_word ad && begun tx) p.1 in
    let r = both_true (is_whole_word ad) (begun tx) q.1 in
    record { type_fits = leb-true (length ty) 16 p.0; type_word = is_word ty q.0; address_word = is_word ad r.0; some_text_lem = begun_some tx r.1 }

pub begun_none : (s : List ℕ) → length s ≡ 0 → false ≡ begun s
unfolding begun
begun_none [] e = refl
begun_none (b ∷ s) e = let y : ⊥ = omega arith in absurd y

pub begun_is : (s : List ℕ) → (length s ≡ 0 → ⊥) → not (eqb (get_or s 0 0) 32) ≡ begun s
unfolding begun
begun_is [] n = absurd (n refl)
begun_is (b ∷ s) n = refl

no_part : (t u : Bool) → u ≡ false → t && u ≡ false
no_part t u e = rw e (and_false t)

pub no_text : (ty ad : List ℕ) → formed ty ad [] ≡ false
unfolding formed begun
no_text ty ad =
    no_part (leb (length ty) 16) (is_whole_word ty && (is_whole_word ad && begun [])) (no_part (is_whole_word ty) (is_whole_word ad && begun []) (and_false (is_whole_word ad)))

-- ---- the parts of a line, from the places where the code saw words end

module _ (l : List ℕ) where
  pub type_word : word (drop 15 l) ≡ type_of l
  unfolding type_of
  type_word = refl

  address_word : word (drop (16 + length (type_of l)) l) ≡ address_of l
  unfolding address_of
  address_word = refl

  pub type_taken : take (length (type_of l)) (drop 15 l) ≡ type_of l
  unfolding type_of
  type_taken = upto_take 32 (drop 15 l)

  pub address_taken : take (length (address_of l)) (drop (16 + length (type_of l)) l) ≡ address_of l
  unfolding address_of
  address_taken = upto_take 32 (drop (16 + length (type_of l)) l)

  pub text_word : drop (17 + length (type_of l) + length (address_of l)) l ≡ text_of l
  unfolding text_of
  text_word = refl

  -- what comes after the blank behind the type does not matter for it
  pub type_append : (z : List ℕ) → 15 + length (type_of l) < length l → type_of (l ++ z) ≡ type_of l
  unfolding type_of
  type_append z h =
      ap word (drop-append-le 15 l z (omega arith)) ∙ upto_append 32 (drop 15 l) z (omega (arith, length-drop 15 l))

  pub text_length : length (text_of l) ≡ length l - (17 + length (type_of l) + length (address_of l))
  unfolding text_of
  text_length = length-drop (17 + length (type_of l) + length (address_of l)) l

  pub text_none : length l ≤ 16 + length (type_of l) + length (address_of l) → text_of l ≡ []
  text_none h = sym text_word ∙ drop_of_length-le l {i = 17 + length (type_of l) + length (address_of l)} (omega arith)

  module _ (e : ℕ) (p : e ≡ end_from 32 l 15) where
    pub type_end_lem : e ≡ 15 + length (type_of l)
    unfolding end_from
    type_end_lem = p ∙ ap (λ (s : List ℕ). 15 + length s) type_word

    pub type_part : take (e - 15) (drop 15 l) ≡ type_of l
    type_part = let z : e - 15 ≡ length (type_of l) = omega (arith, type_end_lem) in rw z type_taken

    module _ (s : ℕ) (q : s ≡ end_from 32 l (e + 1)) where
      pub address_end_lem : s ≡ 16 + length (type_of l) + length (address_of l)
      unfolding end_from
      address_end_lem =
          let z : e + 1 ≡ 16 + length (type_of l) = omega (arith, type_end_lem) in
          q ∙ rw (z, address_word)

      pub address_part : take (s - (e + 1)) (drop (e + 1) l) ≡ address_of l
      address_part =
          let z : e + 1 ≡ 16 + length (type_of l) = omega (arith, type_end_lem) in
          let y : s - (e + 1) ≡ length (address_of l) = omega (arith, type_end_lem, address_end_lem) in
          rw (y, z) address_taken

      pub text_part : take (length l - (s + 1)) (drop (s + 1) l) ≡ text_of l
      text_part =
          let z : s + 1 ≡ 17 + length (type_of l) + length (address_of l) = omega (arith, address_end_lem) in
          take_all (length l - (s + 1)) (drop (s + 1) l) (omega (arith, length-drop (s + 1) l)) ∙ rw z text_word

-- ---- a line with no text takes nothing back

says_none : false ≡ says_delete []
unfolding says_delete
says_none = simp same_none

module _ (l : List ℕ) (e : ℕ) (p : e ≡ end_from 32 l 15) where
  pub no_text_says : (s : ℕ) → s ≡ end_from 32 l (e + 1) → length l ≤ s → false ≡ says_delete (text_of l)
  no_text_says s q h = says_none ∙ ap says_delete (sym (text_none l (omega (arith, address_end_lem l e p s q))))

-- ---- the parts of a link, one test after the other

and_yes : (a b c d : Bool) → (a && b) && c ≡ true → d ≡ a && (b && (c && d))
and_yes true true true d e = refl
and_yes true true false d e = absurd (false≢true e)
and_yes true false c d e = absurd (false≢true e)
and_yes false b c d e = absurd (false≢true e)

and_no : (a b c d : Bool) → (a && b) && c ≡ false → false ≡ a && (b && (c && d))
and_no true true true d e = absurd (false≢true (sym e))
and_no true true false d e = refl
and_no true false c d e = refl
and_no false b c d e = refl

module _ (ty ad tx : List ℕ) {v u : Bool} (e : v ≡ leb (length ty) 16 && is_whole_word ty) (f : u ≡ v && is_whole_word ad) where
  pub formed_yes : u ≡ true → {r : Bool} → r ≡ begun tx → r ≡ formed ty ad tx
  unfolding formed
  formed_yes h q = rw q (and_yes (leb (length ty) 16) (is_whole_word ty) (is_whole_word ad) (begun tx) (rw e at (sym f) ∙ h))

  pub formed_no : u ≡ false → u ≡ formed ty ad tx
  unfolding formed
  formed_no h = h ∙ and_no (leb (length ty) 16) (is_whole_word ty) (is_whole_word ad) (begun tx) (rw e at (sym f) ∙ h)
