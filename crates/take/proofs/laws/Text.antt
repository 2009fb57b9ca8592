-- Laws of the text that is put: one part behind another, a number's digits, rows on lines.
use Prim.Native.Nat.{ℕ, zero, suc, ◌+◌, ◌*◌, ◌-◌, ◌/◌, ◌%◌, ◌≤◌, ◌<◌}
use mathlib.Core.Path.{◌≡◌, refl, sym, ◌∙◌, ap}
use mathlib.Core.Bool.{Bool, true, false}
use mathlib.Core.List.{List, [], ◌∷◌, ◌++◌, append-nil, append_assoc}
use native.Mathlib.Omega.{arith}
use lib.Dec.{ltb}
use lib.ListN.{length, drop, get_or, length-append, drop_of_length-le}
use lib.Seq.{drop-cons}
use native.Mathlib.Numerals.{add-one}
use borrow.Author.Tests.{lt-ltb, le-ltb}
use Rattle.columns.specs.Answer.{pick}
use Rattle.catalogue.specs.declared.section.Section.{Section}
use Rattle.catalogue.specs.Entries.{entries_of, Inside}
use Rattle.catalogue.specs.Ordered.{Ordered}
use Rattle.catalogue.specs.Room.{contents}
use Rattle.catalogue.specs.Places.{held_in, deletions_in}
use Rattle.catalogue.proofs.laws.room.Places.{few, held_inside, deletion_inside, held_entries, deletion_entries}
use Rattle.take.specs.Text.{digits, decimal, row_lines}

-- ---- parts put one behind another

pub put_length : (a s : List ℕ) {b : List ℕ} → b ≡ a ++ s → length b ≡ length a + length s
put_length a s p = ap length p ∙ length-append a s

-- ---- digits: `0`, and the largest number of 64 bits, `18446744073709551615`

decimal_zero : decimal 0 ≡ 48 ∷ []
unfolding decimal digits
decimal_zero = refl

decimal_largest : decimal 18446744073709551615
    ≡ 49 ∷ 56 ∷ 52 ∷ 52 ∷ 54 ∷ 55 ∷ 52 ∷ 52 ∷ 48 ∷ 55 ∷ 51 ∷ 55 ∷ 48 ∷ 57 ∷ 53 ∷ 53 ∷ 49 ∷ 54 ∷ 49 ∷ 53 ∷ []
unfolding decimal digits
decimal_largest = refl

pub digits_one : (k n : ℕ) → 1 ≤ k → n < 10 → digits k n ≡ (48 + n) ∷ []
unfolding digits
digits_one zero n h e = absurd (omega arith)
digits_one (suc k) n h e = rw (lt-ltb n 10 e)

pub digits_more : (k n : ℕ) → 1 ≤ k → 10 ≤ n → digits k n ≡ digits (k - 1) (n / 10) ++ ((48 + n % 10) ∷ [])
unfolding digits
digits_more zero n h e = absurd (omega arith)
digits_more (suc k) n h e = let f : suc k - 1 ≡ k = omega arith in rw (le-ltb n 10 e, f)

length_pick : (t : Bool) (x y : List ℕ) (k : ℕ) → length x ≤ k → length y ≤ k → length (pick t x y) ≤ k
length_pick true x y k p q = p
length_pick false x y k p q = q

pub digits_few : (k n : ℕ) → length (digits k n) ≤ k
unfolding digits
digits_few zero n = omega arith
digits_few (suc k) n =
    length_pick (ltb n 10) ((48 + n) ∷ []) (digits k (n / 10) ++ ((48 + n % 10) ∷ [])) (suc k) (omega arith)
    (omega (arith, digits_few k (n / 10), length-append (digits k (n / 10)) ((48 + n % 10) ∷ [])))

pub decimal_few : (n : ℕ) → length (decimal n) ≤ 20
unfolding decimal
decimal_few n = digits_few 20 n

-- ---- entries, each on a line of its own

lines_next : (xs : List (List ℕ)) (i : ℕ) → i < length xs → row_lines (drop i xs) ≡ get_or xs i [] ++ (10 ∷ row_lines (drop (i + 1) xs))
unfolding row_lines
lines_next xs i h = rw (add-one, drop-cons xs i [] h)

pub lines_end : (xs : List (List ℕ)) (i : ℕ) (x : List ℕ) → length xs ≤ i → x ++ row_lines (drop i xs) ≡ x
unfolding row_lines
lines_end xs i x h = rw (drop_of_length-le xs {i = i} h) (append-nil x)

joined : (x y z : List ℕ) → ((x ++ y) ++ (10 ∷ [])) ++ z ≡ x ++ (y ++ (10 ∷ z))
joined x y z = simp append_assoc

-- one entry, and the newline after it
module _ (xs : List (List ℕ)) (i : ℕ) (h : i < length xs) where
  pub entry_turn : (a : List ℕ) {b c y x : List ℕ} {n : ℕ} → (y ≡ get_or xs i []) × (length y ≡ n) → b ≡ a ++ y → c ≡ b ++ (10 ∷ [])
      → a ++ row_lines (drop i xs) ≡ x → (c ++ row_lines (drop (i + 1) xs) ≡ x) × (length c ≡ length a + n + 1)
  entry_turn a {b} {c} {y} k p q e = (
    ap (λ (z : List ℕ). z ++ row_lines (drop (i + 1) xs)) (q ∙ ap (λ (z : List ℕ). z ++ (10 ∷ [])) (p ∙ ap (λ (z : List ℕ). a ++ z) k.0))
        ∙ joined a (get_or xs i []) (row_lines (drop (i + 1) xs))
        ∙ ap (λ (z : List ℕ). a ++ z) (sym (lines_next xs i h)) ∙ e,
    omega (arith, put_length a y p, put_length b (10 ∷ []) q, k.1),
  )

-- ---- the sections of a room in order

module _ (r : List ℕ) (o : Ordered r) where
  pub held_printable : (s : Section) → s ≡ held_in r → Inside s r × ((s.size + 1) * s.count ≤ 81 * 512) × (entries_of s r ≡ (contents r).held)
  held_printable s e = rw e (held_inside r o, omega (arith, (few r o).0), held_entries r o)

  pub deletions_printable : (s : Section) → s ≡ deletions_in r → Inside s r × ((s.size + 1) * s.count ≤ 12 * 512) × (entries_of s r ≡ (contents r).deletions)
  deletions_printable s e = rw e (deletion_inside r o, omega (arith, (few r o).1), deletion_entries r o)
