-- Laws of the links that are printed: one by one, and as a section of a room in order.
use Prim.Native.Nat.{ℕ, ◌+◌, ◌*◌, ◌-◌, ◌≤◌, ◌<◌}
use mathlib.Core.Path.{◌≡◌, refl, sym, ◌∙◌, ap}
use mathlib.Core.Bool.{Bool, true, false}
use mathlib.Core.List.{List, [], ◌∷◌, ◌++◌, append-nil, append_assoc}
use native.Mathlib.Numerals.{add-one}
use native.Mathlib.Omega.{arith}
use lib.ListN.{length, take, drop, get_or, drop_of_length-le, length-drop}
use lib.Seq.{drop-cons, length-take-le}
use Rattle.formats.specs.Link.{text_of, says_delete}
use Rattle.catalogue.specs.declared.section.Section.{Section}
use Rattle.catalogue.specs.Line.{link_line}
use Rattle.catalogue.specs.Entries.{entries_of, Inside}
use Rattle.catalogue.specs.Ordered.{Ordered}
use Rattle.catalogue.specs.Room.{contents}
use Rattle.catalogue.specs.Places.{links_in}
use Rattle.catalogue.proofs.laws.room.Places.{few, link_inside, link_entries}
use Rattle.take.specs.Text.{row_lines}
use Rattle.take.specs.Links.{shown}

-- ---- one entry

module _ (e : List ℕ) (es : List (List ℕ)) where
  -- it is counted and printed by itself
  shown_more : (t : Bool) → says_delete (text_of (link_line e)) ≡ t
      → (length (shown (e ∷ es)) ≡ length (shown (e ∷ [])) + length (shown es)) × (row_lines (shown (e ∷ es)) ≡ row_lines (shown (e ∷ [])) ++ row_lines (shown es))
  unfolding shown row_lines
  shown_more true h = rw h (omega arith, refl)
  shown_more false h = rw h (omega arith, sym (append_assoc (link_line e) (10 ∷ []) (row_lines (shown es))))

module _ (e : List ℕ) where
  pub shown_none : says_delete (text_of (link_line e)) ≡ true → shown (e ∷ []) ≡ []
  unfolding shown
  shown_none h = rw h

  pub shown_one : says_delete (text_of (link_line e)) ≡ false → shown (e ∷ []) ≡ link_line e ∷ []
  unfolding shown
  shown_one h = rw h

-- the line that the code cuts out of an entry
module _ (e : List ℕ) {end : ℕ} (p : end ≡ 1 + get_or e 0 0) where
  pub line_size : length e ≡ 256 → get_or e 0 0 < 256 → length (take (end - 1) (drop 1 e)) ≡ get_or e 0 0
  line_size n b = let k : end - 1 ≡ get_or e 0 0 = omega arith in rw k (length-take-le (get_or e 0 0) (drop 1 e) (simp length-drop (omega arith)))

-- what was said of it
pub line_says : (e : List ℕ) {l : List ℕ} {z t : Bool} → l ≡ link_line e → z ≡ says_delete (text_of l) → z ≡ t → says_delete (text_of (link_line e)) ≡ t
line_says e p q r = ap (λ (x : List ℕ). says_delete (text_of x)) (sym p) ∙ sym q ∙ r

-- ---- an entry printed

pub link_shown : (a e : List ℕ) → says_delete (text_of (link_line e)) ≡ true → a ≡ a ++ row_lines (shown (e ∷ []))
unfolding row_lines
link_shown a e h = rw (shown_none e h) (sym (append-nil a))

pub link_put : (e a : List ℕ) {b c x : List ℕ} → x ≡ link_line e → says_delete (text_of (link_line e)) ≡ false → b ≡ a ++ x → c ≡ b ++ (10 ∷ []) → c ≡ a ++ row_lines (shown (e ∷ []))
unfolding row_lines
link_put e a q h u v = rw (shown_one e h, v, u, q) (append_assoc a (link_line e) (10 ∷ []))

-- ---- the entries of a section from the i-th on

module _ (xs : List (List ℕ)) (i : ℕ) where
  module _ (h : i < length xs) where
    rest_is : drop i xs ≡ get_or xs i [] ∷ drop (i + 1) xs
    rest_is = rw (add-one, drop-cons xs i [] h)

    pub count_next : length (shown (drop i xs)) ≡ length (shown (get_or xs i [] ∷ [])) + length (shown (drop (i + 1) xs))
    count_next = ap (λ (l : List (List ℕ)). length (shown l)) rest_is ∙ (shown_more (get_or xs i []) (drop (i + 1) xs) (says_delete (text_of (link_line (get_or xs i [])))) refl).0

    pub lines_next : row_lines (shown (drop i xs)) ≡ row_lines (shown (get_or xs i [] ∷ [])) ++ row_lines (shown (drop (i + 1) xs))
    lines_next = ap (λ (l : List (List ℕ)). row_lines (shown l)) rest_is ∙ (shown_more (get_or xs i []) (drop (i + 1) xs) (says_delete (text_of (link_line (get_or xs i [])))) refl).1

  pub count_end : length xs ≤ i → length (shown (drop i xs)) ≡ 0
  unfolding shown
  count_end h = rw (drop_of_length-le xs {i = i} h)

  pub lines_end : (x : List ℕ) → length xs ≤ i → x ++ row_lines (shown (drop i xs)) ≡ x
  unfolding shown row_lines
  lines_end x h = rw (drop_of_length-le xs {i = i} h) (append-nil x)

-- one turn: the entry is put behind what is put
pub shown_turn : (xs : List (List ℕ)) (i : ℕ) → i < length xs → (a : List ℕ) {b y x : List ℕ} → y ≡ get_or xs i [] → b ≡ a ++ row_lines (shown (y ∷ []))
    → a ++ row_lines (shown (drop i xs)) ≡ x → b ++ row_lines (shown (drop (i + 1) xs)) ≡ x
shown_turn xs i h a k p e =
    ap (λ (z : List ℕ). z ++ row_lines (shown (drop (i + 1) xs))) (p ∙ ap (λ (z : List ℕ). a ++ row_lines (shown (z ∷ []))) k)
    ∙ append_assoc a (row_lines (shown (get_or xs i [] ∷ []))) (row_lines (shown (drop (i + 1) xs)))
    ∙ ap (λ (z : List ℕ). a ++ z) (sym (lines_next xs i h)) ∙ e

-- ---- the links of a room in order

pub links_printable : (r : List ℕ) → Ordered r → (s : Section) → s ≡ links_in r → Inside s r × (s.size ≡ 256) × (256 * s.count ≤ 256 * 64) × (entries_of s r ≡ (contents r).links)
links_printable r o s e = rw e (link_inside r o, refl, omega (arith, (few r o).2), link_entries r o)
