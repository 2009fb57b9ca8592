-- What the cursor finds in one column, as the code comes to it.
use mathlib.Core.Path.{◌≡◌, refl, sym, ◌∙◌}
use mathlib.Core.Bool.{Bool, true, false}
use mathlib.Core.List.{List, [], ◌∷◌}
use Prim.Native.Nat.{ℕ, ◌+◌, ◌-◌, ◌<◌}
use native.Mathlib.Omega.{arith}
use lib.ListN.{length, take, drop, get_or}
use borrow.Author.Tests.{ne_eqb, eq-eqb}
use lib.Seq.{slice, get_or-drop, get_or-take}
use Rattle.columns.specs.declared.group.Group.{Group}
use Rattle.columns.specs.Answer.{ok, refusal, not_blank, wrong_letter}
use Rattle.columns.specs.Bytes.{is_none, skip, all_blank, member}
use Rattle.columns.specs.Number.{form_width, field_of}
use Rattle.columns.specs.Column.{Slot, Rule, text, letter, printed, first_width, second_start, second_end, third_start}
use Rattle.columns.specs.Group.{three_of, group_field}
use Rattle.columns.specs.Reading.{nothing, some_text, rule_refuses, rule_number, read_cell}
use Rattle.columns.specs.declared.group.Three.TheVariants as K

pub part_at : (l : List ℕ) (at e i : ℕ) → at + i < e → get_or (slice at e l) i 0 ≡ get_or l (at + i) 0
part_at l at e i h = get_or-drop at (take e l) i 0 ∙ get_or-take e l (at + i) 0 h

pub first_at : (l : List ℕ) (at e : ℕ) → at < e → get_or (slice at e l) 0 0 ≡ get_or l at 0
first_at l at e h = let z : at + 0 ≡ at = omega arith in part_at l at e 0 (omega arith) ∙ rw z

-- ---- a group

module _ (g : Group) (f : List ℕ) where
  pub group_missing : all_blank f ≡ true → K.Missing ≡ group_field g f
  unfolding group_field
  group_missing e = rw e

  module _ (b : all_blank f ≡ false) where
    pub group_no_first : (get_or f (first_width g) 0 ≡ g.mark → ⊥) → K.Bad ≡ group_field g f
    unfolding group_field
    group_no_first n = rw (b, ne_eqb _ _ n)

    module _ (p : get_or f (first_width g) 0 ≡ g.mark) where
      pub group_no_second : (get_or f (second_end g) 0 ≡ g.mark → ⊥) → K.Bad ≡ group_field g f
      unfolding group_field
      group_no_second n = rw (b, p, ne_eqb _ _ n, eq-eqb g.mark g.mark refl)

      pub group_parts : get_or f (second_end g) 0 ≡ g.mark → three_of (field_of g.first.form (take (first_width g) f)) (field_of g.second.form (take (form_width g.second.form) (drop (second_start g) f))) (field_of g.third.form (drop (third_start g) f)) ≡ group_field g f
      unfolding group_field
      group_parts q = rw (b, p, q, eq-eqb g.mark g.mark refl)

-- ---- the answer of each kind of column

module _ (seen : List Slot) (l : List ℕ) (at : ℕ) where
  module _ (w : ℕ) (x : Rule) (f : List ℕ) (told : Bool) (g : told ≡ rule_refuses x f) where
    pub text_refused : told ≡ true → refusal (rule_number x) (at + 1) ≡ read_cell (text w x) seen at f
    unfolding read_cell
    text_refused e = rw (sym g ∙ e)

    pub text_there : told ≡ false → ok (some_text f) ≡ read_cell (text w x) seen at f
    unfolding read_cell
    text_there e = rw (sym g ∙ e)

  module _ (s : List ℕ) where
    pub letter_known : member (get_or l at 0) s ≡ true → ok (some_text (slice at (at + 1) l)) ≡ read_cell (letter s) seen at (slice at (at + 1) l)
    unfolding read_cell
    letter_known e = rw (first_at l at (at + 1) (omega arith), e)

    pub letter_other : member (get_or l at 0) s ≡ false → refusal wrong_letter (at + 1) ≡ read_cell (letter s) seen at (slice at (at + 1) l)
    unfolding read_cell
    letter_other e = rw (first_at l at (at + 1) (omega arith), e)

-- the first byte that is not as printed
none_left : (s : List ℕ) → length s ≡ 0 → is_none s ≡ true
none_left [] e = refl
none_left (b ∷ s) e = absurd (omega arith)

some_left : (s : List ℕ) → (length s ≡ 0 → ⊥) → is_none s ≡ false
some_left [] n = absurd (n refl)
some_left (b ∷ s) n = refl

module _ (seen : List Slot) (at x w : ℕ) (f : List ℕ) where
  pub as_printed : length (skip x f) ≡ 0 → ok nothing ≡ read_cell (printed x w) seen at f
  unfolding read_cell
  as_printed e = rw (none_left (skip x f) e)

  pub not_printed : (length (skip x f) ≡ 0 → ⊥) → refusal not_blank (at + 1 + (length f - length (skip x f))) ≡ read_cell (printed x w) seen at f
  unfolding read_cell
  not_printed n = rw (some_left (skip x f) n)
