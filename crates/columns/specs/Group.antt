-- A group of three numbers with marks between them: all blank, or all three numbers. Document 01, "The phase line": the time is
-- 12 blanks, or i2 `:` i2 `:` f6.3, none of the three missing; its form is judged as a whole before its ranges.
use Rattle.std.specs.Prelude.{ℕ, ◌+◌, List, [], ◌∷◌, ◌++◌, Bool, true, ◌&&◌, ℤ, nat_abs, take, drop, get_or, replicate, eqb}
use Rattle.columns.specs.Answer.{pick, Answer, ok, refusal, required_blank, bad_form, out_of_range, too_wide}
use Rattle.columns.specs.Bytes.{all_blank}
use Rattle.columns.specs.Number.{form_width, field_of, holds, zero_filled}
use Rattle.columns.specs.Column.{Slot, missing, given, Rec, calendar_day, allowed, part_range, first_width, second_start, second_end, third_start, group_width}
use Rattle.columns.specs.declared.number.Field.{Field}
use Rattle.columns.specs.declared.number.Field.TheVariants as F
use Rattle.columns.specs.declared.group.Group.{Group}
use Rattle.columns.specs.declared.group.Three.{Three}
use Rattle.columns.specs.declared.group.Three.TheVariants as T

-- each in its range, the later ones after the earlier ones; of a date, a day that exists besides
abbrev pub parts_range : Group → List Slot → ℤ → ℤ → ℤ → Bool
parts_range g seen x y z =
    allowed (part_range g.first) seen x
    && (allowed (part_range g.second) (seen ++ given x ∷ []) y
    && allowed (part_range g.third) (seen ++ given x ∷ given y ∷ []) z)

abbrev pub group_range : Group → List Slot → ℤ → ℤ → ℤ → Bool
group_range g seen x y z =
    parts_range g seen x y z && pick g.dated (allowed calendar_day (seen ++ given x ∷ given y ∷ []) z) true

abbrev pub group_rec : Slot → Slot → Slot → Rec
group_rec x y z = record { numbers = x ∷ y ∷ z ∷ []; chars = [] }

-- ---- read: its form is judged as a whole, before its ranges

-- a number that must be there
abbrev pub with_value : {A : Type 0} → Field → (ℤ → A) → A → A
with_value F.Missing k o = o
with_value F.Bad k o = o
with_value (F.Value v) k o = k v

abbrev pub three_of : Field → Field → Field → Three
three_of a b c =
    with_value a (λ x. with_value b (λ y. with_value c (λ z. T.Given x y z) T.Bad) T.Bad) T.Bad

-- all blank, or both marks and three numbers of good form
unfoldable pub group_field : Group → List ℕ → Three
group_field g f =
    pick (all_blank f) T.Missing
    (pick (eqb (get_or f (first_width g) 0) g.mark && eqb (get_or f (second_end g) 0) g.mark)
    (three_of (field_of g.first.form (take (first_width g) f)) (field_of g.second.form (take (form_width g.second.form) (drop (second_start g) f))) (field_of g.third.form (drop (third_start g) f)))
    T.Bad)

abbrev pub judge_group : Group → List Slot → ℕ → Three → Answer Rec
judge_group g seen at T.Missing = ok (group_rec missing missing missing)
judge_group g seen at T.Bad = refusal bad_form (at + 1)
judge_group g seen at (T.Given x y z) =
    pick (group_range g seen x y z) (ok (group_rec (given x) (given y) (given z))) (refusal out_of_range (at + 1))

-- ---- written: filled with zeros

abbrev pub group_bytes : Group → ℕ → ℕ → ℕ → List ℕ
group_bytes g x y z =
    zero_filled g.first.form x
    ++ (g.mark ∷ (zero_filled g.second.form y ++ (g.mark ∷ zero_filled g.third.form z)))

abbrev pub group_holds : Group → ℤ → ℤ → ℤ → Bool
group_holds g x y z = holds g.first.form x && (holds g.second.form y && holds g.third.form z)

-- a number of a group
abbrev pub with_number : {A : Type 0} → Slot → (ℤ → A) → A → A
with_number missing k o = o
with_number (given v) k o = k v

-- all missing, or none: else 5; too wide 10; range 7
abbrev pub put_group : Group → List Slot → ℕ → Slot → Slot → Slot → Answer (List ℕ)
put_group g seen at a b c =
    with_number a
    (λ x. with_number b
    (λ y. with_number c
    (λ z. pick (group_holds g x y z) (pick (group_range g seen x y z) (ok (group_bytes g (nat_abs x) (nat_abs y) (nat_abs z))) (refusal out_of_range (at + 1))) (refusal too_wide (at + 1)))
    (refusal required_blank (at + 1)))
    (refusal required_blank (at + 1)))
    (with_number b
    (λ y. refusal required_blank (at + 1))
    (with_number c (λ z. refusal required_blank (at + 1)) (ok (replicate (group_width g) 32))))
