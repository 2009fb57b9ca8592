-- A group that is written reads back the same, and one that is read is written.
use mathlib.Core.Path.{◌≡◌, refl, sym, ap, ◌∙◌, subst}
use mathlib.Core.Bool.{Bool, true, false, not, ◌&&◌}
use mathlib.Core.List.{List, [], ◌∷◌, ◌++◌, append_assoc}
use Prim.Native.Nat.{ℕ, ◌+◌, ◌≤◌}
use native.Mathlib.Omega.{arith}
use lib.ListN.{length, take, drop, get_or, set, replicate, length-append, length-drop, length-replicate}
use lib.Dec.{leb, eqb, T, leb→le}
use lib.IntN.{ℤ, pos, nat_abs}
use lib.Signed.{lt_z}
use borrow.Author.Tests.{ne_eqb, eq-eqb}
use lib.Seq.{take_at, drop_at, length-take-le, drop-drop, get_or-drop, get_or_at}
use Rattle.columns.specs.declared.number.Field.{Field}
use Rattle.columns.specs.declared.group.Three.{Three}
use Rattle.columns.specs.declared.group.Part.{Part}
use Rattle.columns.specs.declared.group.Group.{Group}
use Rattle.columns.specs.Answer.{pick, ok, refusal, out_of_range, too_wide}
use Rattle.columns.specs.Bytes.{all_blank, skip}
use Rattle.columns.specs.Number.{form_width, good_form, field_of, holds, zero_filled}
use Rattle.columns.specs.Column.{Slot, missing, given, Rec, allowed, part_range, first_width, second_start, second_end, third_start, group_width, good_part, good_group}
use Rattle.columns.specs.Table.{placed}
use Rattle.columns.specs.Group.{parts_range, group_range, group_rec, three_of, group_field, judge_group, group_bytes, group_holds, put_group}
use Rattle.columns.proofs.laws.Form.{form_holds, zero_length, zero_clear, zero_back, zero_first}
use Rattle.columns.proofs.laws.NumberBack.{trim_blanks}
use Rattle.columns.proofs.laws.Clear.{Clear, clear_mark, clear_append, clear_blanks}
use Rattle.columns.proofs.laws.Ranges.{not_below}
use Rattle.columns.proofs.laws.Answers.{held, over_whole}
use Rattle.columns.proofs.laws.Places.{placed_length, placed_placed, set_placed}
use Rattle.columns.proofs.laws.Tests.{T_and, both_true}
use Rattle.columns.specs.declared.number.Field.TheVariants as F
use Rattle.columns.specs.declared.group.Three.TheVariants as K

pub three_of_lem : {A : Type 0} (l : List A) (d : A) → length l ≡ 3 → l ≡ get_or l 0 d ∷ get_or l 1 d ∷ get_or l 2 d ∷ []
three_of_lem [] d e = let y : ⊥ = omega arith in absurd y
three_of_lem (x ∷ []) d e = let y : ⊥ = omega arith in absurd y
three_of_lem (x ∷ y ∷ []) d e = let y : ⊥ = omega arith in absurd y
three_of_lem (x ∷ y ∷ z ∷ []) d e = refl
three_of_lem (x ∷ y ∷ z ∷ w ∷ s) d e = let y : ⊥ = omega arith in absurd y

-- ---- a well-formed group

pub record Fine (g : Group) : Type 0 where
  pub low : 45 ≤ g.mark
  pub high : g.mark ≤ 58
  pub first : T (good_part g.first)
  pub second : T (good_part g.second)
  pub third : T (good_part g.third)

pub fine : (g : Group) → T (good_group g) → Fine g
fine g h =
    let a = T_and (leb 45 g.mark && leb g.mark 58) (good_part g.first && (good_part g.second && good_part g.third)) h in
    let m = T_and (leb 45 g.mark) (leb g.mark 58) a.0 in
    let b = T_and (good_part g.first) (good_part g.second && good_part g.third) a.1 in
    let c = T_and (good_part g.second) (good_part g.third) b.1 in
    record { low = leb→le 45 g.mark m.0; high = leb→le g.mark 58 m.1; first = b.0; second = c.0; third = c.1 }

pub part_form : (p : Part) → T (good_part p) → T (good_form p.form)
part_form p h = (T_and (good_form p.form) (not (lt_z p.low (pos 0))) h).0

pub part_low : (p : Part) → T (good_part p) → T (not (lt_z p.low (pos 0)))
part_low p h = (T_and (good_form p.form) (not (lt_z p.low (pos 0))) h).1

-- ---- the parts of what is written

module _ (g : Group) (x y z : ℕ) (h : T (good_group g)) where
  first_length : length (zero_filled g.first.form x) ≡ first_width g
  first_length = zero_length g.first.form x (part_form g.first (fine g h).first)

  second_length : length (zero_filled g.second.form y) ≡ form_width g.second.form
  second_length = zero_length g.second.form y (part_form g.second (fine g h).second)

  third_length : length (zero_filled g.third.form z) ≡ form_width g.third.form
  third_length = zero_length g.third.form z (part_form g.third (fine g h).third)

  -- after the first number: a mark, the second number, a mark, the third
  tail : List ℕ
  tail = zero_filled g.second.form y ++ (g.mark ∷ zero_filled g.third.form z)

  tail_length : length tail ≡ form_width g.second.form + 1 + form_width g.third.form
  unfolding tail
  tail_length = length-append (zero_filled g.second.form y) (g.mark ∷ zero_filled g.third.form z) ∙ omega (arith, second_length, third_length)

  pub group_length : length (group_bytes g x y z) ≡ group_width g
  unfolding tail
  group_length = length-append (zero_filled g.first.form x) (g.mark ∷ tail) ∙ omega (arith, first_length, tail_length)

  group_clear : Clear false (group_bytes g x y z)
  group_clear =
      let m = clear_mark false g.mark (fine g h).low (fine g h).high in
      clear_append (zero_clear false g.first.form x) (clear_append m (clear_append (zero_clear false g.second.form y) (clear_append m (zero_clear false g.third.form z))))

  group_some : all_blank (group_bytes g x y z) ≡ false
  unfolding skip
  group_some =
      let f = zero_first g.first.form x (part_form g.first (fine g h).first) in
      rw (f.is, ne_eqb f.byte 32 (λ q. omega (arith, f.low)))

  after_first : drop (second_start g) (group_bytes g x y z) ≡ tail
  unfolding tail
  after_first = rw (← drop-drop 1 (first_width g) (group_bytes g x y z), drop_at (zero_filled g.first.form x) (g.mark ∷ tail) (first_width g) first_length)

  first_mark : get_or (group_bytes g x y z) (first_width g) 0 ≡ g.mark
  unfolding tail
  first_mark = get_or_at (zero_filled g.first.form x) g.mark tail 0 (first_width g) first_length

  second_mark : get_or (group_bytes g x y z) (second_end g) 0 ≡ g.mark
  unfolding tail
  second_mark =
      sym (get_or-drop (second_start g) (group_bytes g x y z) (form_width g.second.form) 0)
      ∙ ap (λ (s : List ℕ). get_or s (form_width g.second.form) 0) after_first
      ∙ get_or_at (zero_filled g.second.form y) g.mark (zero_filled g.third.form z) 0 (form_width g.second.form) second_length

  first_part : take (first_width g) (group_bytes g x y z) ≡ zero_filled g.first.form x
  first_part = take_at (zero_filled g.first.form x) _ (first_width g) first_length

  second_part : take (form_width g.second.form) (drop (second_start g) (group_bytes g x y z)) ≡ zero_filled g.second.form y
  unfolding tail
  second_part = rw after_first (take_at (zero_filled g.second.form y) _ (form_width g.second.form) second_length)

  third_part : drop (third_start g) (group_bytes g x y z) ≡ zero_filled g.third.form z
  unfolding tail
  third_part =
      let e : third_start g ≡ second_start g + (form_width g.second.form + 1) = omega arith in
      rw (e, ← drop-drop (form_width g.second.form + 1) (second_start g) (group_bytes g x y z), after_first, ← drop-drop 1 (form_width g.second.form) tail, drop_at (zero_filled g.second.form y) (g.mark ∷ zero_filled g.third.form z) (form_width g.second.form) second_length)

  group_read : holds g.first.form (pos x) ≡ true → holds g.second.form (pos y) ≡ true → holds g.third.form (pos z) ≡ true → group_field g (group_bytes g x y z) ≡ K.Given (pos x) (pos y) (pos z)
  unfolding group_field
  group_read a b c =
      rw (group_some, first_mark, second_mark, eq-eqb g.mark g.mark refl, first_part, second_part, third_part, zero_back g.first.form x (part_form g.first (fine g h).first) a, zero_back g.second.form y (part_form g.second (fine g h).second) b, zero_back g.third.form z (part_form g.third (fine g h).third) c)

  -- the parts and marks, laid one after the other
  pub group_laid : (l l₁ l₃ l₅ : List ℕ) (one two : ℕ) → length l ≡ group_width g → one ≡ first_width g → two ≡ second_end g → l₁ ≡ placed 0 (zero_filled g.first.form x) l → l₃ ≡ placed (one + 1) (zero_filled g.second.form y) (set l₁ one g.mark) → l₅ ≡ placed (two + 1) (zero_filled g.third.form z) (set l₃ two g.mark) → l₅ ≡ group_bytes g x y z
  group_laid l l₁ l₃ l₅ one two n e f p q r =
      let A = zero_filled g.first.form x in
      let B = zero_filled g.second.form y in
      let C = zero_filled g.third.form z in
      let m = g.mark ∷ [] in
      let la = first_length in
      let lb = second_length in
      let lc = third_length in
      let n₁ : length l₁ ≡ length l = ap length p ∙ placed_length 0 A l (omega arith) in
      let s₂ : set l₁ one g.mark ≡ placed 0 (A ++ m) l = set_placed one l₁ g.mark (omega arith) ∙ ap (placed one m) p ∙ placed_placed 0 one A m l (omega arith) (omega arith) in
      let k₂ : length (A ++ m) ≡ one + 1 = length-append A m ∙ omega arith in
      let s₃ : l₃ ≡ placed 0 ((A ++ m) ++ B) l = q ∙ ap (placed (one + 1) B) s₂ ∙ placed_placed 0 (one + 1) (A ++ m) B l (omega arith) (omega arith) in
      let k₃ : length ((A ++ m) ++ B) ≡ two = length-append (A ++ m) B ∙ omega arith in
      let n₃ : length l₃ ≡ length l = ap length s₃ ∙ placed_length 0 ((A ++ m) ++ B) l (omega arith) in
      let s₄ : set l₃ two g.mark ≡ placed 0 (((A ++ m) ++ B) ++ m) l = set_placed two l₃ g.mark (omega arith) ∙ ap (placed two m) s₃ ∙ placed_placed 0 two ((A ++ m) ++ B) m l (omega arith) (omega arith) in
      let k₄ : length (((A ++ m) ++ B) ++ m) ≡ two + 1 = length-append ((A ++ m) ++ B) m ∙ omega arith in
      let s₅ : l₅ ≡ placed 0 ((((A ++ m) ++ B) ++ m) ++ C) l = r ∙ ap (placed (two + 1) C) s₄ ∙ placed_placed 0 (two + 1) (((A ++ m) ++ B) ++ m) C l (omega arith) (omega arith) in
      let k₅ : length ((((A ++ m) ++ B) ++ m) ++ C) ≡ length l = length-append (((A ++ m) ++ B) ++ m) C ∙ omega arith in
      s₅
      ∙ over_whole ((((A ++ m) ++ B) ++ m) ++ C) l k₅
      ∙ append_assoc (((A ++ m) ++ B)) m C
      ∙ append_assoc (A ++ m) B (m ++ C)
      ∙ append_assoc A m (B ++ (m ++ C))

-- ---- written, and read back

pub record Grouped (g : Group) (seen : List Slot) (at : ℕ) (a b c : Slot) (ys : List ℕ) : Type 0 where
  pub size : length ys ≡ group_width g
  pub plain : Clear false ys
  pub back : judge_group g seen at (group_field g ys) ≡ ok (group_rec a b c)

module _ (g : Group) (seen : List Slot) (at : ℕ) (h : T (good_group g)) where
  group_blank : (ys : List ℕ) → replicate (group_width g) 32 ≡ ys → Grouped g seen at missing missing missing ys
  unfolding group_field
  group_blank ys e = rw (← e) (record { size = length-replicate (group_width g) 32; plain = clear_blanks false (group_width g); back = rw (trim_blanks (group_width g)) })

  group_number : (x y z : ℤ) (ys : List ℕ) → group_holds g x y z ≡ true → group_range g seen x y z ≡ true → group_bytes g (nat_abs x) (nat_abs y) (nat_abs z) ≡ ys → Grouped g seen at (given x) (given y) (given z) ys
  group_number x y z ys o r e =
      let a = both_true (allowed (part_range g.first) seen x) _ (both_true (parts_range g seen x y z) _ r).0 in
      let b = both_true (allowed (part_range g.second) (seen ++ given x ∷ []) y) _ a.1 in
      let d = both_true (holds g.first.form x) _ o in
      let f = both_true (holds g.second.form y) (holds g.third.form z) d.1 in
      let px : x ≡ pos (nat_abs x) = not_below g.first seen x (part_low g.first (fine g h).first) a.0 in
      let py : y ≡ pos (nat_abs y) = not_below g.second (seen ++ given x ∷ []) y (part_low g.second (fine g h).second) b.0 in
      let pz : z ≡ pos (nat_abs z) = not_below g.third (seen ++ given x ∷ given y ∷ []) z (part_low g.third (fine g h).third) b.1 in
      let hx : holds g.first.form (pos (nat_abs x)) ≡ true = ap (holds g.first.form) (sym px) ∙ d.0 in
      let hy : holds g.second.form (pos (nat_abs y)) ≡ true = ap (holds g.second.form) (sym py) ∙ f.0 in
      let hz : holds g.third.form (pos (nat_abs z)) ≡ true = ap (holds g.third.form) (sym pz) ∙ f.1 in
      let q : group_field g ys ≡ K.Given x y z =
      ap (group_field g) (sym e)
      ∙ group_read g (nat_abs x) (nat_abs y) (nat_abs z) h hx hy hz
      ∙ ap (λ (u : ℤ). K.Given u (pos (nat_abs y)) (pos (nat_abs z))) (sym px)
      ∙ ap (λ (u : ℤ). K.Given x u (pos (nat_abs z))) (sym py)
      ∙ ap (λ (u : ℤ). K.Given x y u) (sym pz) in
      record {
        size = ap length (sym e) ∙ group_length g (nat_abs x) (nat_abs y) (nat_abs z) h;
        plain = subst (Clear false) e (group_clear g (nat_abs x) (nat_abs y) (nat_abs z) h);
        back = rw (q, r);
      }

  pub group_back : (a b c : Slot) (ys : List ℕ) → put_group g seen at a b c ≡ ok ys → Grouped g seen at a b c ys
  group_back missing missing missing ys e = group_blank ys (cc)
  group_back missing missing (given z) ys e = let z : ◌≡◌ {A = ℕ} 0 1 = cc in let y : ⊥ = omega arith in absurd y
  group_back missing (given y) c ys e = let z : ◌≡◌ {A = ℕ} 0 1 = cc in let y : ⊥ = omega arith in absurd y
  group_back (given x) missing c ys e = let z : ◌≡◌ {A = ℕ} 0 1 = cc in let y : ⊥ = omega arith in absurd y
  group_back (given x) (given y) missing ys e = let z : ◌≡◌ {A = ℕ} 0 1 = cc in let y : ⊥ = omega arith in absurd y
  group_back (given x) (given y) (given z) ys e =
      let a = held (group_holds g x y z) too_wide (at + 1) (pick (group_range g seen x y z) (ok (group_bytes g (nat_abs x) (nat_abs y) (nat_abs z))) (refusal out_of_range (at + 1))) ys e in
      let b = held (group_range g seen x y z) out_of_range (at + 1) (ok (group_bytes g (nat_abs x) (nat_abs y) (nat_abs z))) ys a.1 in
      group_number x y z ys a.0 b.0 (cc b.1)

-- ---- read, and written

pub record Took (g : Group) (seen : List Slot) (at : ℕ) (r : Rec) : Type 0 where
  pub first : Slot
  pub second : Slot
  pub third : Slot
  pub is : group_rec first second third ≡ r
  pub line : List ℕ
  pub put : put_group g seen at first second third ≡ ok line

-- three fields that make a group
record Fields (x y z : Field) (h m s : ℤ) : Type 0 where
  first : x ≡ F.Value h
  second : y ≡ F.Value m
  third : z ≡ F.Value s

fields_of : (x y z : Field) (h m s : ℤ) → three_of x y z ≡ K.Given h m s → Fields x y z h m s
fields_of F.Missing y z h m s e = let z : ◌≡◌ {A = ℕ} 0 1 = cc in let y : ⊥ = omega arith in absurd y
fields_of F.Bad y z h m s e = let z : ◌≡◌ {A = ℕ} 0 1 = cc in let y : ⊥ = omega arith in absurd y
fields_of (F.Value a) F.Missing z h m s e = let z : ◌≡◌ {A = ℕ} 0 1 = cc in let y : ⊥ = omega arith in absurd y
fields_of (F.Value a) F.Bad z h m s e = let z : ◌≡◌ {A = ℕ} 0 1 = cc in let y : ⊥ = omega arith in absurd y
fields_of (F.Value a) (F.Value b) F.Missing h m s e = let z : ◌≡◌ {A = ℕ} 0 1 = cc in let y : ⊥ = omega arith in absurd y
fields_of (F.Value a) (F.Value b) F.Bad h m s e = let z : ◌≡◌ {A = ℕ} 0 1 = cc in let y : ⊥ = omega arith in absurd y
fields_of (F.Value a) (F.Value b) (F.Value c) h m s e = record { first = cc; second = cc; third = cc }

marks_case : (t : Bool) (x : Three) (h m s : ℤ) → pick t x K.Bad ≡ K.Given h m s → x ≡ K.Given h m s
marks_case true x h m s e = e
marks_case false x h m s e = let z : ◌≡◌ {A = ℕ} 0 1 = cc in let y : ⊥ = omega arith in absurd y

blank_case : (t : Bool) (x : Three) (h m s : ℤ) → pick t K.Missing x ≡ K.Given h m s → x ≡ K.Given h m s
blank_case true x h m s e = let z : ◌≡◌ {A = ℕ} 0 1 = cc in let y : ⊥ = omega arith in absurd y
blank_case false x h m s e = e

-- a group that was read is as small as its fields
group_fits : (g : Group) (f : List ℕ) (h m s : ℤ) → T (good_group g) → length f ≡ group_width g → group_field g f ≡ K.Given h m s → group_holds g h m s ≡ true
unfolding group_field
group_fits g f h m s o l e =
    let q = fields_of (field_of g.first.form (take (first_width g) f)) (field_of g.second.form (take (form_width g.second.form) (drop (second_start g) f))) (field_of g.third.form (drop (third_start g) f)) h m s (marks_case (eqb (get_or f (first_width g) 0) g.mark && eqb (get_or f (second_end g) 0) g.mark) _ h m s (blank_case (all_blank f) _ h m s e)) in
    let la : length (take (first_width g) f) ≡ first_width g = length-take-le (first_width g) f (omega arith) in
    let lb : length (take (form_width g.second.form) (drop (second_start g) f)) ≡ form_width g.second.form = length-take-le (form_width g.second.form) (drop (second_start g) f) (omega (arith, length-drop (second_start g) f)) in
    let lc : length (drop (third_start g) f) ≡ form_width g.third.form = length-drop (third_start g) f ∙ omega arith in
    rw (form_holds g.first.form _ h (part_form g.first (fine g o).first) la q.first, form_holds g.second.form _ m (part_form g.second (fine g o).second) lb q.second, form_holds g.third.form _ s (part_form g.third (fine g o).third) lc q.third)

module _ (g : Group) (seen : List Slot) (at : ℕ) (r : Rec) where
  took : (x : Three) → ((h m s : ℤ) → x ≡ K.Given h m s → group_holds g h m s ≡ true) → judge_group g seen at x ≡ ok r → Took g seen at r
  took K.Missing f e = record { first = missing; second = missing; third = missing; is = cc; line = replicate (group_width g) 32; put = refl }
  took K.Bad f e = let z : ◌≡◌ {A = ℕ} 0 1 = cc in let y : ⊥ = omega arith in absurd y
  took (K.Given h m s) f e =
      let q = held (group_range g seen h m s) out_of_range (at + 1) (ok (group_rec (given h) (given m) (given s))) r e in
      record { first = given h; second = given m; third = given s; is = cc q.1; line = group_bytes g (nat_abs h) (nat_abs m) (nat_abs s); put = rw (f h m s refl, q.0) }

  pub group_took : (f : List ℕ) → T (good_group g) → length f ≡ group_width g → judge_group g seen at (group_field g f) ≡ ok r → Took g seen at r
  group_took f o l e = took (group_field g f) (λ h m s q. group_fits g f h m s o l q) e
