-- The answers of one written field, each as the code comes to it.
use mathlib.Core.Path.{◌≡◌, refl}
use mathlib.Core.Bool.{Bool, true, false}
use mathlib.Core.List.{List, [], ◌∷◌}
use native.Mathlib.Omega.{arith}
use Prim.Native.Nat.{ℕ, ◌+◌}
use lib.ListN.{length, get_or, replicate}
use lib.Dec.{eqb}
use lib.IntN.{ℤ, nat_abs}
use borrow.Author.Tests.{ne_eqb, eq-eqb}
use Rattle.columns.specs.Answer.{pick, Answer, ok, refusal, barred_byte, required_blank, out_of_range, too_wide}
use Rattle.columns.specs.declared.number.Form.{Form}
use Rattle.columns.specs.declared.group.Group.{Group}
use Rattle.columns.specs.Number.{form_width, holds, field_bytes}
use Rattle.columns.specs.Column.{Slot, missing, given, group_width}
use Rattle.columns.specs.Group.{group_range, group_bytes, group_holds, put_group}
use Rattle.columns.specs.Bytes.{is_allowed, inside, barred}
use Rattle.columns.specs.Writing.{put_number, barred_in, put_text}
use Rattle.columns.specs.Table.{slot_of}

-- ---- a number

module _ (m : Form) (q : Bool) (fits : ℤ → Bool) (at : ℕ) (f : ℕ) (v : ℤ) where
  pub put_missing : f ≡ 0 → put_number m q fits at (slot_of f v) ≡ pick q (refusal required_blank (at + 1)) (ok (replicate (form_width m) 32))
  put_missing e = rw (eq-eqb _ _ e)

  module _ (n : f ≡ 0 → ⊥) where
    pub put_wide : holds m v ≡ false → put_number m q fits at (slot_of f v) ≡ refusal too_wide (at + 1)
    put_wide e = rw (ne_eqb _ _ n) (rw e)

    pub put_out : holds m v ≡ true → fits v ≡ false → put_number m q fits at (slot_of f v) ≡ refusal out_of_range (at + 1)
    put_out e g = rw (ne_eqb _ _ n) (rw (e, g))

    pub put_in : holds m v ≡ true → fits v ≡ true → put_number m q fits at (slot_of f v) ≡ ok (field_bytes m v)
    put_in e g = rw (ne_eqb _ _ n) (rw (e, g))

-- the range step, made before
pub put_tested : (m : Form) (q : Bool) (fits : ℤ → Bool) (at : ℕ) (v : ℤ) (b : Bool) → b ≡ fits v → (t : Bool) → put_number m q (λ x. b) at (pick t missing (given v)) ≡ put_number m q fits at (pick t missing (given v))
put_tested m q fits at v b e true = refl
put_tested m q fits at v b e false = rw e

-- ---- text

module _ (bars : Bool) (at : ℕ) (t : List ℕ) (o : Answer (List ℕ)) (k : ℕ) (e : k ≡ barred_in bars at t) where
  pub text_barred : (k ≡ 0 → ⊥) → put_text bars at t o ≡ refusal barred_byte k
  text_barred n = rw (← e, ne_eqb _ _ n)

  pub text_clear : k ≡ 0 → put_text bars at t o ≡ o
  text_clear n = rw (← e, n)

-- text of one byte, which is barred or not
one_case : (at : ℕ) (o : Answer (List ℕ)) (a t : Bool) → t ≡ pick a false true → pick (eqb (pick a 0 (at + 1)) 0) o (refusal barred_byte (pick a 0 (at + 1))) ≡ pick t (refusal barred_byte (at + 1)) o
one_case at o true t e = rw e
one_case at o false t e = rw (e, ne_eqb (at + 1) 0 (λ z. omega arith))

pub one_byte : (at : ℕ) (s : List ℕ) (o : Answer (List ℕ)) (t : Bool) → length s ≡ 1 → t ≡ pick (is_allowed (inside 0 0 (at + 1)) (get_or s 0 0)) false true → put_text false at s o ≡ pick t (refusal barred_byte (at + 1)) o
unfolding barred
one_byte at [] o t l e = absurd (omega arith)
one_byte at (b ∷ []) o t l e = one_case at o (is_allowed (inside 0 0 (at + 1)) b) t e
one_byte at (b ∷ d ∷ s) o t l e = absurd (omega arith)

-- ---- a group

module _ (g : Group) (seen : List Slot) (at : ℕ) (fm fs : ℕ) (m s : ℤ) where
  pub none_second : (fm ≡ 0 → ⊥) → put_group g seen at missing (slot_of fm m) (slot_of fs s) ≡ refusal required_blank (at + 1)
  none_second n = rw (ne_eqb _ _ n)

  pub none_third : fm ≡ 0 → (fs ≡ 0 → ⊥) → put_group g seen at missing (slot_of fm m) (slot_of fs s) ≡ refusal required_blank (at + 1)
  none_third a n = rw (a, ne_eqb _ _ n)

  pub none_all : fm ≡ 0 → fs ≡ 0 → put_group g seen at missing (slot_of fm m) (slot_of fs s) ≡ ok (replicate (group_width g) 32)
  none_all a b = rw (a, b)

module _ (g : Group) (seen : List Slot) (at : ℕ) (fh fm fs : ℕ) (h m s : ℤ) where
  pub no_first : fh ≡ 0 → put_group g seen at missing (slot_of fm m) (slot_of fs s) ≡ put_group g seen at (slot_of fh h) (slot_of fm m) (slot_of fs s)
  no_first e = rw (eq-eqb _ _ e)

  module _ (a : fh ≡ 0 → ⊥) where
    pub no_second : fm ≡ 0 → put_group g seen at (slot_of fh h) (slot_of fm m) (slot_of fs s) ≡ refusal required_blank (at + 1)
    no_second e = rw (ne_eqb _ _ a) (rw e)

    module _ (b : fm ≡ 0 → ⊥) where
      pub no_third : fs ≡ 0 → put_group g seen at (slot_of fh h) (slot_of fm m) (slot_of fs s) ≡ refusal required_blank (at + 1)
      no_third e = rw (ne_eqb fh 0 a, ne_eqb fm 0 b) (rw e)

      pub all_three : (fs ≡ 0 → ⊥) → put_group g seen at (given h) (given m) (given s) ≡ put_group g seen at (slot_of fh h) (slot_of fm m) (slot_of fs s)
      all_three d = rw (ne_eqb fh 0 a, ne_eqb fm 0 b, ne_eqb fs 0 d)

module _ (g : Group) (seen : List Slot) (at : ℕ) (h m s : ℤ) where
  pub three_wide : group_holds g h m s ≡ false → put_group g seen at (given h) (given m) (given s) ≡ refusal too_wide (at + 1)
  three_wide e = rw e

  pub three_out : group_holds g h m s ≡ true → group_range g seen h m s ≡ false → put_group g seen at (given h) (given m) (given s) ≡ refusal out_of_range (at + 1)
  three_out e f = rw (e, f)

  pub three_in : group_holds g h m s ≡ true → group_range g seen h m s ≡ true → put_group g seen at (given h) (given m) (given s) ≡ ok (group_bytes g (nat_abs h) (nat_abs m) (nat_abs s))
  three_in e f = rw (e, f)

pub group_slots : (g : Group) (seen : List Slot) (at : ℕ) (x y z a b c : Slot) → x ≡ a → y ≡ b → z ≡ c → put_group g seen at x y z ≡ put_group g seen at a b c
group_slots g seen at x y z a b c p q r = rw (p, q, r)
