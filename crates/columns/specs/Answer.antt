-- What is answered: what was asked for, or the refusal and its column. Document 01, "Numbers answered".
use Rattle.std.specs.Prelude.{ℕ, Bool, true, false, eqb}
use Rattle.columns.specs.declared.Reason.{Reason}
use Rattle.columns.specs.declared.Reason.TheVariants as R
use Rattle.columns.specs.declared.Refusal.{Refusal}

-- the first where the test holds, else the second
abbrev pub pick : {A : Type 0} → Bool → A → A → A
pick true a b = a
pick false a b = b

-- the number of each refusal
abbrev pub number_of : Reason → ℕ
number_of R.Length = 1
number_of R.Barred = 2
number_of R.Type = 3
number_of R.Separator = 4
number_of R.Required = 5
number_of R.Form = 6
number_of R.Range = 7
number_of R.Letter = 8
number_of R.Check = 9
number_of R.Wide = 10
number_of R.Short = 11
number_of R.Full = 12
number_of R.Disorder = 13
number_of R.OutOfPlace = 14
number_of R.NotClosed = 15
number_of R.LinksFull = 16
number_of R.Dropped = 17

-- the refusals of a line's length, of a column, of a line that is written, and of the place lent for it
abbrev pub wrong_length : Reason
wrong_length = R.Length

abbrev pub barred_byte : Reason
barred_byte = R.Barred

abbrev pub not_blank : Reason
not_blank = R.Separator

abbrev pub required_blank : Reason
required_blank = R.Required

abbrev pub bad_form : Reason
bad_form = R.Form

abbrev pub out_of_range : Reason
out_of_range = R.Range

abbrev pub wrong_letter : Reason
wrong_letter = R.Letter

abbrev pub too_wide : Reason
too_wide = R.Wide

abbrev pub too_short : Reason
too_short = R.Short

-- a refusal as the code has it
abbrev pub refusal_at : Reason → ℕ → Refusal
refusal_at n k = record { reason = n; column = k }

pub data Answer (A : Type 0) : Type 0 where
  ok : A → Answer A
  refusal : Reason → ℕ → Answer A

-- the answer, where the test finds nothing to refuse
abbrev pub unless : {A : Type 0} → Bool → Reason → ℕ → Answer A → Answer A
unless t n k o = pick t (refusal n k) o

abbrev pub differs : ℕ → ℕ → Bool
differs a b = pick (eqb a b) false true

-- no refusal
abbrev pub is_ok : {A : Type 0} → Answer A → Bool
is_ok (ok x) = true
is_ok (refusal n k) = false

-- the first refusal, or both parts together
abbrev pub both : {A : Type 0} → (A → A → A) → Answer A → Answer A → Answer A
both f (refusal n k) o = refusal n k
both f (ok a) (refusal n k) = refusal n k
both f (ok a) (ok b) = ok (f a b)

-- the same, where the second part goes by the first
abbrev pub chain : {A : Type 0} → (A → A → A) → Answer A → (A → Answer A) → Answer A
chain f (refusal n k) o = refusal n k
chain f (ok a) o = both f (ok a) (o a)
