-- Laws of answers: what an answer that is no refusal says of its parts, and what a writer owes by its answer.
use mathlib.Core.Path.{◌≡◌, refl, sym, ◌∙◌, ap}
use mathlib.Core.Bool.{Bool, true, false}
use mathlib.Core.List.{List, append-nil}
use Prim.Native.Nat.{ℕ}
use native.Mathlib.Omega.{arith}
use lib.ListN.{length, drop_of_length-le}
use lib.Dec.{eqb}
use borrow.Author.Tests.{ne_eqb, eq-eqb, eqb-true}
use Rattle.std.specs.Prelude.{Ok, Err}
use Rattle.columns.specs.declared.Reason.{Reason}
use Rattle.columns.specs.declared.Refusal.{Refusal}
use Rattle.columns.specs.Answer.{refusal_at, is_ok, pick, Answer, ok, refusal, differs, both, chain}
use Rattle.columns.specs.Table.{Outcome, over, outcome_of, Wrote, laid}

module _ {A : Type 0} where
  -- ---- an answer in two parts

  pub record Split (f : A → A → A) (x y : Answer A) (c : A) : Type 0 where
    pub a : A
    pub b : A
    pub first : x ≡ ok a
    pub second : y ≡ ok b
    pub is : f a b ≡ c

  pub split : (f : A → A → A) (x y : Answer A) (c : A) → both f x y ≡ ok c → Split f x y c
  split f (ok a) (ok b) c e = record { a = a; b = b; first = refl; second = refl; is = cc }
  split f (ok a) (refusal n k) c e = let z : ◌≡◌ {A = ℕ} 0 1 = cc in let y : ⊥ = omega arith in absurd y
  split f (refusal n k) y c e = let z : ◌≡◌ {A = ℕ} 0 1 = cc in let y : ⊥ = omega arith in absurd y

  pub record Chained (f : A → A → A) (x : Answer A) (o : A → Answer A) (c : A) : Type 0 where
    pub a : A
    pub b : A
    pub first : x ≡ ok a
    pub second : o a ≡ ok b
    pub is : f a b ≡ c

  chain_first : (f : A → A → A) (a : A) (o : A → Answer A) (y : Answer A) (c : A) → o a ≡ y → both f (ok a) y ≡ ok c → Chained f (ok a) o c
  chain_first f a o (ok b) c d e = record { a = a; b = b; first = refl; second = d; is = cc }
  chain_first f a o (refusal n k) c d e = let z : ◌≡◌ {A = ℕ} 0 1 = cc in let y : ⊥ = omega arith in absurd y

  pub chained : (f : A → A → A) (x : Answer A) (o : A → Answer A) (c : A) → chain f x o ≡ ok c → Chained f x o c
  chained f (ok a) o c e = chain_first f a o (o a) c refl e
  chained f (refusal n k) o c e = let z : ◌≡◌ {A = ℕ} 0 1 = cc in let y : ⊥ = omega arith in absurd y

  -- ---- a test before an answer: one that must fail, and one that must hold

  pub passed : (b : Bool) (n : Reason) (k : ℕ) (y : Answer A) (c : A) → pick b (refusal n k) y ≡ ok c → (b ≡ false) × (y ≡ ok c)
  passed true n k y c e = let z : ◌≡◌ {A = ℕ} 0 1 = cc in let y : ⊥ = omega arith in absurd y
  passed false n k y c e = (refl, e)

  pub held : (b : Bool) (n : Reason) (k : ℕ) (y : Answer A) (c : A) → pick b y (refusal n k) ≡ ok c → (b ≡ true) × (y ≡ ok c)
  held false n k y c e = let z : ◌≡◌ {A = ℕ} 0 1 = cc in let y : ⊥ = omega arith in absurd y
  held true n k y c e = (refl, e)

  -- ---- an answer as the code gives it

  pub record Done (a : Answer A) : Type 0 where
    pub value : A
    pub is : a ≡ ok value

  pub done_of : (a : Answer A) → (Ok tt) ≡ outcome_of a → Done a
  done_of (ok x) e = record { value = x; is = refl }
  done_of (refusal n k) e = let z : ◌≡◌ {A = ℕ} 0 1 = cc in let y : ⊥ = omega arith in absurd y

  pub ok_done : (a : Answer A) → (Ok tt) ≡ outcome_of a → true ≡ is_ok a
  ok_done (ok x) e = refl
  ok_done (refusal n k) e = let z : ◌≡◌ {A = ℕ} 0 1 = cc in let y : ⊥ = omega arith in absurd y

  pub ok_refused : (a : Answer A) (e : Refusal) → Err e ≡ outcome_of a → false ≡ is_ok a
  ok_refused (ok x) r e = let z : ◌≡◌ {A = ℕ} 0 1 = cc in let y : ⊥ = omega arith in absurd y
  ok_refused (refusal m j) r e = refl

  pub refused_of : (a : Answer A) (e : Refusal) → Err e ≡ outcome_of a → a ≡ refusal e.reason e.column
  refused_of (ok x) r e = let z : ◌≡◌ {A = ℕ} 0 1 = cc in let y : ⊥ = omega arith in absurd y
  refused_of (refusal m j) r e = let z : refusal_at m j ≡ r = cc in rw (← z)

-- ---- two numbers that differ

pub differs_not : (a b : ℕ) → a ≡ b → differs a b ≡ false
differs_not a b e = rw (eq-eqb a b e)

pub differs_same : (a b : ℕ) → differs a b ≡ false → a ≡ b
differs_same a b e = by_test (eqb a b) refl e
  where
    by_test : (t : Bool) → eqb a b ≡ t → pick t false true ≡ false → a ≡ b
    by_test true p q = eqb-true a b p
    by_test false p q = let z : ◌≡◌ {A = ℕ} 0 1 = cc in let y : ⊥ = omega arith in absurd y

pub differs_is : (a b : ℕ) → (a ≡ b → ⊥) → differs a b ≡ true
differs_is a b n = rw (ne_eqb a b n)

-- ---- a list over the first places of another

pub over_whole : {A : Type 0} (xs l : List A) → length xs ≡ length l → over xs l ≡ xs
over_whole xs l e = rw (drop_of_length-le l {i = length xs} (omega arith), append-nil)

-- ---- a column's bytes

module _ (a : Answer (List ℕ)) (l : List ℕ) where
  pub wrote_refused : (n : Reason) (k : ℕ) → a ≡ refusal n k → Wrote a (Err (refusal_at n k)) l l
  wrote_refused n k e = rw e (record { answer = refl; bytes = refl })

  pub wrote_done : (ys to : List ℕ) → a ≡ ok ys → length ys ≡ length l → to ≡ ys → Wrote a (Ok tt) l to
  wrote_done ys to e h f = rw e (record { answer = refl; bytes = f ∙ sym (over_whole ys l h) })

  pub wrote_as : (b : Answer (List ℕ)) (r : Outcome) (to : List ℕ) → b ≡ a → Wrote b r l to → Wrote a r l to
  wrote_as b r to e w = rw (← e) w

module _ {a : Answer (List ℕ)} {r : Outcome} {from to : List ℕ} (w : Wrote a r from to) where
  pub wrote_bytes : (ys : List ℕ) → a ≡ ok ys → to ≡ over ys from
  wrote_bytes ys e = w.bytes ∙ ap (λ (x : Answer (List ℕ)). laid x from) e

  pub wrote_same : (n : Reason) (k : ℕ) → a ≡ refusal n k → to ≡ from
  wrote_same n k e = w.bytes ∙ ap (λ (x : Answer (List ℕ)). laid x from) e

pub wrote_whole : {a : Answer (List ℕ)} {from to ys : List ℕ} → a ≡ ok ys → to ≡ over ys from → Wrote a (Ok tt) from to
wrote_whole e f = rw e (record { answer = refl; bytes = f })
