-- An acceptable E line and an acceptable LI line, as the code comes to them.
use Rattle.std.specs.Prelude.{Ok}
use mathlib.Core.Path.{◌≡◌, refl, sym, ap, ◌∙◌}
use mathlib.Core.Bool.{Bool, true, false}
use mathlib.Core.List.{List, []}
use Prim.Native.Nat.{ℕ}
use native.Mathlib.Omega.{arith}
use lib.ListN.{length, take, drop, get_or}
use lib.Dec.{eqb}
use borrow.Author.Tests.{ne_eqb, eqb-true, eqb-false}
use Rattle.columns.specs.Answer.{Answer, ok, refusal, is_ok}
use Rattle.columns.specs.Column.{Rec}
use Rattle.columns.specs.Reading.{read_columns}
use Rattle.columns.proofs.laws.Tests.{and_false}
use Rattle.formats.specs.Check.{check_character}
use Rattle.formats.specs.Cube.{event_columns, Message, event, delete, link, as_event, lowest_barred, read_event, read_line, line_read, is_type}
use Rattle.formats.specs.Judge.{is_event_answer, is_event_line, is_link_answer, is_link_line}
use Rattle.formats.proofs.laws.Cube.{event_columns_lem, EventRead, line_event}
use Rattle.formats.proofs.laws.CubeThere.{event_there}
use Rattle.formats.specs.declared.cube.Parts.TheVariants as P

as_event_is : (a : Answer Rec) → is_event_answer (as_event a) ≡ is_ok a
as_event_is (ok r) = refl
as_event_is (refusal n k) = refl

-- the judge's answer is that of the line reader
pub event_line_is : (l : List ℕ) → is_event_line l ≡ is_event_answer (read_line l)
unfolding is_event_line
event_line_is l = refl

pub link_line_is : (l : List ℕ) → is_link_line l ≡ is_link_answer (read_line l)
unfolding is_link_line
link_line_is l = refl

module _ (l : List ℕ) where
  -- no other line is an event
  no_event : (is_type 69 32 l ≡ true → (m : Message) → EventRead l m → ⊥) → false ≡ is_event_line l
  unfolding is_event_line
  no_event f = by_answer (read_line l) refl
    where
      by_answer : (a : Answer Message) → read_line l ≡ a → false ≡ is_event_answer a
      by_answer (ok (event ns t)) e = let w = event_there l ns t e in absurd (f w.0 (event ns t) w.1)
      by_answer (ok (delete names t)) e = refl
      by_answer (ok (link names ty ad tx)) e = refl
      by_answer (refusal n k) e = refl

  pub judged_length : (length l ≡ 80 → ⊥) → false ≡ is_event_line l
  judged_length n = no_event (λ t m e. n e.read.size)

  type_not : is_type 69 32 l ≡ false → false ≡ is_event_line l
  type_not e = no_event (λ t m q. let z : ◌≡◌ {A = ℕ} 0 1 = cc in omega arith)

  pub judged_first : (get_or l 0 0 ≡ 69 → ⊥) → false ≡ is_event_line l
  judged_first n = type_not (rw (ne_eqb (get_or l 0 0) 69 n))

  pub judged_second : (get_or l 1 0 ≡ 32 → ⊥) → false ≡ is_event_line l
  judged_second n = type_not (rw (ne_eqb (get_or l 1 0) 32 n) (and_false (eqb (get_or l 0 0) 69)))

  module _ (h : length l ≡ 80) (a : get_or l 0 0 ≡ 69) (b : get_or l 1 0 ≡ 32) where
    is_event_lem : read_line l ≡ read_event l
    is_event_lem = line_event l (omega arith) a b

    pub judged_barred : (lowest_barred (take 79 l) ≡ 0 → ⊥) → false ≡ is_event_line l
    judged_barred p = no_event (λ t m e. p e.read.clear)

    module _ (p : lowest_barred (take 79 l) ≡ 0) where
      check_not : (get_or l 79 0 ≡ check_character (take 79 l) → ⊥) → false ≡ is_event_line l
      check_not q = no_event (λ t m e. q e.read.check)

      columns_are : get_or l 79 0 ≡ check_character (take 79 l) → is_ok (read_columns event_columns [] 2 (drop 2 l)) ≡ is_event_line l
      unfolding is_event_line read_event
      columns_are q =
          sym (ap is_event_answer (is_event_lem ∙ ap as_event (event_columns_lem l h p q)) ∙ as_event_is (read_columns event_columns [] 2 (drop 2 l)))

      by_check : (t : Bool) → eqb (get_or l 79 0) (check_character (take 79 l)) ≡ t → false ≡ is_ok (read_columns event_columns [] 2 (drop 2 l)) → false ≡ is_event_line l
      by_check true e q = q ∙ columns_are (eqb-true _ _ e)
      by_check false e q = check_not (eqb-false _ _ e)

      pub judged_columns : false ≡ is_ok (read_columns event_columns [] 2 (drop 2 l)) → false ≡ is_event_line l
      judged_columns q = by_check _ refl q

      pub judged_check : true ≡ is_ok (read_columns event_columns [] 2 (drop 2 l)) → (t : Bool) → t ≡ eqb (get_or l 79 0) (check_character (take 79 l)) → t ≡ is_event_line l
      judged_check q true e = q ∙ columns_are (eqb-true _ _ (sym e))
      judged_check q false e = check_not (eqb-false _ _ (sym e))

-- ---- a link, by the outcome of the line reader

module _ (l : List ℕ) where
  pub judged_link : (t d n : ℕ) → line_read (read_line l) ≡ Ok (P.Link t d n) → true ≡ is_link_line l
  unfolding is_link_line
  judged_link t d n = by_answer (read_line l)
    where
      by_answer : (a : Answer Message) → line_read a ≡ Ok (P.Link t d n) → true ≡ is_link_answer a
      by_answer (ok (event ns s)) p = let z : ◌≡◌ {A = ℕ} 0 1 = cc in absurd (omega arith)
      by_answer (ok (delete names s)) p = let z : ◌≡◌ {A = ℕ} 0 1 = cc in absurd (omega arith)
      by_answer (ok (link names ty ad tx)) p = refl
      by_answer (refusal m j) p = let z : ◌≡◌ {A = ℕ} 0 1 = cc in absurd (omega arith)

  pub judged_no_link : ((t d n : ℕ) → line_read (read_line l) ≡ Ok (P.Link t d n) → ⊥) → false ≡ is_link_line l
  unfolding is_link_line
  judged_no_link = by_answer (read_line l)
    where
      by_answer : (a : Answer Message) → ((t d n : ℕ) → line_read a ≡ Ok (P.Link t d n) → ⊥) → false ≡ is_link_answer a
      by_answer (ok (event ns s)) p = refl
      by_answer (ok (delete names s)) p = refl
      by_answer (ok (link names ty ad tx)) p = absurd (p _ _ _ refl)
      by_answer (refusal m j) p = refl
