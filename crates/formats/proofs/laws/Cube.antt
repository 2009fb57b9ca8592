-- What a CUBE line that is read says, by its type.
use Rattle.std.specs.Prelude.{Ok, Err}
use Rattle.std.specs.Prelude.{Result}
use Rattle.columns.specs.declared.Refusal.{Refusal}
use mathlib.Core.Path.{◌≡◌, refl, ap, ◌∙◌}
use mathlib.Core.Bool.{Bool, true, false}
use mathlib.Core.List.{List, []}
use Prim.Native.Nat.{ℕ, ◌≤◌, ◌<◌}
use native.Mathlib.Omega.{arith}
use lib.ListN.{length, take, drop, get_or}
use lib.Dec.{ltb}
use lib.IntN.{ℤ}
use borrow.Author.Tests.{le-ltb, ltb-false}
use Rattle.columns.specs.Answer.{refusal_at, pick, Answer, ok, refusal, unless, differs, barred_byte, wrong_length}
use Rattle.columns.specs.Column.{Rec}
use Rattle.columns.specs.Reading.{read_columns, nothing}
use Rattle.columns.specs.Table.{outcome_of, ReadPart}
use Rattle.formats.specs.Check.{check_character}
use Rattle.formats.specs.Cube.{event_columns, event, delete, as_event, barred_to, clear_to, lowest_barred, read_text, delete_parts, is_type, event_row, event_part, line_part, line_read, LineRead, read_event, read_delete, read_link, read_line, wrong_type, wrong_check, Message}
use Rattle.columns.proofs.laws.Answers.{passed, done_of, differs_not, differs_same, differs_is}
use Rattle.columns.proofs.laws.Reader.{part_read, none_read}
use Rattle.columns.specs.Table.{Outcome}
use Rattle.formats.specs.declared.cube.Parts.{Parts}
use Rattle.formats.specs.declared.cube.Parts.TheVariants as P

-- ---- a DE or an LI line

module _ {A : Type 0} (low high last : ℕ) (parts : List ℕ → Answer A) (l : List ℕ) where
  pub record TextRead (m : A) : Type 0 where
    pub long : low ≤ length l
    pub short : length l ≤ high
    pub clear : barred_to last l ≡ 0
    pub rest : parts l ≡ ok m

  pub text_read : (m : A) → read_text low high last parts l ≡ ok m → TextRead m
  text_read m e =
      let p = passed (ltb (length l) low) wrong_length 0 (unless (ltb high (length l)) wrong_length 0 (clear_to last l (parts l))) m e in
      let q = passed (ltb high (length l)) wrong_length 0 (clear_to last l (parts l)) m p.1 in
      let r = passed (differs (barred_to last l) 0) barred_byte (barred_to last l) (parts l) m q.1 in
      record {
        long = ltb-false (length l) low p.0;
        short = ltb-false high (length l) q.0;
        clear = differs_same (barred_to last l) 0 r.0;
        rest = r.1;
      }

  pub text_clear : low ≤ length l → length l ≤ high → barred_to last l ≡ 0 → read_text low high last parts l ≡ parts l
  text_clear h k b = rw (le-ltb _ _ h, le-ltb _ _ k, differs_not (barred_to last l) 0 b)

-- by how it begins
module _ {A : Type 0} (low high last : ℕ) (parts : List ℕ → Answer A) (l : List ℕ) where
  pub text_begun : (Ok tt) ≡ outcome_of (read_text low high last ok l) → (low ≤ length l) × ((length l ≤ high) × (read_text low high last parts l ≡ parts l))
  text_begun e =
      let r = text_read low high last ok l _ (done_of (read_text low high last ok l) e).is in
      (r.long, (r.short, text_clear low high last parts l r.long r.short r.clear))

  pub text_refused : (r : Refusal) → Err r ≡ outcome_of (read_text low high last ok l) → read_text low high last parts l ≡ refusal r.reason r.column
  text_refused r = by_tests (ltb (length l) low) (ltb high (length l)) (differs (barred_to last l) 0)
    where
      by_tests : (s t u : Bool) → Err r ≡ outcome_of (unless s wrong_length 0 (unless t wrong_length 0 (unless u barred_byte (barred_to last l) (ok l)))) → unless s wrong_length 0 (unless t wrong_length 0 (unless u barred_byte (barred_to last l) (parts l))) ≡ refusal r.reason r.column
      by_tests true t u e = let z : refusal_at wrong_length 0 ≡ r = cc in rw (← z)
      by_tests false true u e = let z : refusal_at wrong_length 0 ≡ r = cc in rw (← z)
      by_tests false false true e = let z : refusal_at barred_byte (barred_to last l) ≡ r = cc in rw (← z)
      by_tests false false false e = let z : ◌≡◌ {A = ℕ} 0 1 = cc in let y : ⊥ = omega arith in absurd y

module _ (l : List ℕ) where
  pub delete_read : 13 ≤ length l → length l ≤ 80 → lowest_barred l ≡ 0 → read_delete l ≡ ok (delete (take 11 (drop 2 l)) (drop 13 l))
  unfolding read_delete
  delete_read h k b = text_clear 13 80 13 delete_parts l h k b

  -- ---- an E line

  pub event_columns_lem : length l ≡ 80 → lowest_barred (take 79 l) ≡ 0 → get_or l 79 0 ≡ check_character (take 79 l) → event_row l ≡ read_columns event_columns [] 2 (drop 2 l)
  unfolding event_row
  event_columns_lem n b c = rw (differs_not (length l) 80 n, differs_not (lowest_barred (take 79 l)) 0 b, differs_not (get_or l 79 0) (check_character (take 79 l)) c)

  -- what a line that is read as one says
  pub record EventRow (r : Rec) : Type 0 where
    pub size : length l ≡ 80
    pub clear : lowest_barred (take 79 l) ≡ 0
    pub check : get_or l 79 0 ≡ check_character (take 79 l)
    pub columns : read_columns event_columns [] 2 (drop 2 l) ≡ ok r

  pub event_row_lem : (r : Rec) → event_row l ≡ ok r → EventRow r
  unfolding event_row
  event_row_lem r e =
      let columns = read_columns event_columns [] 2 (drop 2 l) in
      let checked = unless (differs (get_or l 79 0) (check_character (take 79 l))) wrong_check 80 columns in
      let p = passed (differs (length l) 80) wrong_length 0 (clear_to 13 (take 79 l) checked) r e in
      let q = passed (differs (lowest_barred (take 79 l)) 0) barred_byte (lowest_barred (take 79 l)) checked r p.1 in
      let s = passed (differs (get_or l 79 0) (check_character (take 79 l))) wrong_check 80 columns r q.1 in
      record {
        size = differs_same (length l) 80 p.0;
        clear = differs_same (lowest_barred (take 79 l)) 0 q.0;
        check = differs_same (get_or l 79 0) (check_character (take 79 l)) s.0;
        columns = s.1;
      }

  -- where nothing is refused, what was stored is the record
  pub event_part_lem : (r : Rec) → EventRow r → event_part l ≡ r
  event_part_lem r w =
      rw (differs_not (length l) 80 w.size, differs_not (lowest_barred (take 79 l)) 0 w.clear, differs_not (get_or l 79 0) (check_character (take 79 l)) w.check) (part_read event_columns [] 2 (drop 2 l) r w.columns)

  pub record EventRead (m : Message) : Type 0 where
    pub row : Rec
    pub read : EventRow row
    pub is : event row.numbers row.chars ≡ m

  pub event_read_lem : (m : Message) → read_event l ≡ ok m → EventRead m
  unfolding read_event
  event_read_lem m = by_row (event_row l) refl
    where
      by_row : (a : Answer Rec) → event_row l ≡ a → as_event a ≡ ok m → EventRead m
      by_row (ok r) q e = record { row = r; read = event_row_lem r q; is = cc }
      by_row (refusal n k) q e = let z : ◌≡◌ {A = ℕ} 0 1 = cc in let y : ⊥ = omega arith in absurd y

  -- ---- any kind

  module _ (h : 2 ≤ length l) where
    pub line_event : get_or l 0 0 ≡ 69 → get_or l 1 0 ≡ 32 → read_line l ≡ read_event l
    unfolding read_line
    line_event a b = rw (le-ltb _ _ h, a, b)

    pub line_delete : get_or l 0 0 ≡ 68 → get_or l 1 0 ≡ 69 → read_line l ≡ read_delete l
    unfolding read_line
    line_delete a b = rw (le-ltb _ _ h, a, b)

    pub line_link : get_or l 0 0 ≡ 76 → get_or l 1 0 ≡ 73 → read_line l ≡ read_link l
    unfolding read_line
    line_link a b = rw (le-ltb _ _ h, a, b)

-- ---- a line that is read, by its type

pub data Came (l : List ℕ) (m : Message) : Type 0 where
  by_event : is_type 69 32 l ≡ true → read_event l ≡ ok m → Came l m
  by_delete : read_delete l ≡ ok m → Came l m
  by_link : is_type 76 73 l ≡ true → read_link l ≡ ok m → Came l m

pub came : (l : List ℕ) (m : Message) → read_line l ≡ ok m → Came l m
unfolding read_line
came l m = by_tests (ltb (length l) 2) (is_type 69 32 l) (is_type 68 69 l) (is_type 76 73 l) refl refl
  where
    by_tests : (r s t u : Bool) → is_type 69 32 l ≡ s → is_type 76 73 l ≡ u → unless r wrong_length 0 (pick s (read_event l) (pick t (read_delete l) (pick u (read_link l) (refusal wrong_type 1)))) ≡ ok m → Came l m
    by_tests true s t u g h e = let z : ◌≡◌ {A = ℕ} 0 1 = cc in let y : ⊥ = omega arith in absurd y
    by_tests false true t u g h e = by_event g e
    by_tests false false true u g h e = by_delete e
    by_tests false false false true g h e = by_link h e
    by_tests false false false false g h e = let z : ◌≡◌ {A = ℕ} 0 1 = cc in let y : ⊥ = omega arith in absurd y

-- ---- what the code stores

pub untouched : (a : Answer Message) (r : Result Parts Refusal) → r ≡ line_read a → (f : List ℕ) (v : List ℤ) (t : List ℕ) → LineRead a nothing r f f v v t t
untouched a r e f v t = let w = none_read wrong_length 0 f v t in record { answer = e; flags = w.flags; values = w.values; chars = w.chars }

-- the answer for an event, by that of its columns
abbrev event_read : Outcome → Result Parts Refusal
event_read (Ok u) = Ok P.Event
event_read (Err e) = Err e

event_answer : (a : Answer Rec) → event_read (outcome_of a) ≡ line_read (as_event a)
event_answer (ok r) = refl
event_answer (refusal n k) = refl

pub event_stored : {a : Answer Rec} {part : Rec} {o : Outcome} {f f₁ : List ℕ} {v v₁ : List ℤ} {t t₁ : List ℕ} → ReadPart a part o f f₁ v v₁ t t₁ → LineRead (as_event a) part (event_read o) f f₁ v v₁ t t₁
event_stored {a} p = record { answer = ap event_read p.answer ∙ event_answer a; flags = p.flags; values = p.values; chars = p.chars }

-- a line too short for a type
pub no_part : (l : List ℕ) → length l < 2 → line_part l ≡ nothing
no_part l h = rw (differs_is (length l) 80 (λ e. omega arith)) (by_test (is_type 69 32 l))
  where
    by_test : (t : Bool) → pick t nothing nothing ≡ nothing
    by_test true = refl
    by_test false = refl
