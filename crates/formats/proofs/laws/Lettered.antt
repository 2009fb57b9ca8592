-- Laws of lines by their first letter: the kind that the code's tables give a letter, a line that may come where it stands, and each
-- answer as the code comes to it.
use Rattle.std.specs.Prelude.{Ok, Err}
use Rattle.columns.specs.declared.Refusal.{Refusal}
use mathlib.Core.Path.{◌≡◌, refl, sym, ap, ap₂, ◌∙◌}
use mathlib.Core.Bool.{Bool, true, false}
use mathlib.Core.List.{List, [], ◌∷◌}
use Prim.Native.Nat.{ℕ, ◌≤◌, ◌<◌}
use native.Mathlib.Omega.{arith}
use lib.Dec.{eqb}
use Rattle.std.specs.Prelude.{Option, None, Some, find, unwrap_or}
use lib.ListN.{length, get_or}
use borrow.Author.Tests.{eq-eqb, ne_eqb, lt-ltb, le-ltb, le-leb}
use Rattle.columns.specs.Answer.{refusal_at, pick, Answer, ok, refusal, wrong_length, barred_byte, too_short}
use Rattle.columns.specs.Column.{Col, widths}
use Rattle.columns.specs.Table.{outcome_of}
use Rattle.columns.proofs.laws.Answers.{differs_is, differs_not}
use Rattle.formats.specs.Cube.{wrong_type}
use Rattle.formats.specs.Record.{Replied}
use Rattle.formats.specs.Row.{lowest_barred_byte, read_row, read_row_into, write_row_from}
use Rattle.formats.specs.Block.{out_of_place}
use Rattle.formats.specs.Format.{format_of}
use Rattle.formats.specs.BlockWriting.{record_call, RepliedFrom}
use Rattle.formats.specs.RunWriting.{lettered_call}
use Rattle.formats.specs.declared.lettered.LineKind.{LineKind}
use Rattle.formats.proofs.laws.Row.{made_passed}
use Rattle.formats.specs.Row.{Made, too_long, has_barred, well}
use Rattle.columns.specs.Table.{Outcome}
use Rattle.formats.specs.Lettered.{Lettered, kinds_of, lettered_of, named, leading, read_placed, read_as, into_record, read_lettered_into, numbered, kind_in, write_lettered}
use Rattle.formats.specs.RunSteps.{as_kind}
use Rattle.formats.specs.Record.{Reply}
use Rattle.formats.proofs.laws.CubeRecord.{replied_refused, replied_as}

-- ---- the kind of a letter, the first that has it

abbrev pub kind_answer : Option LineKind → Answer LineKind
kind_answer None = refusal wrong_type 1
kind_answer (Some k) = ok k

abbrev pub lettered_by : ℕ → LineKind → Bool
lettered_by b k = eqb b k.letter

pub named_find : (ks : List LineKind) (b : ℕ) → kind_answer (find (lettered_by b) ks) ≡ named ks b
unfolding named
named_find [] b = refl
named_find (k ∷ ks) b = by_letter (eqb b k.letter) refl (named_find ks b)
  where
    by_letter : (t : Bool) → eqb b k.letter ≡ t → kind_answer (find (lettered_by b) ks) ≡ named ks b → kind_answer (find (lettered_by b) (k ∷ ks)) ≡ pick t (ok k) (named ks b)
    by_letter true e h = rw e
    by_letter false e h = rw e h

-- ---- what a line's first letter says, as the code comes to it

module _ (ks : List LineKind) (l : List ℕ) where
  pub lead_none : length l ≡ 0 → Err (refusal_at wrong_length 0) ≡ as_kind (leading ks l)
  unfolding leading
  lead_none e = by_line l e
    where
      by_line : (s : List ℕ) → length s ≡ 0 → Err (refusal_at wrong_length 0) ≡ as_kind (leading ks s)
      by_line [] e = refl
      by_line (b ∷ s) e = absurd (omega arith)

  module _ (n : length l ≡ 0 → ⊥) {o : Option LineKind} (f : o ≡ find (lettered_by (get_or l 0 0)) ks) where
    pub lead_found : kind_answer o ≡ leading ks l
    unfolding leading
    lead_found = by_line l n f
      where
        by_line : (s : List ℕ) → (length s ≡ 0 → ⊥) → o ≡ find (lettered_by (get_or s 0 0)) ks → kind_answer o ≡ leading ks s
        by_line [] n f = absurd (n refl)
        by_line (b ∷ s) n f = rw f (named_find ks b)

-- ---- a line that may come where it stands, or not, as the code comes to it

-- one that may is read as a row
pub placed_row : (cs : List Col) (l : List ℕ) → read_placed true cs l ≡ read_row cs l
unfolding read_placed read_row
placed_row cs l = refl

-- so a line that may come where it stands is read there as it is alone
pub as_alone : (k : LineKind) (before : ℕ) (l : List ℕ) → before ≤ k.after → read_as (ok k) before l ≡ read_row (format_of k.kind).columns l
as_alone k before l h = rw (le-leb before k.after h) (placed_row (format_of k.kind).columns l)

module _ (p : Bool) (cs : List Col) (l : List ℕ) where
  pub placed_yes : p ≡ true → outcome_of (read_row cs l) ≡ outcome_of (read_placed p cs l)
  placed_yes e = sym (rw e (ap outcome_of (placed_row cs l)))

  pub placed_refused : {o : Outcome} → Made cs l o → (e : Refusal) → o ≡ Err e → Err e ≡ outcome_of (read_placed p cs l)
  unfolding read_placed
  placed_refused (too_long h) e q = let z : refusal_at wrong_length 0 ≡ e = cc in rw (← z, lt-ltb (widths cs) (length l) h)
  placed_refused (has_barred h n) e q =
      let z : refusal_at barred_byte (lowest_barred_byte l) ≡ e = cc in rw (← z, le-ltb (widths cs) (length l) h, differs_is (lowest_barred_byte l) 0 n)
  placed_refused (well h n) e q = let z : ◌≡◌ {A = ℕ} 0 1 = cc in absurd (omega arith)

  pub placed_not : {o : Outcome} → Made cs l o → o ≡ Ok tt → p ≡ false → Err (refusal_at out_of_place 0) ≡ outcome_of (read_placed p cs l)
  unfolding read_placed
  placed_not m e q =
      let w = made_passed m e in
      rw (le-ltb (widths cs) (length l) w.0, differs_not (lowest_barred_byte l) 0 w.1, q)

-- ---- a line of a run, as the code comes to it

module _ (ks : List LineKind) (l : List ℕ) where
  pub led_refused : (e : Refusal) → Err e ≡ as_kind (leading ks l) → leading ks l ≡ refusal e.reason e.column
  led_refused e d = by_lead (leading ks l) d
    where
      by_lead : (a : Answer LineKind) → Err e ≡ as_kind a → a ≡ refusal e.reason e.column
      by_lead (ok k) d = let z : ◌≡◌ {A = ℕ} 0 1 = cc in let y : ⊥ = omega arith in absurd y
      by_lead (refusal n c) d = let z : refusal_at n c ≡ e = cc in rw (← z)

  -- its kind, which the letter names
  pub led_kind : (k : LineKind) → Ok k ≡ as_kind (leading ks l) → leading ks l ≡ ok k
  led_kind k d = by_lead (leading ks l) d
    where
      by_lead : (a : Answer LineKind) → Ok k ≡ as_kind a → a ≡ ok k
      by_lead (ok k) d = cc
      by_lead (refusal n c) d = let z : ◌≡◌ {A = ℕ} 0 1 = cc in let y : ⊥ = omega arith in absurd y

-- ---- a line alone

module _ (ks : List LineKind) (most : ℕ) (l out : List ℕ) where
  pub into_short : length out < most → Replied (read_lettered_into ks most l (length out)) (Err (refusal_at too_short 0)) out out
  unfolding read_lettered_into
  into_short h = replied_refused _ out too_short 0 (rw (lt-ltb (length out) most h))

  module _ (h : most ≤ length out) where
    into_led : read_lettered_into ks most l (length out) ≡ into_record (leading ks l) l (length out)
    unfolding read_lettered_into
    into_led = rw (le-ltb (length out) most h)

    pub into_refused : (e : Refusal) → leading ks l ≡ refusal e.reason e.column → Replied (read_lettered_into ks most l (length out)) (Err e) out out
    into_refused e q = replied_refused _ out e.reason e.column (into_led ∙ ap (λ (x : Answer LineKind). into_record x l (length out)) q)

    pub into_kind : (k : LineKind) → leading ks l ≡ ok k → {r : Reply} {to : List ℕ} → Replied (read_row_into (format_of k.kind) l (length out)) r out to → Replied (read_lettered_into ks most l (length out)) r out to
    into_kind k e w = replied_as _ _ _ out _ (sym (into_led ∙ ap (λ (x : Answer LineKind). into_record x l (length out)) e)) w

-- ---- the kind of a record by its first byte, the first that has it

abbrev pub numbered_by : ℕ → LineKind → Bool
numbered_by b k = eqb b k.kind

pub numbered_find : (x : LineKind) (ks : List LineKind) (b : ℕ) → unwrap_or (find (numbered_by b) ks) x ≡ numbered x ks b
unfolding numbered
numbered_find x [] b = refl
numbered_find x (k ∷ ks) b = by_kind (eqb b k.kind) refl (numbered_find x ks b)
  where
    by_kind : (t : Bool) → eqb b k.kind ≡ t → unwrap_or (find (numbered_by b) ks) x ≡ numbered x ks b → unwrap_or (find (numbered_by b) (k ∷ ks)) x ≡ pick t k (numbered x ks b)
    by_kind true e h = rw e
    by_kind false e h = rw e h

module _ (x : LineKind) (ks : List LineKind) (r : List ℕ) {b : ℕ} (e : b ≡ get_or r 0 0) where
  pub kind_opener : b ≡ x.kind → x ≡ kind_in (lettered_of x ks) r
  unfolding numbered
  kind_opener h = sym (rw (← e, eq-eqb b x.kind h))

  pub kind_other : (b ≡ x.kind → ⊥) → {o : Option LineKind} → o ≡ find (numbered_by b) ks → {k : LineKind} → k ≡ unwrap_or o x → k ≡ kind_in (lettered_of x ks) r
  unfolding numbered
  kind_other n f g = g ∙ rw (← e, ne_eqb b x.kind n, f) (numbered_find x ks b)

-- ---- kinds in any number, of which the first opens an event

pub not_none : {ks : List LineKind} {x : LineKind} {xs : List LineKind} → ks ≡ x ∷ xs → ks ≡ [] → ⊥
not_none e h = let z : ◌≡◌ {A = ℕ} 0 1 = cc in omega arith

module _ (L : Lettered) {ks : List LineKind} (p : ks ≡ kinds_of L) where
  pub none_opened : ks ≡ [] → ⊥
  none_opened e = not_none p e

  module _ {x : LineKind} {xs : List LineKind} (e : ks ≡ x ∷ xs) where
    pub opened : lettered_of x xs ≡ L
    opened =
        let a : x ≡ L.opener = cc in
        let b : xs ≡ L.others = cc in
        ap₂ lettered_of a b

-- ---- a record written by the format of its kind

module _ (L : Lettered) (r : List ℕ) {k : LineKind} (e : k ≡ kind_in L r) {y : Reply} {out to : List ℕ} where
  pub written_as : (room : ℕ) → Replied (write_row_from (format_of k.kind) r room) y out to → Replied (write_lettered L r room) y out to
  unfolding write_lettered
  written_as room w = rw e at w

  pub recorded_as : (at size : ℕ) → RepliedFrom at (record_call (format_of k.kind) r at size) y out to → RepliedFrom at (lettered_call L r at size) y out to
  unfolding lettered_call
  recorded_as at size w = rw e at w
