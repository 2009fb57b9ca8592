-- Laws of the table's writer: one column as the code comes to it, and the turns of its loop.
use mathlib.Core.Path.{◌≡◌, refl, sym, ap, ◌∙◌}
use mathlib.Core.Bool.{Bool, true, false}
use mathlib.Core.List.{List, [], ◌∷◌, ◌++◌, append_assoc, append-nil}
use Prim.Native.Nat.{ℕ, ◌+◌, ◌-◌, ◌≤◌, ◌<◌}
use native.Mathlib.Omega.{arith}
use lib.ListN.{length, take, drop, get_or, replicate, length-append, length-drop, length-replicate}
use lib.Dec.{T}
use lib.IntN.{ℤ}
use borrow.Author.Tests.{le-ltb, lt-ltb}
use lib.Seq.{slice, take_all, length-take-le, drop-drop, take-add, drop-cons, get_or-take, get_or-drop}
use borrow.Rule.Slice.PartMut.{mid_of, put_mid, mid_len, put_same}
use Rattle.columns.specs.declared.column.Column.{Column}
use Rattle.columns.specs.declared.number.Form.{Form}
use Rattle.std.specs.Prelude.{Ok, Err}
use Rattle.columns.specs.declared.Refusal.{Refusal}
use Rattle.columns.specs.declared.group.Group.{Group}
use Rattle.columns.specs.Answer.{refusal_at, Answer, ok, refusal, both, too_short}
use Rattle.columns.specs.Column.{Slot, missing, Range, allowed, Rule, rule_bars, Col, numeric, group, printed, width, slots, texts, good, widths, all_slots, all_texts}
use Rattle.columns.specs.Group.{put_group}
use Rattle.columns.specs.Reading.{rule_refuses, rule_number, judge_text}
use Rattle.columns.specs.Writing.{put_number, put_text, write_cell, write_columns, write_line, write_part}
use Rattle.columns.specs.Table.{Outcome, column_in, col_of, columns_of, over, outcome_of, Wrote, WrotePart, Ready, Table, placed}
use Rattle.columns.proofs.laws.Table.{columns_more, columns_none, table_good, table_fits, table_low, table_numbers, table_chars, table_line, table_next}
use Rattle.columns.proofs.laws.Answers.{split, over_whole, refused_of, done_of, wrote_refused, wrote_same, wrote_bytes, wrote_whole}
use Rattle.columns.proofs.laws.Places.{placed_none, placed_length, placed_placed, placed_take, part_placed}
use Rattle.columns.proofs.laws.Columns.{cell_written, columns_size}

-- ---- the answer of each kind of column

-- text by its rule
module _ (x : Rule) (at n : ℕ) (t : List ℕ) (told : Bool) (g : told ≡ rule_refuses x (slice 0 n t)) (h : n ≡ length t) where
  told_of : rule_refuses x t ≡ told
  told_of = sym (g ∙ ap (rule_refuses x) (take_all n t (omega arith)))

  pub rule_refused : told ≡ true → judge_text x at t (put_text (rule_bars x) at t (ok t)) ≡ refusal (rule_number x) (at + 1)
  rule_refused e = rw (told_of ∙ e)

  pub rule_there : told ≡ false → put_text (rule_bars x) at t (ok t) ≡ judge_text x at t (put_text (rule_bars x) at t (ok t))
  rule_there e = rw (told_of ∙ e)

-- ---- a column at its places of the record

take_one : (S : List Slot) (k : ℕ) → k < length S → take 1 (drop k S) ≡ get_or S k missing ∷ []
take_one S k h = rw (drop-cons S k missing h)

module _ (at k t : ℕ) (S : List Slot) (chs : List ℕ) where
  pub at_number : (m : Form) (q : Bool) (g : Range) → k < length S → put_number m q (allowed g (take k S)) at (get_or S k missing) ≡ write_cell (numeric m q g) (take k S) at (take 1 (drop k S)) (take 0 (drop t chs))
  unfolding write_cell
  at_number m q g h = rw (take_one S k h)

  pub at_group : (g : Group) → put_group g (take k S) at (get_or S k missing) (get_or S (k + 1) missing) (get_or S (k + 2) missing) ≡ write_cell (group g) (take k S) at (take 3 (drop k S)) (take 0 (drop t chs))
  unfolding write_cell
  at_group g =
      let z : k + 0 ≡ k = omega arith in
      let a : get_or (take 3 (drop k S)) 0 missing ≡ get_or S k missing = get_or-take 3 (drop k S) 0 missing (omega arith) ∙ get_or-drop k S 0 missing ∙ rw z in
      let b : get_or (take 3 (drop k S)) 1 missing ≡ get_or S (k + 1) missing = get_or-take 3 (drop k S) 1 missing (omega arith) ∙ get_or-drop k S 1 missing in
      let d : get_or (take 3 (drop k S)) 2 missing ≡ get_or S (k + 2) missing = get_or-take 3 (drop k S) 2 missing (omega arith) ∙ get_or-drop k S 2 missing in
      rw (a, b, d)

-- ---- lines in two parts

both_none : (o : Answer (List ℕ)) → o ≡ both ◌++◌ (ok []) o
both_none (ok xs) = refl
both_none (refusal n k) = refl

both_both : (a b : List ℕ) (o : Answer (List ℕ)) → both ◌++◌ (ok a) (both ◌++◌ (ok b) o) ≡ both ◌++◌ (ok (a ++ b)) o
both_both a b (ok xs) = rw append_assoc
both_both a b (refusal n k) = refl

-- where nothing is refused, what was written is the line
pub part_wrote : (cs : List Col) (seen : List Slot) (at : ℕ) (ns : List Slot) (t ys : List ℕ) → write_columns cs seen at ns t ≡ ok ys → write_part cs seen at ns t ≡ ys
unfolding write_columns write_part
part_wrote [] seen at ns t ys e = cc
part_wrote (c ∷ cs) seen at ns t ys e =
    let s = split ◌++◌ (write_cell c seen at (take (slots c) ns) (take (texts c) t)) (write_columns cs (seen ++ take (slots c) ns) (at + width c) (drop (slots c) ns) (drop (texts c) t)) ys e in
    rw (s.first, part_wrote cs (seen ++ take (slots c) ns) (at + width c) (drop (slots c) ns) (drop (texts c) t) s.b s.second) s.is

-- ---- the turns of the loop

-- `done` was written after the first `start` bytes; the columns `rest` are left, with the record from numbers k and text t on
pub record Going (cs : List Col) (start : ℕ) (S : List Slot) (chs out₀ : List ℕ) (nv : ℕ) (rest : List Col) (at k t : ℕ) (out : List ℕ) : Type 0 where
  pub done : List ℕ
  pub here : at ≡ start + length done
  pub bytes : out ≡ placed start done out₀
  pub ready : Table rest at (length out₀) k (length S) nv t (length chs)
  pub wrote : write_columns cs [] start S chs ≡ both ◌++◌ (ok done) (write_columns rest (take k S) at (drop k S) (drop t chs))
  pub part : write_part cs [] start S chs ≡ done ++ write_part rest (take k S) at (drop k S) (drop t chs)

pub going_start : (cs : List Col) (start : ℕ) (S : List Slot) (chs out₀ : List ℕ) (nf nv : ℕ) → length S ≡ nf → Table cs start (length out₀) 0 nf nv 0 (length chs) → Going cs start S chs out₀ nv cs start 0 0 out₀
going_start cs start S chs out₀ nf nv e p =
    record {
      done = [];
      here = omega arith;
      bytes = placed_none start out₀;
      ready = rw e p;
      wrote = both_none (write_columns cs [] start S chs);
      part = refl;
    }

module _ {cs : List Col} {start : ℕ} {S : List Slot} {chs out₀ : List ℕ} {nv : ℕ} {rest : List Col} {at k t : ℕ} {out : List ℕ} (g : Going cs start S chs out₀ nv rest at k t out) where
  pub out_size : length out ≡ length out₀
  out_size = ap length g.bytes ∙ placed_length start g.done out₀ (omega (arith, g.here, g.ready.line))

  going_part : (r : Outcome) (a : Answer (List ℕ)) → write_columns cs [] start S chs ≡ a → write_part cs [] start S chs ≡ g.done → r ≡ outcome_of a → WrotePart (write_columns cs [] start S chs) (write_part cs [] start S chs) start r out₀ out
  going_part r a e p q = record { answer = rw e q; bytes = rw p g.bytes }

pub going_end : {cs : List Col} {start : ℕ} {S : List Slot} {chs out₀ : List ℕ} {nv : ℕ} {at k t : ℕ} {out : List ℕ} → Going cs start S chs out₀ nv [] at k t out → WrotePart (write_columns cs [] start S chs) (write_part cs [] start S chs) start (Ok tt) out₀ out
unfolding write_columns write_part
going_end g = going_part g (Ok tt) (ok g.done) (g.wrote ∙ ap ok (append-nil g.done)) (g.part ∙ append-nil g.done) refl

module _ {cs : List Col} {start : ℕ} {S : List Slot} {chs out₀ : List ℕ} {nv : ℕ} {c : Col} {rest : List Col} {at k t : ℕ} {out : List ℕ} (g : Going cs start S chs out₀ nv (c ∷ rest) at k t out) where
  module _ (w : ℕ) (u : w ≡ width c) where
    pub turn_fits : at + w ≤ length out
    turn_fits = omega (arith, out_size g, table_fits g.ready w u)

    pub turn_mid : length (mid_of at (at + w - at) out) ≡ w
    turn_mid =
        let z : at + w - at ≡ w = omega arith in
        mid_len at (at + w) out turn_fits ∙ z

    pub turn_ready : (nf : ℕ) → length S ≡ nf → Ready c (length (mid_of at (at + w - at) out)) at k nf nv t (length chs)
    turn_ready nf l =
        record {
          fine = (table_good g.ready).0;
          wide = turn_mid ∙ u;
          low = omega (arith, turn_mid, table_low g.ready w u);
          same = sym l ∙ g.ready.same;
          numbers = omega (arith, table_numbers g.ready);
          chars = omega (arith, table_chars g.ready);
        }

    module _ {mid : List ℕ} where
      pub turn_refused : (e : Refusal) → Wrote (write_cell c (take k S) at (take (slots c) (drop k S)) (take (texts c) (drop t chs))) (Err e) (mid_of at (at + w - at) out) mid → WrotePart (write_columns cs [] start S chs) (write_part cs [] start S chs) start (Err e) out₀ (put_mid at (at + w - at) out mid)
      unfolding write_columns write_part
      turn_refused e s =
          let q = refused_of (write_cell c (take k S) at (take (slots c) (drop k S)) (take (texts c) (drop t chs))) e s.answer in
          let b : mid ≡ mid_of at (at + w - at) out = wrote_same s e.reason e.column q in
          let o : put_mid at (at + w - at) out mid ≡ out = rw b (put_same at (at + w - at) out) in
          rw o (going_part g (Err e) (refusal e.reason e.column) (g.wrote ∙ rw q) (g.part ∙ rw q (append-nil g.done)) refl)

      turn_wrote : (at₁ k₁ t₁ : ℕ) → at₁ ≡ at + width c → k₁ ≡ k + slots c → t₁ ≡ t + texts c → (ys : List ℕ) → length ys ≡ width c → write_cell c (take k S) at (take (slots c) (drop k S)) (take (texts c) (drop t chs)) ≡ ok ys → mid ≡ ys → Going cs start S chs out₀ nv rest at₁ k₁ t₁ (put_mid at (at + w - at) out mid)
      unfolding write_columns write_part
      turn_wrote at₁ k₁ t₁ ea ek et ys l q b =
          let z : at + w ≡ at + length ys = omega arith in
          record {
            done = g.done ++ ys;
            here = omega (arith, g.here, length-append g.done ys);
            bytes =
                ap (put_mid at (at + w - at) out) b
                ∙ part_placed at (at + w) ys out z
                ∙ ap (placed at ys) g.bytes
                ∙ placed_placed start at g.done ys out₀ g.here (omega (arith, table_line g.ready));
            ready = table_next g.ready at₁ k₁ t₁ ea ek et;
            wrote =
                rw (ea, ek, et)
                (g.wrote
                ∙ rw (q, drop-drop, drop-drop, take-add k (slots c) S)
                (both_both g.done ys (write_columns rest (take k S ++ take (slots c) (drop k S)) (at + width c) (drop (k + slots c) S) (drop (t + texts c) chs))));
            part =
                rw (ea, ek, et)
                (g.part
                ∙ rw (q, drop-drop, drop-drop, take-add k (slots c) S)
                (sym (append_assoc g.done ys (write_part rest (take k S ++ take (slots c) (drop k S)) (at + width c) (drop (k + slots c) S) (drop (t + texts c) chs)))));
          }

      pub turn_done : (at₁ k₁ t₁ : ℕ) → at₁ ≡ at + width c → k₁ ≡ k + slots c → t₁ ≡ t + texts c → Wrote (write_cell c (take k S) at (take (slots c) (drop k S)) (take (texts c) (drop t chs))) (Ok tt) (mid_of at (at + w - at) out) mid → Going cs start S chs out₀ nv rest at₁ k₁ t₁ (put_mid at (at + w - at) out mid)
      turn_done at₁ k₁ t₁ ea ek et s =
          let d = done_of (write_cell c (take k S) at (take (slots c) (drop k S)) (take (texts c) (drop t chs))) s.answer in
          let lk : length (take (slots c) (drop k S)) ≡ slots c = length-take-le (slots c) (drop k S) (omega (arith, length-drop k S, table_numbers g.ready)) in
          let lt : length (take (texts c) (drop t chs)) ≡ texts c = length-take-le (texts c) (drop t chs) (omega (arith, length-drop t chs, table_chars g.ready)) in
          let v = cell_written c (take k S) at (take (slots c) (drop k S)) (take (texts c) (drop t chs)) d.value (table_good g.ready).0 lk lt d.is in
          turn_wrote at₁ k₁ t₁ ea ek et d.value v.size d.is
          (wrote_bytes s d.value d.is ∙ over_whole d.value (mid_of at (at + w - at) out) (omega (arith, v.size, turn_mid)))

-- printed bytes take nothing of the record
pub turn_printed : (v b : ℕ) {cs : List Col} {start : ℕ} {S : List Slot} {chs out₀ : List ℕ} {nv : ℕ} {rest : List Col} {at k t : ℕ} {out mid : List ℕ} → Going cs start S chs out₀ nv (printed b v ∷ rest) at k t out → (w : ℕ) → w ≡ v → mid ≡ replicate (length (mid_of at (at + w - at) out)) b → Going cs start S chs out₀ nv rest (at + w) k t (put_mid at (at + w - at) out mid)
unfolding write_cell
turn_printed v b {at = at} {k = k} {t = t} g w q h =
    turn_wrote g w q (at + w) k t (ap (λ (m : ℕ). at + m) q) (omega arith) (omega arith) (replicate v b) (length-replicate v b) refl (h ∙ ap (λ (m : ℕ). replicate m b) (turn_mid g w q ∙ q))

module _ (s : List ℕ) (r : List ℤ) (ls : List ℕ) (i : ℕ) {cs : List Col} {start : ℕ} {S : List Slot} {chs out₀ : List ℕ} {nv : ℕ} {at k t : ℕ} {out : List ℕ} where
  -- the next row of the table
  pub going_row : (row : Column) → i < length s → row ≡ column_in (get_or s i 0) → Going cs start S chs out₀ nv (columns_of (drop i s) r ls) at k t out → Going cs start S chs out₀ nv (col_of row r ls ∷ columns_of (drop (i + 1) s) r ls) at k t out
  going_row row h e g = rw (e, ← columns_more s r ls i h) g

  pub going_last : length s ≤ i → Going cs start S chs out₀ nv (columns_of (drop i s) r ls) at k t out → Going cs start S chs out₀ nv [] at k t out
  going_last h g = rw (← columns_none s r ls i h) g

-- ---- a line of its own, over the lent bytes

module _ (cs : List Col) (S : List Slot) (chs from : List ℕ) where
  pub line_short : length from < widths cs → Wrote (write_line cs S chs (length from)) (Err (refusal_at too_short 0)) from from
  unfolding write_line
  line_short h = wrote_refused _ from too_short 0 (rw (lt-ltb _ _ h))

  module _ {line line₁ : List ℕ} (h : widths cs ≤ length from) where
    pub line_refused : (e : Refusal) → WrotePart (write_columns cs [] 0 S chs) (write_part cs [] 0 S chs) 0 (Err e) line line₁ → Wrote (write_line cs S chs (length from)) (Err e) from from
    unfolding write_line
    line_refused e p = wrote_refused _ from e.reason e.column (rw (le-ltb _ _ h) (refused_of (write_columns cs [] 0 S chs) e p.answer))

    pub line_done : (to : List ℕ) (n : ℕ) → T (good cs) → all_slots cs ≤ length S → all_texts cs ≤ length chs → widths cs ≤ length line → WrotePart (write_columns cs [] 0 S chs) (write_part cs [] 0 S chs) 0 (Ok tt) line line₁ → n ≡ widths cs → to ≡ over (take n line₁) from → Wrote (write_line cs S chs (length from)) (Ok tt) from to
    unfolding write_line
    line_done to n g a b l p z q =
        let d = done_of (write_columns cs [] 0 S chs) p.answer in
        let v = columns_size cs [] 0 S chs d.value g a b d.is in
        let t : take n line₁ ≡ d.value =
        ap (λ (m : ℕ). take m line₁) z
        ∙ ap (take (widths cs)) (p.bytes ∙ ap (λ (x : List ℕ). placed 0 x line) (part_wrote cs [] 0 S chs d.value d.is))
        ∙ placed_take 0 (widths cs) d.value line (omega (arith, v)) l in
        let f : to ≡ over d.value from = q ∙ ap (λ (x : List ℕ). over x from) t in
        let w : write_line cs S chs (length from) ≡ ok d.value = rw (le-ltb _ _ h) d.is in
        wrote_whole w f
