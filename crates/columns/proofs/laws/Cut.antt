-- Laws of a list of columns cut at a place: a line that ends there means what it means with the rest blank; what is written of a
-- record whose rest is not filled is the whole of it; the loops of the code.
use mathlib.Core.Path.{◌≡◌, refl, sym, ap, ◌∙◌}
use mathlib.Core.Bool.{Bool, true, false, not}
use mathlib.Core.List.{List, [], ◌∷◌, ◌++◌, append_assoc}
use Prim.Native.Nat.{ℕ, zero, suc, ◌+◌, ◌-◌, ◌≤◌, ◌<◌}
use native.Mathlib.Omega.{arith}
use lib.IntN.{ℤ}
use lib.ListN.{length, take, drop, get_or, replicate, length-drop, length-replicate, replicate-append-replicate, take-append-drop}
use lib.Seq.{slice, length-take-le, take_all, drop-drop, take_at, drop_at, take-append-le, drop-append-le}
use lib.Dec.{T, eqb, ltb}
use borrow.Author.Tests.{lt-ltb, le-ltb, ltb-false, eqb-true}
use Rattle.std.proofs.lemmas.List.{take-append-drop}
use Rattle.columns.specs.Answer.{pick, Answer, ok, refusal, unless, differs, bad_form, too_short, chain, both}
use Rattle.columns.specs.Bytes.{is_none, skip, all_blank, member}
use Rattle.columns.specs.declared.column.Rule.TheVariants as U
use Rattle.columns.specs.Column.{Slot, missing, given, Rec, joined, Rule, rule_bars, Col, numeric, text, letter, group, printed, width, slots, texts, good_col, good, widths, all_slots, all_texts}
use Rattle.columns.specs.Reading.{rule_refuses, read_cell, read_columns}
use Rattle.columns.specs.Writing.{write_cell, write_columns, write_line}
use Rattle.columns.specs.Table.{flags_of, column_in, col_of, columns_of, slots_by, texts_by, width_by, Table}
use Rattle.columns.specs.declared.column.Column.{Column}
use Rattle.columns.specs.Row.{all_same, whole, fills_text}
use Rattle.columns.specs.Cut.{field_dropped, left_out, with_left_out, not_filled, first_filled, filled_past, write_cut, write_cut_whole, may_be_blank, all_may_be_blank, Writable}
use Rattle.columns.specs.declared.row.Past.{Past}
use Rattle.columns.proofs.laws.Tests.{T_and, and_T, T_true, both_true}
use Rattle.columns.proofs.laws.Answers.{passed, differs_not, differs_same, differs_is}
use Rattle.columns.proofs.laws.Clear.{clear_barred, clear_blanks}
use Rattle.columns.proofs.laws.NumberBack.{trim_blanks}
use Rattle.columns.proofs.laws.Columns.{columns_back, chain_same}
use Rattle.columns.proofs.laws.Bounds.{column_of, pick_bound, write_bound}
use Rattle.columns.proofs.laws.Table.{sizes, columns_more, columns_none, columns_append, table_line, table_fits, table_k, table_t, table_next}
use Rattle.columns.proofs.laws.Row.{flags_take, flags_drop, line_there}

-- ---- sizes of a list that is cut

pub widths_cut : (cs bs : List Col) → widths (cs ++ bs) ≡ widths cs + widths bs
unfolding widths
widths_cut [] bs = omega arith
widths_cut (c ∷ cs) bs = omega (arith, widths_cut cs bs)

pub slots_cut : (cs bs : List Col) → all_slots (cs ++ bs) ≡ all_slots cs + all_slots bs
unfolding all_slots
slots_cut [] bs = omega arith
slots_cut (c ∷ cs) bs = omega (arith, slots_cut cs bs)

pub texts_cut : (cs bs : List Col) → all_texts (cs ++ bs) ≡ all_texts cs + all_texts bs
unfolding all_texts
texts_cut [] bs = omega arith
texts_cut (c ∷ cs) bs = omega (arith, texts_cut cs bs)

-- ---- blank columns

-- repeated bytes or numbers, parted
take_repeated : {A : Type 0} (n m : ℕ) (x : A) → take n (replicate (n + m) x) ≡ replicate n x
take_repeated n m x = ap (take n) (sym (replicate-append-replicate n m x)) ∙ take_at (replicate n x) (replicate m x) n (length-replicate n x)

drop_repeated : {A : Type 0} (n m : ℕ) (x : A) → drop n (replicate (n + m) x) ≡ replicate m x
drop_repeated n m x = ap (drop n) (sym (replicate-append-replicate n m x)) ∙ drop_at (replicate n x) (replicate m x) n (length-replicate n x)

blank_ruled : (x : Rule) (w : ℕ) → T (not (fills_text x)) → rule_refuses x (replicate w 32) ≡ false
blank_ruled U.AnyText w t = refl
blank_ruled U.NoBrackets w t = refl
blank_ruled U.NotBlankFirst w t = absurd t
blank_ruled U.NotAllBlank w t = absurd t
blank_ruled U.BlankOrFilled w t = rw (trim_blanks w) (by_first (eqb (get_or (replicate w 32) 0 0) 32))
  where
    by_first : (b : Bool) → pick b false false ≡ false
    by_first true = refl
    by_first false = refl

not_required : (q : Bool) → T (not q) → q ≡ false
not_required true t = absurd t
not_required false t = refl

-- a column that may be blank is written blank where its numbers are missing and its text is blank
cell_blank : (c : Col) (seen : List Slot) (at : ℕ) → T (may_be_blank c) → write_cell c seen at (replicate (slots c) missing) (replicate (texts c) 32) ≡ ok (replicate (width c) 32)
unfolding write_cell
cell_blank (numeric m q g) seen at t = rw (not_required q t)
cell_blank (text w x) seen at t = rw (blank_ruled x w t, clear_barred (rule_bars x) at (replicate w 32) (clear_blanks (rule_bars x) w))
cell_blank (letter s) seen at t = rw (clear_barred false at (replicate 1 32) (clear_blanks false 1), T_true (member 32 s) t)
cell_blank (group g) seen at t = refl
cell_blank (printed b w) seen at t = rw (eqb-true b 32 (T_true (eqb b 32) t))

columns_blank : (bs : List Col) (seen : List Slot) (at : ℕ) → T (all_may_be_blank bs) → write_columns bs seen at (replicate (all_slots bs) missing) (replicate (all_texts bs) 32) ≡ ok (replicate (widths bs) 32)
unfolding write_columns all_slots all_texts widths
columns_blank [] seen at t = refl
columns_blank (c ∷ bs) seen at t =
    let p = T_and (may_be_blank c) (all_may_be_blank bs) t in
    rw (take_repeated (slots c) (all_slots bs) missing, drop_repeated (slots c) (all_slots bs) missing, take_repeated {A = ℕ} (texts c) (all_texts bs) 32, drop_repeated {A = ℕ} (texts c) (all_texts bs) 32, cell_blank c seen at p.0, columns_blank bs (seen ++ replicate (slots c) missing) (at + width c) p.1, replicate-append-replicate {A = ℕ} (width c) (widths bs) 32)

-- so they are read from blanks as left out
blanks_read : (bs : List Col) (seen : List Slot) (at : ℕ) → T (good bs) → T (all_may_be_blank bs) → read_columns bs seen at (replicate (widths bs) 32) ≡ ok (left_out bs)
blanks_read bs seen at g t =
    (columns_back bs seen at (replicate (all_slots bs) missing) (replicate (all_texts bs) 32) (replicate (widths bs) 32) g (length-replicate (all_slots bs) missing) (length-replicate (all_texts bs) 32) (columns_blank bs seen at t)).back

-- ---- a line that is cut is read as with the rest blank

joined_left_out : (bs : List Col) (m : Rec) (a : Answer Rec) → both joined (ok m) (with_left_out bs a) ≡ with_left_out bs (both joined (ok m) a)
joined_left_out bs m (refusal n k) = refl
joined_left_out bs m (ok x) = rw (append_assoc m.numbers x.numbers (left_out bs).numbers, append_assoc m.chars x.chars (left_out bs).chars)

chain_left_out : (bs : List Col) (a : Answer Rec) (o : Rec → Answer Rec) → chain joined a (λ r. with_left_out bs (o r)) ≡ with_left_out bs (chain joined a o)
chain_left_out bs (refusal n k) o = refl
chain_left_out bs (ok m) o = joined_left_out bs m (o m)

pub cut_read : (cs bs : List Col) (seen : List Slot) (at : ℕ) (x : List ℕ) → T (good bs) → T (all_may_be_blank bs) → length x ≡ widths cs → read_columns (cs ++ bs) seen at (x ++ replicate (widths bs) 32) ≡ with_left_out bs (read_columns cs seen at x)
unfolding read_columns widths
cut_read [] bs seen at [] g t n = blanks_read bs seen at g t
cut_read [] bs seen at (b ∷ x) g t n = absurd (omega arith)
cut_read (c ∷ cs) bs seen at x g t n =
    let w = width c in
    let y : List ℕ = replicate (widths bs) 32 in
    rw (take-append-le w x y (omega arith), drop-append-le w x y (omega arith))
    (chain_same joined (read_cell c seen at (take w x)) (λ r. read_columns (cs ++ bs) (seen ++ r.numbers) (at + w) (drop w x ++ y)) (λ r. with_left_out bs (read_columns cs (seen ++ r.numbers) (at + w) (drop w x)))
    (λ r. cut_read cs bs (seen ++ r.numbers) (at + w) (drop w x) g t (length-drop w x ∙ omega arith))
    ∙ chain_left_out bs (read_cell c seen at (take w x)) (λ r. read_columns cs (seen ++ r.numbers) (at + w) (drop w x)))

-- ---- a record whose rest is not filled

none_given : (ns : List Slot) → all_same 0 (flags_of ns) ≡ true → ns ≡ replicate (length ns) missing
unfolding all_same flags_of
none_given [] e = refl
none_given (missing ∷ ns) e = ap (λ (x : List Slot). missing ∷ x) (none_given ns e)
none_given (given v ∷ ns) e = let z : ◌≡◌ {A = ℕ} 0 1 = cc in let y : ⊥ = omega arith in absurd y

all_blank_lem : (t : List ℕ) → all_blank t ≡ true → t ≡ replicate (length t) 32
unfolding skip
all_blank_lem [] e = refl
all_blank_lem (b ∷ t) e = by_byte (eqb b 32) refl (all_blank_lem t) e
  where
    by_byte : (q : Bool) → eqb b 32 ≡ q → (all_blank t ≡ true → t ≡ replicate (length t) 32) → is_none (pick q (skip 32 t) (b ∷ t)) ≡ true → b ∷ t ≡ replicate (length (b ∷ t)) 32
    by_byte true p h f = rw (eqb-true b 32 p) (ap (λ (x : List ℕ). 32 ∷ x) (h f))
    by_byte false p h f = let z : ◌≡◌ {A = ℕ} 0 1 = cc in let y : ⊥ = omega arith in absurd y

not_filled_by : (q : Bool) (rest at : ℕ) → pick q rest (at + 1) ≡ 0 → (q ≡ true) × (rest ≡ 0)
not_filled_by true rest at e = (refl, e)
not_filled_by false rest at e = absurd (omega arith)

parted : {A : Type 0} (n m : ℕ) (x : A) (l : List A) → take n l ≡ replicate n x → drop n l ≡ replicate m x → l ≡ replicate (n + m) x
parted n m x l a b = sym (take-append-drop n l) ∙ rw (a, b) (replicate-append-replicate n m x)

pub none_filled : (bs : List Col) (at : ℕ) (ns : List Slot) (t : List ℕ) → length ns ≡ all_slots bs → length t ≡ all_texts bs → first_filled bs at (flags_of ns) t ≡ 0 → (ns ≡ replicate (all_slots bs) missing) × (t ≡ replicate (all_texts bs) 32)
unfolding first_filled all_slots all_texts
none_filled [] at [] [] a b e = (refl, refl)
none_filled [] at (x ∷ ns) t a b e = absurd (omega arith)
none_filled [] at [] (x ∷ t) a b e = absurd (omega arith)
none_filled (c ∷ bs) at ns t a b e =
    let p = not_filled_by (not_filled (take (slots c) (flags_of ns)) (take (texts c) t)) _ at e in
    let q = both_true (all_same 0 (take (slots c) (flags_of ns))) (all_blank (take (texts c) t)) p.0 in
    let n : length (take (slots c) ns) ≡ slots c = length-take-le (slots c) ns (omega arith) in
    let m : length (take (texts c) t) ≡ texts c = length-take-le (texts c) t (omega arith) in
    let x = none_given (take (slots c) ns) (rw (flags_take (slots c) ns) at q.0) in
    let y = all_blank_lem (take (texts c) t) q.1 in
    let r = none_filled bs (at + width c) (drop (slots c) ns) (drop (texts c) t) (length-drop (slots c) ns ∙ omega arith) (length-drop (texts c) t ∙ omega arith) (rw (flags_drop (slots c) ns) at p.1) in
    (parted (slots c) (all_slots bs) missing ns (rw n at x) r.0, parted (texts c) (all_texts bs) 32 t (rw m at y) r.1)

all_same_repeated : (n : ℕ) → all_same 0 (replicate n 0) ≡ true
unfolding all_same
all_same_repeated zero = refl
all_same_repeated (suc n) = all_same_repeated n

pub flags_missing : (n : ℕ) → flags_of (replicate n missing) ≡ replicate n 0
unfolding flags_of
flags_missing zero = refl
flags_missing (suc n) = ap (λ (x : List ℕ). 0 ∷ x) (flags_missing n)

pub left_out_not_filled : (bs : List Col) (at : ℕ) → first_filled bs at (replicate (all_slots bs) 0) (replicate (all_texts bs) 32) ≡ 0
unfolding first_filled all_slots all_texts
left_out_not_filled [] at = refl
left_out_not_filled (c ∷ bs) at =
    rw (take_repeated {A = ℕ} (slots c) (all_slots bs) 0, drop_repeated {A = ℕ} (slots c) (all_slots bs) 0, take_repeated {A = ℕ} (texts c) (all_texts bs) 32, drop_repeated {A = ℕ} (texts c) (all_texts bs) 32, all_same_repeated (slots c), trim_blanks (texts c))
    (left_out_not_filled bs (at + width c))

-- ---- a line is written by its columns' part of the record, whatever follows

pub written_part : (cs : List Col) (seen : List Slot) (at : ℕ) (ns ms : List Slot) (t u : List ℕ) → all_slots cs ≤ length ns → all_texts cs ≤ length t → write_columns cs seen at (ns ++ ms) (t ++ u) ≡ write_columns cs seen at ns t
unfolding write_columns all_slots all_texts
written_part [] seen at ns ms t u a b = refl
written_part (c ∷ cs) seen at ns ms t u a b =
    rw (take-append-le (slots c) ns ms (omega arith), drop-append-le (slots c) ns ms (omega arith), take-append-le (texts c) t u (omega arith), drop-append-le (texts c) t u (omega arith), written_part cs (seen ++ take (slots c) ns) (at + width c) (drop (slots c) ns) ms (drop (texts c) t) u (omega (arith, length-drop (slots c) ns)) (omega (arith, length-drop (texts c) t)))

-- ---- the column of a refusal

filled_bound : (bs : List Col) (at : ℕ) (fs t : List ℕ) → first_filled bs at fs t ≤ at + widths bs + 1
unfolding first_filled widths
filled_bound [] at fs t = omega arith
filled_bound (c ∷ bs) at fs t = by_column (not_filled (take (slots c) fs) (take (texts c) t)) (filled_bound bs (at + width c) (drop (slots c) fs) (drop (texts c) t))
  where
    by_column : (q : Bool) → first_filled bs (at + width c) (drop (slots c) fs) (drop (texts c) t) ≤ at + width c + widths bs + 1 → pick q (first_filled bs (at + width c) (drop (slots c) fs) (drop (texts c) t)) (at + 1) ≤ at + (width c + widths bs) + 1
    by_column true h = omega (arith, h)
    by_column false h = omega arith

module _ (cs bs : List Col) (fs : List ℕ) (ns : List Slot) (t : List ℕ) (room : ℕ) where
  pub cut_bound : T (good cs) → column_of (write_cut cs bs fs ns t room) ≤ widths (cs ++ bs) + 1
  unfolding write_cut
  cut_bound g =
      let w = widths_cut cs bs in
      pick_bound (widths (cs ++ bs) + 1) (ltb room (widths cs)) _ _ (omega arith)
      (pick_bound (widths (cs ++ bs) + 1) (differs (filled_past cs bs fs t) 0) (refusal field_dropped (filled_past cs bs fs t)) (write_columns cs [] 0 ns t) (omega (arith, w, filled_bound bs (widths cs) (drop (all_slots cs) fs) (drop (all_texts cs) t))) (omega (arith, w, write_bound cs [] 0 ns t g)))

  -- ---- a line that is written: its place has room, and nothing past it is filled

  pub cut_passed : (ys : List ℕ) → write_cut cs bs fs ns t room ≡ ok ys → (widths cs ≤ room) × ((filled_past cs bs fs t ≡ 0) × (write_columns cs [] 0 ns t ≡ ok ys))
  unfolding write_cut
  cut_passed ys e =
      let p = passed (ltb room (widths cs)) too_short 0 (unless (differs (filled_past cs bs fs t) 0) field_dropped (filled_past cs bs fs t) (write_columns cs [] 0 ns t)) ys e in
      let q = passed (differs (filled_past cs bs fs t) 0) field_dropped (filled_past cs bs fs t) (write_columns cs [] 0 ns t) ys p.1 in
      (ltb-false room (widths cs) p.0, (differs_same (filled_past cs bs fs t) 0 q.0, q.1))

  -- ---- the answers as the code comes to them

  module _ (h : whole (cs ++ bs) fs ≡ true) where
    pub cut_short : room < widths cs → write_cut_whole cs bs fs ns t room ≡ refusal too_short 0
    unfolding write_cut
    cut_short k = rw (h, lt-ltb room (widths cs) k)

    module _ (k : widths cs ≤ room) where
      pub cut_filled : (filled_past cs bs fs t ≡ 0 → ⊥) → write_cut_whole cs bs fs ns t room ≡ refusal field_dropped (filled_past cs bs fs t)
      unfolding write_cut
      cut_filled n = rw (h, le-ltb room (widths cs) k, differs_is (filled_past cs bs fs t) 0 n)

      pub cut_line : filled_past cs bs fs t ≡ 0 → write_line cs ns t room ≡ write_cut_whole cs bs fs ns t room
      unfolding write_cut
      cut_line e = line_there cs ns t room k ∙ sym (rw (h, le-ltb room (widths cs) k, differs_not (filled_past cs bs fs t) 0 e))

  pub cut_part : whole (cs ++ bs) fs ≡ false → write_cut_whole cs bs fs ns t room ≡ refusal bad_form 0
  cut_part h = rw h

-- ---- a column's flags and its text, as the code looks at them

module _ (fs t : List ℕ) (told : Bool) (g : told ≡ all_same 0 fs) where
  pub not_filled_blank : told ≡ true → (b : Bool) → b ≡ all_blank (slice 0 (length t) t) → b ≡ not_filled fs t
  not_filled_blank q b e =
      let z : all_same 0 fs ≡ true = sym g ∙ q in
      rw z (e ∙ ap all_blank (take_all (length t) t (omega arith)))

  pub not_filled_some : told ≡ false → false ≡ not_filled fs t
  not_filled_some q = let z : all_same 0 fs ≡ false = sym g ∙ q in rw z

-- ---- the loop that looks for a filled field

-- the columns that are left, after the first `at` bytes, and the numbers and text bytes before them
pub record Looking (cs : List Col) (start : ℕ) (fs t : List ℕ) (rest : List Col) (at k u : ℕ) : Type 0 where
  pub ready : Table rest at 512 k (length fs) (length fs) u (length t)
  pub same : first_filled cs start fs t ≡ first_filled rest at (drop k fs) (drop u t)

module _ (fs t : List ℕ) (s : List ℕ) (r : List ℤ) (ls : List ℕ) where
  pub looking_start : (cs : List Col) (start : ℕ) → Table cs start 512 0 (length fs) (length fs) 0 (length t) → Looking cs start fs t cs start 0 0
  looking_start cs start p = record { ready = p; same = refl }

  module _ (cs : List Col) (start i at k u : ℕ) (g : Looking cs start fs t (columns_of (drop i s) r ls) at k u) where
    pub looking_end : length s ≤ i → first_filled cs start fs t ≡ 0
    unfolding first_filled
    looking_end h = g.same ∙ rw (columns_none s r ls i h)

    module _ (h : i < length s) (row : Column) (e : row ≡ column_in (get_or s i 0)) where
      abbrev here : Col
      here = col_of (column_in (get_or s i 0)) r ls

      abbrev rest : List Col
      rest = columns_of (drop (i + 1) s) r ls

      ready_here : Table (here ∷ rest) at 512 k (length fs) (length fs) u (length t)
      ready_here = rw (columns_more s r ls i h) at g.ready

      slots_here : (y : ℕ) → y ≡ slots_by row → y ≡ slots here
      slots_here y b = b ∙ ap slots_by e ∙ sym (sizes (column_in (get_or s i 0)) r ls).numbers

      texts_here : (x : ℕ) → x ≡ texts_by row → x ≡ texts here
      texts_here x b = b ∙ ap texts_by e ∙ sym (sizes (column_in (get_or s i 0)) r ls).chars

      pub looking_numbers : (y : ℕ) → y ≡ slots_by row → k + y ≤ length fs
      looking_numbers y b = table_k ready_here y (slots_here y b)

      pub looking_texts : (x : ℕ) → x ≡ texts_by row → u + x ≤ length t
      looking_texts x b = table_t ready_here x (texts_here x b)

      pub looking_low : at ≤ 512
      looking_low = omega (arith, table_line ready_here)

      module _ (y x : ℕ) (b : y ≡ slots_by row) (d : x ≡ texts_by row) where
        same_here : first_filled cs start fs t ≡ pick (not_filled (take y (drop k fs)) (take x (drop u t))) (first_filled rest (at + width here) (drop (k + y) fs) (drop (u + x) t)) (at + 1)
        unfolding first_filled
        same_here = g.same ∙ rw (columns_more s r ls i h, ← slots_here y b, ← texts_here x d, drop-drop y k fs, drop-drop x u t)

        module _ (told : Bool) (q : told ≡ not_filled (take (k + y - k) (drop k fs)) (take (u + x - u) (drop u t))) where
          told_here : told ≡ not_filled (take y (drop k fs)) (take x (drop u t))
          told_here = let z : k + y - k ≡ y = omega arith in let v : u + x - u ≡ x = omega arith in rw (z, v) at q

          pub looking_filled : told ≡ false → first_filled cs start fs t ≡ at + 1
          looking_filled p = let z : not_filled (take y (drop k fs)) (take x (drop u t)) ≡ false = sym told_here ∙ p in same_here ∙ rw z

          pub looking_width : (w : ℕ) → w ≡ width_by row → at + w ≤ 512
          looking_width w f = table_fits ready_here w (f ∙ ap width_by e ∙ sym (sizes (column_in (get_or s i 0)) r ls).wide)

          pub looking_more : told ≡ true → (w : ℕ) → w ≡ width_by row → Looking cs start fs t rest (at + w) (k + y) (u + x)
          looking_more p w f =
              let z : not_filled (take y (drop k fs)) (take x (drop u t)) ≡ true = sym told_here ∙ p in
              let l : w ≡ width here = f ∙ ap width_by e ∙ sym (sizes (column_in (get_or s i 0)) r ls).wide in
              record {
                ready = table_next ready_here (at + w) (k + y) (u + x) (ap (λ (v : ℕ). at + v) l) (ap (λ (v : ℕ). k + v) (slots_here y b)) (ap (λ (v : ℕ). u + v) (texts_here x d));
                same = same_here ∙ rw (z, l);
              }

-- ---- what the writer asks for

pub good_cut : (cs bs : List Col) → T (good (cs ++ bs)) → T (good cs) × T (good bs)
unfolding good
good_cut [] bs g = (tt, g)
good_cut (c ∷ cs) bs g =
    let p = T_and (good_col c) (good (cs ++ bs)) g in
    let q = good_cut cs bs p.1 in
    (and_T (good_col c) (good cs) p.0 q.0, q.1)

-- the rows of both, one after the other
pub rows_cut : (s : List ℕ) (r : List ℤ) (ls : List ℕ) (n : ℕ) → columns_of s r ls ≡ columns_of (take n s) r ls ++ columns_of (drop n s) r ls
rows_cut s r ls n = rw (← columns_append (take n s) (drop n s) r ls, take-append-drop n s)

module _ {cs bs : List Col} {past : Past} {rows width nf nv nt : ℕ} (w : Writable cs bs past rows width nf nv nt) where
  numbers_before : past.numbers ≡ all_slots cs
  numbers_before = ap (λ (x : Past). x.numbers) w.past_is

  texts_before : past.texts ≡ all_texts cs
  texts_before = ap (λ (x : Past). x.texts) w.past_is

  pub all_numbers : all_slots (cs ++ bs) ≤ nf
  all_numbers = omega (arith, w.table.numbers)

  pub numbers_inside : past.numbers ≤ nf
  numbers_inside = omega (arith, all_numbers, numbers_before, slots_cut cs bs)

  pub texts_inside : past.texts ≤ nt
  texts_inside = omega (arith, w.table.chars, texts_before, texts_cut cs bs)

  pub line_table : Table cs 0 512 0 nf nv 0 nt
  line_table =
      let t = w.table in
      record {
        fine = (good_cut cs bs t.fine).0;
        line = omega (arith, t.line, widths_cut cs bs);
        low = t.low;
        same = t.same;
        numbers = omega (arith, t.numbers, slots_cut cs bs);
        chars = omega (arith, t.chars, texts_cut cs bs);
      }

  module _ (fs t : List ℕ) (a : length fs ≡ nf) (b : length t ≡ nt) where
    abbrev fs₁ : List ℕ
    fs₁ = take (length fs - past.numbers) (drop past.numbers fs)

    abbrev t₁ : List ℕ
    t₁ = take (length t - past.texts) (drop past.texts t)

    flags_past : fs₁ ≡ drop past.numbers fs
    flags_past = take_all (length fs - past.numbers) (drop past.numbers fs) (omega (arith, length-drop past.numbers fs))

    texts_past : t₁ ≡ drop past.texts t
    texts_past = take_all (length t - past.texts) (drop past.texts t) (omega (arith, length-drop past.texts t))

    pub past_table : Table bs width 512 0 (length fs₁) (length fs₁) 0 (length t₁)
    past_table =
        let p = w.table in
        record {
          fine = (good_cut cs bs p.fine).1;
          line = omega (arith, p.line, widths_cut cs bs, w.wide);
          low = p.low;
          same = refl;
          numbers = omega (arith, ap length flags_past, length-drop past.numbers fs, p.numbers, slots_cut cs bs, numbers_before);
          chars = omega (arith, ap length texts_past, length-drop past.texts t, p.chars, texts_cut cs bs, texts_before);
        }

    pub filled_is : (x : ℕ) → x ≡ first_filled bs width fs₁ t₁ → x ≡ filled_past cs bs fs t
    filled_is x e = e ∙ rw (flags_past, texts_past, numbers_before, texts_before, w.wide)
