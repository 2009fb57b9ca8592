-- Laws of a row's record as bytes, over its format: each answer as the code comes to it.
use Rattle.std.specs.Prelude.{Ok, Err}
use Rattle.columns.specs.declared.Refusal.{Refusal}
use mathlib.Core.Bool.{Bool, true, false}
use mathlib.Core.Path.{◌≡◌, refl, sym, ap, ◌∙◌}
use mathlib.Core.List.{List}
use Prim.Native.Nat.{ℕ, ◌+◌, ◌*◌, ◌-◌, ◌≤◌, ◌<◌}
use native.Mathlib.Omega.{arith}
use lib.ListN.{length, take, drop, length-drop}
use lib.Seq.{take_all, take_at, length-take-le}
use lib.IntN.{ℤ}
use borrow.Author.Tests.{lt-ltb, le-ltb}
use Rattle.columns.specs.Answer.{pick, ok, refusal, refusal_at, too_short, bad_form}
use Rattle.columns.specs.Column.{Rec, all_slots, all_texts}
use Rattle.columns.specs.Table.{flags_of, values_of, over, slots_of, ReadPart, Wrote}
use Rattle.columns.specs.Row.{whole, write_whole, row_size}
use Rattle.columns.proofs.laws.Answers.{over_whole, held, refused_of}
use Rattle.columns.proofs.laws.Table.{flags_length, values_length, slots_back}
use Rattle.columns.specs.Writing.{write_line}
use Rattle.columns.specs.Bytes.{same_bytes}
use Rattle.formats.specs.Record.{packed, Replied, slots_in}
use Rattle.formats.specs.Row.{RowFormat, read_row, row_part, write_row, row_bytes, row_in, named_row, read_row_record, row_answer, read_row_into, row_line_answer, write_row_from}
use Rattle.formats.specs.Format.{format_of, Formed}
use Rattle.formats.specs.declared.format.Format.{Format}
use Rattle.formats.specs.Record.{Reply}
use Rattle.formats.proofs.laws.Record.{packed_length, numbers_length}
use Rattle.formats.proofs.laws.CubeRecord.{replied_refused, replied_done, replied_as, wrote_reply, wrote_no_reply}
use Rattle.formats.proofs.laws.Row.{row_accepted, row_size_lem, row_whole}

-- the first of what stands over the first places
pub over_part : {A : Type 0} (xs l : List A) (n : ℕ) → length xs ≡ n → take (n - 0) (drop 0 (over xs l)) ≡ xs
over_part xs l n e = let z : n - 0 ≡ n = omega arith in rw z (take_at xs (drop (length xs) l) n e)

-- ---- sizes

module _ (F : RowFormat) where
  pub row_bytes_length : (m : Rec) → length m.numbers ≡ all_slots F.columns → length m.chars ≡ all_texts F.columns → length (row_bytes F m) ≡ row_size F.columns
  row_bytes_length m a b =
      packed_length F.kind (flags_of m.numbers) (values_of m.numbers) m.chars
      ∙ omega (arith, flags_length m.numbers, values_length m.numbers)

  pub numbers_size : (r : List ℕ) → length (row_in F.columns r).numbers ≡ all_slots F.columns
  numbers_size r = numbers_length (all_slots F.columns) (drop 1 r) (drop (1 + all_slots F.columns) r)

  pub chars_size : (r : List ℕ) → length r ≡ row_size F.columns → length (row_in F.columns r).chars ≡ all_texts F.columns
  chars_size r s =
      let at = 1 + all_slots F.columns + 8 * all_slots F.columns in
      length-take-le (all_texts F.columns) (drop at r) (omega (arith, length-drop at r))

  pub row_into_read : (l : List ℕ) (room : ℕ) → row_size F.columns ≤ room → read_row_into F l room ≡ row_answer F (read_row F.columns l)
  unfolding read_row_into
  row_into_read l room h = rw (le-ltb room (row_size F.columns) h)

-- ---- by the format that the code has for a kind

module _ {kind : ℕ} {f : Format} (o : Formed kind f) where
  abbrev F : RowFormat
  F = format_of kind

  abbrev size : ℕ
  size = 1 + f.numbers + 8 * f.numbers + f.texts

  size_is : size ≡ row_size F.columns
  size_is = omega (arith, o.numbers, o.texts)

  -- ---- a line read into a record

  module _ (l out : List ℕ) where
    pub row_into_short : length out < size → Replied (read_row_into F l (length out)) (Err (refusal_at too_short 0)) out out
    unfolding read_row_into
    row_into_short h = let k : length out < row_size F.columns = omega (arith, size_is) in replied_refused _ out too_short 0 (rw (lt-ltb (length out) (row_size F.columns) k))

    module _ (h : size ≤ length out) {f₀ f₁ : List ℕ} {v₀ v₁ : List ℤ} {t₀ t₁ : List ℕ} where
      pub row_into_refused : (e : Refusal) → ReadPart (read_row F.columns l) (row_part F.columns l) (Err e) f₀ f₁ v₀ v₁ t₀ t₁ → Replied (read_row_into F l (length out)) (Err e) out out
      row_into_refused e p = replied_refused _ out e.reason e.column (row_into_read F l (length out) (omega (arith, size_is)) ∙ ap (row_answer F) (refused_of (read_row F.columns l) e p.answer))

      pub row_into_done : (to : List ℕ) → ReadPart (read_row F.columns l) (row_part F.columns l) (Ok tt) f₀ f₁ v₀ v₁ t₀ t₁ → to ≡ over (packed f.kind (take (f.numbers - 0) (drop 0 f₁)) (take (f.numbers - 0) (drop 0 v₁)) (take (f.texts - 0) (drop 0 t₁))) out → Replied (read_row_into F l (length out)) (Ok size) out to
      row_into_done to p y =
          let w = row_whole F.columns l p in
          let m = w.value in
          let a = row_accepted F.columns o.fits l m w.is in
          let fl : take (f.numbers - 0) (drop 0 f₁) ≡ flags_of m.numbers = ap (λ (x : List ℕ). take (f.numbers - 0) (drop 0 x)) w.flags ∙ over_part (flags_of m.numbers) f₀ f.numbers (flags_length m.numbers ∙ a.numbers ∙ sym o.numbers) in
          let vl : take (f.numbers - 0) (drop 0 v₁) ≡ values_of m.numbers = ap (λ (x : List ℤ). take (f.numbers - 0) (drop 0 x)) w.values ∙ over_part (values_of m.numbers) v₀ f.numbers (values_length m.numbers ∙ a.numbers ∙ sym o.numbers) in
          let tl : take (f.texts - 0) (drop 0 t₁) ≡ m.chars = ap (λ (x : List ℕ). take (f.texts - 0) (drop 0 x)) w.chars ∙ over_part m.chars t₀ f.texts (a.chars ∙ sym o.texts) in
          let z : packed f.kind (take (f.numbers - 0) (drop 0 f₁)) (take (f.numbers - 0) (drop 0 v₁)) (take (f.texts - 0) (drop 0 t₁)) ≡ row_bytes F m = rw (fl, vl, tl, o.name) in
          replied_done _ out (row_bytes F m) to size (row_into_read F l (length out) (omega (arith, size_is)) ∙ ap (row_answer F) w.is) (row_bytes_length F m a.numbers a.chars ∙ sym size_is) (y ∙ ap (λ (x : List ℕ). over x out) z)

  -- ---- a line written from a record

  module _ (r out : List ℕ) where
    pub row_from_short : length r < size → Replied (write_row_from F r (length out)) (Err (refusal_at bad_form 0)) out out
    unfolding write_row_from read_row_record
    row_from_short h = let k : length r < row_size F.columns = omega (arith, size_is) in replied_refused _ out bad_form 0 (rw (lt-ltb (length r) (row_size F.columns) k))

    -- only the first bytes count
    pub row_from_named : {to : List ℕ} {y : Reply} → size ≤ length r → Replied (row_line_answer F.columns (named_row F (take (size - 0) (drop 0 r))) (length out)) y out to → Replied (write_row_from F r (length out)) y out to
    unfolding write_row_from read_row_record
    row_from_named h w =
        let z : size - 0 ≡ row_size F.columns = omega (arith, size_is) in
        let k : row_size F.columns ≤ length r = omega (arith, size_is) in
        rw (le-ltb (length r) (row_size F.columns) k) (rw z at w)

  -- what was taken out of exactly as many bytes is the record that they name
  pub record Taken (r fs : List ℕ) (vs : List ℤ) (t : List ℕ) : Type 0 where
    pub long : length r ≡ row_size F.columns
    pub flags : fs ≡ flags_of (row_in F.columns r).numbers
    pub values : vs ≡ values_of (row_in F.columns r).numbers
    pub chars : t ≡ (row_in F.columns r).chars

  pub taken : (r : List ℕ) (k : ℕ) (was : List ℕ) {fs : List ℕ} {vs : List ℤ} {t : List ℕ} → length r ≡ row_size F.columns → k ≡ all_slots F.columns → length was ≡ all_texts F.columns → fs ≡ flags_of (slots_in k (take (length r - 1) (drop 1 r)) (take (length r - (1 + f.numbers)) (drop (1 + f.numbers) r))) → vs ≡ values_of (slots_in k (take (length r - 1) (drop 1 r)) (take (length r - (1 + f.numbers)) (drop (1 + f.numbers) r))) → t ≡ over (take (length r - (1 + f.numbers + 8 * f.numbers)) (drop (1 + f.numbers + 8 * f.numbers) r)) was → Taken r fs vs t
  taken r k was s d b x y z =
      let n = f.numbers in
      let m = row_in F.columns r in
      let e : slots_in k (take (length r - 1) (drop 1 r)) (take (length r - (1 + n)) (drop (1 + n) r)) ≡ m.numbers = rw (take_all (length r - 1) (drop 1 r) (omega (arith, length-drop 1 r)), take_all (length r - (1 + n)) (drop (1 + n) r) (omega (arith, length-drop (1 + n) r)), o.numbers, d) in
      let u : length r - (1 + n + 8 * n) ≡ all_texts F.columns = omega (arith, o.numbers) in
      let c : take (length r - (1 + n + 8 * n)) (drop (1 + n + 8 * n) r) ≡ m.chars = rw (u, o.numbers) in
      record { long = s; flags = x ∙ ap flags_of e; values = y ∙ ap values_of e; chars = z ∙ rw c (over_whole m.chars was (chars_size F r s ∙ sym b)) }

  module _ {r fs : List ℕ} {vs : List ℤ} {t : List ℕ} (k : Taken r fs vs t) where
    abbrev named : Rec
    named = row_in F.columns r

    module _ (out : List ℕ) {same : Bool} (u : same ≡ same_bytes (packed F.kind fs vs t) r) where
      same_is : same_bytes (row_bytes F named) r ≡ same
      same_is = sym (u ∙ rw (k.flags, k.values, k.chars))

      pub row_no_record : same ≡ false → Replied (row_line_answer F.columns (named_row F r) (length out)) (Err (refusal_at bad_form 0)) out out
      unfolding named_row
      row_no_record q = let z = same_is ∙ q in replied_refused _ out bad_form 0 (rw z)

      whole_answer : same ≡ true → write_whole F.columns (flags_of named.numbers) named.numbers named.chars (length out) ≡ row_line_answer F.columns (named_row F r) (length out)
      unfolding named_row
      whole_answer q = let z = same_is ∙ q in rw z (by_whole (whole F.columns (flags_of named.numbers)))
        where
          by_whole : (b : Bool) → pick b (write_row F.columns named (length out)) (refusal bad_form 0) ≡ row_line_answer F.columns (pick b (ok named) (refusal bad_form 0)) (length out)
          by_whole true = refl
          by_whole false = refl

      -- it is written, or refused
      module _ (q : same ≡ true) {to : List ℕ} where
        pub row_record : Wrote (write_whole F.columns fs (slots_of fs vs) t (length out)) (Ok tt) out to → Replied (row_line_answer F.columns (named_row F r) (length out)) (Ok f.width) out to
        row_record w =
            let n = named.numbers in
            let wide : (ys : List ℕ) → write_whole F.columns (flags_of n) n named.chars (length out) ≡ ok ys → length ys ≡ f.width = λ ys p. row_size_lem F.columns o.fits n named.chars ys (length out) (numbers_size F r) (chars_size F r k.long) (held (whole F.columns (flags_of n)) bad_form 0 (write_line F.columns n named.chars (length out)) ys p).1 ∙ sym o.width in
            replied_as _ _ _ out _ (whole_answer q) (wrote_reply (rw (k.flags, k.values, k.chars, slots_back n) at w) f.width wide refl)

        pub row_refused : (e : Refusal) → Wrote (write_whole F.columns fs (slots_of fs vs) t (length out)) (Err e) out to → Replied (row_line_answer F.columns (named_row F r) (length out)) (Err e) out to
        row_refused e w = replied_as _ _ _ out _ (whole_answer q) (wrote_no_reply (rw (k.flags, k.values, k.chars, slots_back named.numbers) at w) e refl)
