-- Laws of a record's bytes: signs, the loops that write and read them, and their parts.
use mathlib.Core.Path.{◌≡◌, refl, sym, ap, ◌∙◌}
use mathlib.Core.Bool.{Bool, true, false}
use mathlib.Core.List.{List, [], ◌∷◌, ◌++◌, append_assoc, append-nil}
use Prim.Native.Nat.{ℕ, zero, suc, ◌+◌, ◌-◌, ◌*◌, ◌≤◌, ◌<◌}
use native.Mathlib.Nat.{mul-suc}
use native.Mathlib.Numerals.{add-one}
use native.Mathlib.Omega.{arith}
use lib.ListN.{length, take, drop, get_or, set, length-append}
use lib.Seq.{drop-drop, take-suc, length-take-le, get_or-drop}
use lib.Dec.{eqb}
use lib.IntN.{ℤ, pos}
use borrow.Rule.Slice.PartMut.{put_mid, mid_of, mid_len}
use Rattle.columns.specs.Answer.{pick}
use Rattle.columns.specs.Word.{word_bytes, word_of}
use Rattle.columns.specs.Column.{Slot, missing, given}
use Rattle.columns.specs.Table.{slot_of, flag_of, value_of, flags_of, values_of, over, placed}
use Rattle.columns.proofs.laws.Places.{placed_length, placed_placed, part_placed, set_placed, set_over}
use Rattle.columns.proofs.laws.Word.{word_length}
use Rattle.columns.proofs.laws.Table.{flags_length, values_length, flags_last, values_last}
use Rattle.columns.proofs.laws.Answers.{over_whole}
use Rattle.formats.specs.Record.{pattern_of, signed_of, words_by, value_bytes, packed, slots_in}

-- ---- numbers of w bytes each

module _ {A : Type 0} (w : ℕ) (word : A → ℕ) where
  words_append : (a b : List A) → words_by w word (a ++ b) ≡ words_by w word a ++ words_by w word b
  unfolding words_by
  words_append [] b = refl
  words_append (x ∷ a) b = rw (words_append a b, append_assoc)

  pub words_length : (xs : List A) → length (words_by w word xs) ≡ w * length xs
  unfolding words_by
  words_length [] = omega arith
  words_length (x ∷ xs) =
      let m : w * suc (length xs) ≡ w * length xs + w = mul-suc w (length xs) in
      length-append (word_bytes w (word x)) (words_by w word xs) ∙ omega (arith, word_length w (word x), words_length xs, m)

  words_one : (x : A) → words_by w word (x ∷ []) ≡ word_bytes w (word x)
  unfolding words_by
  words_one x = append-nil (word_bytes w (word x))

  words_more : (d : A) (xs : List A) (i : ℕ) → i < length xs → words_by w word (take (i + 1) xs) ≡ words_by w word (take i xs) ++ word_bytes w (word (get_or xs i d))
  words_more d xs i h =
      let e : take (i + 1) xs ≡ take i xs ++ (get_or xs i d ∷ []) = rw add-one (take-suc xs i d h) in
      ap (words_by w word) e ∙ words_append (take i xs) (get_or xs i d ∷ []) ∙ rw (words_one (get_or xs i d))

  -- one more, after the first i
  pub words_turn : (d : A) (xs : List A) (l out ys : List ℕ) (i at n : ℕ) → i < length xs → length (words_by w word (take i xs)) ≡ at → at + w ≤ length l → out ≡ over (words_by w word (take i xs)) l → n ≡ word (get_or xs i d) → ys ≡ word_bytes (length (mid_of at (at + w - at) out)) n → put_mid at (at + w - at) out ys ≡ over (words_by w word (take (i + 1) xs)) l
  words_turn d xs l out ys i at n h b k q p r =
      let o : length out ≡ length l = ap length q ∙ placed_length 0 (words_by w word (take i xs)) l (omega arith) in
      let m : length (mid_of at (at + w - at) out) ≡ w = mid_len at (at + w) out (omega arith) ∙ omega arith in
      let y : ys ≡ word_bytes w (word (get_or xs i d)) = r ∙ rw (m, p) in
      let v : length ys ≡ w = ap length y ∙ word_length w (word (get_or xs i d)) in
      let z : at ≡ 0 + length (words_by w word (take i xs)) = omega arith in
      part_placed at (at + w) ys out (omega arith)
      ∙ ap (placed at ys) q
      ∙ placed_placed 0 at (words_by w word (take i xs)) ys l z (omega arith)
      ∙ ap (λ (x : List ℕ). over x l) (ap (λ (x : List ℕ). words_by w word (take i xs) ++ x) y ∙ sym (words_more d xs i h))

-- ---- the bytes of values

pub bytes_length : (vs : List ℤ) → length (value_bytes vs) ≡ 8 * length vs
bytes_length vs = words_length 8 pattern_of vs

-- a value more, after the first i
pub values_turn : (vs : List ℤ) (l out ys : List ℕ) (i at : ℕ) (n : ℕ) → i < length vs → 8 * length vs ≤ length l → at ≡ 8 * i → out ≡ over (value_bytes (take i vs)) l → n ≡ pattern_of (get_or vs i (pos 0)) → ys ≡ word_bytes (length (mid_of at (at + 8 - at) out)) n → put_mid at (at + 8 - at) out ys ≡ over (value_bytes (take (i + 1) vs)) l
values_turn vs l out ys i at n h k e q p r =
    words_turn 8 pattern_of (pos 0) vs l out ys i at n h (bytes_length (take i vs) ∙ omega (arith, length-take-le i vs (omega arith))) (omega arith) q p r

-- ---- a whole record, part by part

pub packed_length : (kind : ℕ) (fs : List ℕ) (vs : List ℤ) (t : List ℕ) → length (packed kind fs vs t) ≡ 1 + length fs + 8 * length vs + length t
packed_length kind fs vs t = omega (arith, length-append fs (value_bytes vs ++ t), length-append (value_bytes vs) t, bytes_length vs)

module _ (kind : ℕ) (fs : List ℕ) (vs : List ℤ) (t l : List ℕ) (h : 1 + length fs + 8 * length vs + length t ≤ length l) where
  pub packed_parts : placed (1 + length fs + 8 * length vs) t (placed (1 + length fs) (value_bytes vs) (placed 1 fs (set l 0 kind))) ≡ over (packed kind fs vs t) l
  packed_parts =
      let b : length (value_bytes vs) ≡ 8 * length vs = bytes_length vs in
      let m : 1 + length fs + 8 * length vs ≡ 0 + length (kind ∷ fs ++ value_bytes vs) = omega (arith, length-append fs (value_bytes vs)) in
      let f : 1 + length fs ≡ 0 + length (kind ∷ fs) = omega arith in
      let e : (kind ∷ fs ++ value_bytes vs) ++ t ≡ packed kind fs vs t = rw append_assoc in
      ap (λ (x : List ℕ). placed (1 + length fs + 8 * length vs) t (placed (1 + length fs) (value_bytes vs) (placed 1 fs x))) (set_placed 0 l kind (omega arith))
      ∙ ap (λ (x : List ℕ). placed (1 + length fs + 8 * length vs) t (placed (1 + length fs) (value_bytes vs) x)) (placed_placed 0 1 (kind ∷ []) fs l refl (omega arith))
      ∙ ap (placed (1 + length fs + 8 * length vs) t) (placed_placed 0 (1 + length fs) (kind ∷ fs) (value_bytes vs) l f (omega arith))
      ∙ placed_placed 0 (1 + length fs + 8 * length vs) (kind ∷ fs ++ value_bytes vs) t l m (omega arith)
      ∙ ap (λ (x : List ℕ). over x l) e

-- ---- numbers, from their flags and bytes

pub numbers_more : (i : ℕ) (fs s : List ℕ) → slots_in (i + 1) fs s ≡ slots_in i fs s ++ slot_of (get_or fs i 0) (signed_of (word_of 0 (take 8 (drop (8 * i) s)))) ∷ []
unfolding slots_in
numbers_more zero fs s = refl
numbers_more (suc i) fs s =
    let z : suc i + 1 ≡ suc (i + 1) = omega arith in
    let n : 8 + 8 * i ≡ 8 * suc i = omega arith in
    let o : 1 + i ≡ suc i = omega arith in
    rw (z, numbers_more i (drop 1 fs) (drop 8 s), get_or-drop 1 fs i 0, drop-drop (8 * i) 8 s, n, o)

pub numbers_length : (i : ℕ) (fs s : List ℕ) → length (slots_in i fs s) ≡ i
unfolding slots_in
numbers_length zero fs s = refl
numbers_length (suc i) fs s = ap suc (numbers_length i (drop 1 fs) (drop 8 s))

-- the slot that a flag and a value stand for
pub flag_is : (f : ℕ) (u v : ℤ) → flag_of (slot_of f u) ≡ flag_of (slot_of f v)
flag_is f u v = by_test (eqb f 0)
  where
    by_test : (t : Bool) → flag_of (pick t missing (given u)) ≡ flag_of (pick t missing (given v))
    by_test true = refl
    by_test false = refl

module _ (i at : ℕ) (fs s : List ℕ) (a : at ≡ 8 * i) where
  abbrev next : Slot
  next = slot_of (get_or fs i 0) (signed_of (word_of 0 (take 8 (drop (8 * i) s))))

  pub flags_turn : (l out : List ℕ) (x : ℕ) → i < length l → out ≡ over (flags_of (slots_in i fs s)) l → x ≡ flag_of (slot_of (get_or fs i 0) (pos 0)) → set out i x ≡ over (flags_of (slots_in (i + 1) fs s)) l
  flags_turn l out x h e p =
      let n : length (flags_of (slots_in i fs s)) ≡ i = flags_length (slots_in i fs s) ∙ numbers_length i fs s in
      let q : x ≡ flag_of next = p ∙ flag_is (get_or fs i 0) (pos 0) (signed_of (word_of 0 (take 8 (drop (8 * i) s)))) in
      set_over (flags_of (slots_in i fs s)) l out x i n h e
      ∙ ap (λ (y : List ℕ). over y l) (ap (λ (y : ℕ). flags_of (slots_in i fs s) ++ y ∷ []) q ∙ sym (ap flags_of (numbers_more i fs s) ∙ flags_last (slots_in i fs s) next))

  pub values_more : (l out : List ℤ) (x : ℤ) (u : ℕ) → i < length l → out ≡ over (values_of (slots_in i fs s)) l → u ≡ word_of 0 (take (at + 8 - at) (drop at s)) → x ≡ value_of (slot_of (get_or fs i 0) (signed_of u)) → set out i x ≡ over (values_of (slots_in (i + 1) fs s)) l
  values_more l out x u h e p q =
      let n : length (values_of (slots_in i fs s)) ≡ i = values_length (slots_in i fs s) ∙ numbers_length i fs s in
      let z : at + 8 - at ≡ 8 = omega arith in
      let w : u ≡ word_of 0 (take 8 (drop (8 * i) s)) = p ∙ rw (z, a) in
      let r : x ≡ value_of next = q ∙ ap (λ (y : ℕ). value_of (slot_of (get_or fs i 0) (signed_of y))) w in
      set_over (values_of (slots_in i fs s)) l out x i n h e
      ∙ ap (λ (y : List ℤ). over y l) (ap (λ (y : ℤ). values_of (slots_in i fs s) ++ y ∷ []) r ∙ sym (ap values_of (numbers_more i fs s) ∙ values_last (slots_in i fs s) next))

pub numbers_end : {A : Type 0} (xs l out : List A) → length xs ≡ length l → out ≡ over xs l → out ≡ xs
numbers_end xs l out n e = e ∙ over_whole xs l n
