-- The bytes in which a record crosses to a C caller: the byte layout that document 01's opening asks for. docs/RECORDS.md
use Rattle.std.specs.Prelude.{◌≡◌, ℕ, zero, suc, ◌-◌, List, [], ◌∷◌, ◌++◌, ℤ, pos, negsuc, length, take, drop, get_or, ltb, Result, Ok, Err}
use Rattle.columns.specs.Answer.{pick, Answer, ok, refusal, refusal_at}
use Rattle.columns.specs.Word.{word_bytes, word_of}
use Rattle.columns.specs.Column.{Slot}
use Rattle.columns.specs.declared.Refusal.{Refusal}
use Rattle.columns.specs.Table.{slot_of, laid}

-- ---- a number with a sign as 64 bits: -1 is all ones

abbrev pub top_bit : ℕ
top_bit = 9223372036854775808

abbrev pub all_ones : ℕ
all_ones = 18446744073709551615

abbrev pub pattern_of : ℤ → ℕ
pattern_of (pos n) = n
pattern_of (negsuc n) = all_ones - n

abbrev pub signed_of : ℕ → ℤ
signed_of u = pick (ltb u top_bit) (pos u) (negsuc (all_ones - u))

-- ---- a record: its kind, a flag for each number (1 there, 0 missing), eight bytes for each number, its text

-- the numbers that some things stand for, w bytes each
unfoldable pub words_by : {A : Type 0} → ℕ → (A → ℕ) → List A → List ℕ
words_by w word [] = []
words_by w word (x ∷ xs) = word_bytes w (word x) ++ words_by w word xs

abbrev pub value_bytes : List ℤ → List ℕ
value_bytes vs = words_by 8 pattern_of vs

abbrev pub packed : ℕ → List ℕ → List ℤ → List ℕ → List ℕ
packed kind flags values t = kind ∷ (flags ++ (value_bytes values ++ t))

-- n numbers, from their flags and the bytes of their values
unfoldable pub slots_in : ℕ → List ℕ → List ℕ → List Slot
slots_in zero fs s = []
slots_in (suc n) fs s =
    slot_of (get_or fs 0 0) (signed_of (word_of 0 (take 8 s))) ∷ slots_in n (drop 1 fs) (drop 8 s)

-- ---- what a call answers: the number of bytes written, or a refusal

abbrev pub Reply : Type 0
Reply = Result ℕ Refusal

abbrev pub reply_of : Answer (List ℕ) → Reply
reply_of (ok ys) = Ok (length ys)
reply_of (refusal n k) = Err (refusal_at n k)

-- the reply, and the lent bytes: what was written over the first of them, or nothing changed
pub record Replied (a : Answer (List ℕ)) (r : Reply) (from to : List ℕ) : Type 0 where
  pub answer : r ≡ reply_of a
  pub bytes : to ≡ laid a from
