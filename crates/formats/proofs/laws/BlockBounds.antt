-- How large the numbers answered for a block can be.
use Rattle.std.specs.Prelude.{Ok, Err}
use Rattle.formats.specs.Refused.{refused_at}
use Prim.Native.Nat.{ℕ, suc, ◌+◌, ◌≤◌, ◌<◌}
use mathlib.Core.Bool.{Bool, true, false}
use mathlib.Core.List.{List, [], ◌∷◌}
use mathlib.Core.Logic.{◌⊎◌, inl, inr}
use native.Mathlib.Omega.{arith}
use lib.Dec.{eqb, ltb}
use lib.ListN.{length}
use borrow.Author.Tests.{lt-ltb, le-ltb, lt-leb, le-leb}
use Rattle.columns.specs.Answer.{pick, Answer, ok, refusal, barred_byte, differs, wrong_length, too_short, number_of}
use Rattle.columns.specs.Column.{Rec}
use Rattle.columns.specs.Row.{Fits}
use Rattle.columns.proofs.laws.Bounds.{column_of, pick_bound, barred_bound}
use Rattle.formats.specs.Row.{RowFormat, lowest_barred_byte, write_row_from}
use Rattle.formats.specs.Lines.{on_first, lines_of, line_end}
use Rattle.formats.specs.Block.{BlockFormat, Kind, closing, comment, row, kind_of, is_header, trim_end, last_byte, read_comment, out_of_place, not_closed, plus, on_line, with_newline, read_line, read_lines, read_headed, at_most, read_block_by, read_block}
use Rattle.formats.proofs.laws.BlockReader.{next_range}
use Rattle.formats.proofs.laws.Lines.{lt_or_le, line_end_to}
use Rattle.formats.proofs.laws.Row.{row_bound}
use Rattle.formats.proofs.laws.RowRecordBack.{row_from_bound}
use Rattle.formats.specs.BlockReader.{line_of, next_of}
use Rattle.formats.specs.BlockWalk.{no_line, header_line, comment_line, nothing, known, headed, first_line, line_after, next_line}
use Rattle.formats.specs.BlockWriting.{ended, write_header, room_from, header_call, record_call}
use Rattle.formats.specs.declared.block_walk.BlockLine.{BlockLine}
use Rattle.formats.specs.Block.{Block}

-- ---- the lines of a text: no more than its bytes

first_count : (b : ℕ) (ls : List (List ℕ)) → length (on_first b ls) ≤ suc (length ls)
unfolding on_first
first_count b [] = omega arith
first_count b (l ∷ ls) = omega arith

pub lines_count : (s : List ℕ) → length (lines_of s) ≤ length s
unfolding lines_of
lines_count [] = omega arith
lines_count (b ∷ s) = by_byte (eqb b 10) (lines_count s)
  where
    by_byte : (t : Bool) → length (lines_of s) ≤ length s → length (pick t ([] ∷ lines_of s) (on_first b (lines_of s))) ≤ suc (length s)
    by_byte true h = omega (arith, h)
    by_byte false h = omega (arith, h, first_count b (lines_of s))

-- ---- the lines that were read: no more are counted than there are

comment_bound : (seen : Bool) (l : List ℕ) → column_of (read_comment seen l) ≤ 1024
unfolding read_comment
comment_bound seen l = elim (lt_or_le 1024 (length l)) [ inl p ↦ rw (lt-ltb 1024 (length l) p) (omega arith) | inr p ↦ rw (le-ltb 1024 (length l) p) (short p) ]
  where
    short : length l ≤ 1024 → column_of (pick (differs (lowest_barred_byte l) 0) (refusal barred_byte (lowest_barred_byte l)) (pick (differs (last_byte (trim_end l)) 41) (refusal not_closed 0) (pick seen (ok l) (refusal out_of_place 0)))) ≤ 1024
    short p =
        pick_bound 1024 (differs (lowest_barred_byte l) 0) _ _ (omega (arith, p, barred_bound 0 0 0 l))
        (pick_bound 1024 (differs (last_byte (trim_end l)) 41) _ _ (omega arith) (pick_bound 1024 seen _ _ (omega arith) (omega arith)))

pub record SmallRead (p k u : ℕ) : Type 0 where
  pub rows : p < 65536
  pub comments : k < 65536
  pub used : u ≤ 65536

abbrev pub Small : Block → Type 0
Small (Ok c) = SmallRead c.rows c.comments c.used
Small (Err e) = (e.column < 65536) × (e.line ≤ 65538)

module _ (header : List ℕ) (read : List ℕ → Answer Rec) (low : (l : List ℕ) → column_of (read l) ≤ 1024) where
  -- at most m lines counted, or a refusal of line n at most
  abbrev Within : ℕ → ℕ → Block → Type 0
  Within n m (Ok c) = c.rows + c.comments ≤ m
  Within n m (Err e) = (e.column ≤ 1024) × (e.line ≤ n)

  plus_within : (n m p k u : ℕ) → p + k ≤ 1 → (x : Block) → Within n m x → Within n (suc m) (plus p k u x)
  plus_within n m p k u h (Ok c) w = omega (arith, h, w)
  plus_within n m p k u h (Err e) w = w

  line_within : {A : Type 0} (n m i : ℕ) (a : Answer A) (x : Block) → i ≤ n → column_of a ≤ 1024 → Within n m x → Within n m (on_line i a x)
  line_within n m i (ok v) x j h w = w
  line_within n m i (refusal number column) x j h w = (h, j)

  kind_within : (κ : Kind) (n m i : ℕ) (seen : Bool) (l : List ℕ) (rest : Bool → Block) → i ≤ n → ((s : Bool) → Within n m (rest s)) → Within n (suc m) (read_line read κ i seen l rest)
  kind_within closing n m i seen l rest j w = omega arith
  kind_within comment n m i seen l rest j w =
      line_within n (suc m) i (read_comment seen l) (plus 0 1 (with_newline l) (rest seen)) j (comment_bound seen l) (plus_within n m 0 1 (with_newline l) (omega arith) (rest seen) (w seen))
  kind_within row n m i seen l rest j w =
      line_within n (suc m) i (read l) (plus 1 0 (with_newline l) (rest true)) j (low l) (plus_within n m 1 0 (with_newline l) (omega arith) (rest true) (w true))

  lines_within : (n i : ℕ) (seen : Bool) (ls : List (List ℕ)) → i + length ls ≤ n → Within n (length ls) (read_lines read i seen ls)
  unfolding read_lines
  lines_within n i seen [] h = omega arith
  lines_within n i seen (l ∷ ls) h =
      kind_within (kind_of l) n (length ls) i seen l (λ s. read_lines read (suc i) s ls) (omega arith) (λ s. lines_within n (suc i) s ls (omega (arith, h)))

  -- ---- the whole block

  small_whole : (b : List ℕ) (m : ℕ) → length b ≤ 65536 → m < 65536 → (x : Block) → Within 65538 m x → Small (at_most (length b) x)
  small_whole b m h k (Ok c) w = record { rows = omega (arith, k, w); comments = omega (arith, k, w); used = by_size (lt_or_le (length b) c.used) }
    where
      by_size : (length b < c.used) ⊎ (c.used ≤ length b) → pick (ltb (length b) c.used) (length b) c.used ≤ 65536
      by_size (inl g) = rw (lt-ltb (length b) c.used g) h
      by_size (inr g) = rw (le-ltb (length b) c.used g) (omega (arith, h, g))
  small_whole b m h k (Err e) w = (omega (arith, w.0), w.1)

  small_headed_lines : (b : List ℕ) → length b ≤ 65536 → (ls : List (List ℕ)) → length ls ≤ length b → Small (at_most (length b) (read_headed header read ls))
  unfolding read_headed
  small_headed_lines b h [] n = (omega arith, omega arith)
  small_headed_lines b h (l ∷ ls) n = by_header (is_header header l)
    where
      headed_within : (x : Block) → Within 65538 (length ls) x → Within 65538 (length ls) (plus 0 0 (with_newline l) x)
      headed_within (Ok c) w = omega (arith, w)
      headed_within (Err e) w = w

      by_header : (t : Bool) → Small (at_most (length b) (pick t (plus 0 0 (with_newline l) (read_lines read 2 false ls)) (refused_at out_of_place 0 1)))
      by_header true = small_whole b (length ls) h (omega (arith, h, n)) (plus 0 0 (with_newline l) (read_lines read 2 false ls)) (headed_within (read_lines read 2 false ls) (lines_within 65538 2 false ls (omega (arith, h, n))))
      by_header false = (omega arith, omega arith)

  pub small_block : (b : List ℕ) → Small (read_block_by header read b)
  unfolding read_block_by
  small_block b = elim (lt_or_le 65536 (length b)) [
    | inl p ↦ rw (lt-ltb 65536 (length b) p) (omega arith, omega arith)
    | inr p ↦ rw (le-ltb 65536 (length b) p) (small_headed_lines b p (lines_of b) (lines_count b))
  ]

-- the blocks of a row format
pub block_small : (F : BlockFormat) → Fits F.row.columns → (b : List ℕ) → Small (read_block F b)
block_small F f b = small_block F.header _ (λ l. omega (arith, row_bound F.row.columns f l, f.wide)) b

-- ---- a line of a walk

pub record SmallLine (x : BlockLine) : Type 0 where
  pub kind : x.kind < 256
  pub number : x.number < 65536
  pub end : x.end ≤ 65536
  pub next : x.next ≤ 65536

pub small_nothing : (n : ℕ) → n < 256 → SmallLine (nothing n)
small_nothing n h = record { kind = h; number = omega arith; end = omega arith; next = omega arith }

small_known : (κ : Kind) (n e x : ℕ) → n ≤ 65534 → e ≤ 65536 → x ≤ 65536 → SmallLine (known κ n e x)
small_known closing n e x h i j = record { kind = omega arith; number = omega arith; end = i; next = j }
small_known comment n e x h i j = record { kind = omega arith; number = omega (arith, h); end = i; next = j }
small_known row n e x h i j = record { kind = omega arith; number = omega (arith, h); end = i; next = j }

module _ (b : List ℕ) (low : length b ≤ 65536) (at : ℕ) (h : at < length b) where
  pub end_low : line_end b at ≤ 65536
  end_low = omega (arith, low, line_end_to b at (omega (arith, h)))

  pub after_low : next_of b at ≤ 65536
  after_low = let r = next_range b at h in omega (arith, low, r.1)

small_headed : (header b : List ℕ) → length b ≤ 65536 → 0 < length b → SmallLine (headed header b)
small_headed header b low h = by_header (is_header header (line_of b 0))
  where
    by_header : (t : Bool) → SmallLine (pick t (record { kind = header_line; number = 0; end = line_end b 0; next = next_of b 0 }) (nothing (number_of out_of_place)))
    by_header true = record { kind = omega arith; number = omega arith; end = end_low b low 0 h; next = after_low b low 0 h }
    by_header false = small_nothing (number_of out_of_place) (omega arith)

pub first_small : (header b : List ℕ) → SmallLine (first_line header b)
unfolding first_line
first_small header b = elim (lt_or_le 65536 (length b)) [
  | inl p ↦ rw (lt-ltb 65536 (length b) p) (small_nothing (number_of wrong_length) (omega arith))
  | inr low ↦ elim (lt_or_le 0 (length b)) [
    | inl p ↦ rw (le-ltb 65536 (length b) low, lt-leb (length b) 0 p) (small_headed header b low p)
    | inr p ↦ rw (le-ltb 65536 (length b) low, le-leb (length b) 0 p) (small_nothing (number_of out_of_place) (omega arith))
  ]
]

small_after : (b : List ℕ) → length b ≤ 65536 → (at n : ℕ) → SmallLine (line_after b at n)
small_after b low at n = elim (lt_or_le 65534 n) [
  | inl p ↦ rw (lt-ltb 65534 n p) (small_nothing no_line (omega arith))
  | inr few ↦ elim (lt_or_le at (length b)) [
    | inl p ↦ rw (le-ltb 65534 n few, lt-leb (length b) at p) (small_known (kind_of (line_of b at)) n (line_end b at) (next_of b at) few (end_low b low at p) (after_low b low at p))
    | inr p ↦ rw (le-ltb 65534 n few, le-leb (length b) at p) (small_nothing no_line (omega arith))
  ]
]

pub small_pick : (t : Bool) (x y : BlockLine) → SmallLine x → SmallLine y → SmallLine (pick t x y)
small_pick true x y p q = p
small_pick false x y p q = q

pub next_small : (b : List ℕ) (x : BlockLine) → SmallLine (next_line b x)
unfolding next_line
next_small b x = elim (lt_or_le 65536 (length b)) [
  | inl p ↦ rw (lt-ltb 65536 (length b) p) (small_nothing (number_of wrong_length) (omega arith))
  | inr low ↦
      rw (le-ltb 65536 (length b) low)
      (small_pick (ltb x.kind header_line) _ _ (small_nothing no_line (omega arith)) (small_pick (ltb comment_line x.kind) _ _ (small_nothing no_line (omega arith)) (small_after b low x.next x.number)))
]

-- ---- a call of the block writer

ended_column : (a : Answer (List ℕ)) → column_of (ended a) ≤ column_of a
ended_column (ok l) = omega arith
ended_column (refusal n k) = omega arith

pub header_column : (header : List ℕ) (at size : ℕ) → column_of (header_call header at size) ≤ 0
unfolding header_call
header_column header at size =
    omega (arith, ended_column (write_header header (room_from at size)), pick_bound 0 (ltb (room_from at size) (length header)) (refusal too_short 0) (ok header) (omega arith) (omega arith))

pub record_column : (F : RowFormat) → Fits F.columns → (from : List ℕ) (at size : ℕ) → column_of (record_call F from at size) ≤ 256
unfolding record_call
record_column F f from at size = omega (arith, ended_column (write_row_from F from (room_from at size)), row_from_bound F f from (room_from at size), f.wide)
