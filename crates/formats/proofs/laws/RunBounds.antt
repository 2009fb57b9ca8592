-- How large the numbers answered for lines by their first letter, and for runs of them, can be; two bytes hold every count.
use Rattle.std.specs.Prelude.{Ok, Err}
use Rattle.columns.specs.declared.Reason.{Reason}
use Rattle.columns.specs.declared.Reason.TheVariants as R
use Rattle.formats.specs.Refused.{refused_at}
use Prim.Native.Nat.{ℕ, suc, ◌+◌, ◌*◌, ◌≤◌, ◌<◌}
use mathlib.Core.Path.{◌≡◌, refl}
use mathlib.Core.Bool.{Bool, true, false, not}
use mathlib.Core.List.{List, [], ◌∷◌}
use mathlib.Core.Logic.{inl, inr}
use native.Mathlib.Omega.{arith}
use lib.Dec.{eqb, leb, ltb}
use lib.ListN.{length, get_or}
use borrow.Author.Tests.{lt-ltb, le-ltb, lt-leb, le-leb, ne_eqb}
use Rattle.columns.specs.Answer.{pick, Answer, ok, refusal, number_of, is_ok, differs, wrong_length, too_short}
use Rattle.columns.specs.Column.{Rec, widths}
use Rattle.columns.specs.Row.{Fits}
use Rattle.columns.proofs.laws.Bounds.{column_of, pick_bound, barred_bound, read_bound}
use Rattle.formats.specs.Row.{lowest_barred_byte, blank_filled}
use Rattle.formats.specs.Lines.{on_first, lines_of}
use Rattle.formats.specs.BlockReader.{line_of, next_of}
use Rattle.formats.specs.BlockWalk.{no_line}
use Rattle.formats.specs.Format.{format_of}
use Rattle.formats.specs.declared.lettered.LineKind.{LineKind}
use Rattle.formats.specs.Lettered.{at_start, Lettered, kinds_of, format_for, named, leading, read_placed, read_as, read_lettered, into_record, read_lettered_into, kind_in, write_lettered}
use Rattle.formats.specs.Run.{begun, events_of, on_line, rank_of, first_refused, counts_size, read_run}
use Rattle.formats.specs.RunWalk.{told_as, told_at, first_told, next_told}
use Rattle.formats.specs.RunWriting.{lettered_call}
use Rattle.formats.proofs.laws.Lines.{lt_or_le}
use Rattle.formats.proofs.laws.Format.{format_fits}
use Rattle.formats.proofs.laws.RowRecordBack.{row_into_bound, row_into_size, row_from_bound, row_from_size}
use Rattle.formats.proofs.laws.CubeRecordBack.{size_of}
use Rattle.formats.proofs.laws.BlockBounds.{lines_count, SmallLine, small_nothing, small_pick, end_low, after_low, record_column}
use Rattle.formats.proofs.laws.RunWriting.{All, leading_all}
use Rattle.formats.specs.declared.block_walk.BlockLine.{BlockLine}
use Rattle.formats.specs.Run.{Run}

-- ---- two bytes hold every count: a line that begins with a letter has a byte besides its newline

unfoldable first_of : ℕ → List (List ℕ) → ℕ
first_of c [] = 0
first_of c (l ∷ ls) = pick (eqb (get_or l 0 0) c) 1 0

one_at_most : (t : Bool) → pick t 1 0 ≤ 1
one_at_most true = omega arith
one_at_most false = omega arith

first_one : (c : ℕ) (ls : List (List ℕ)) → first_of c ls ≤ 1
unfolding first_of
first_one c [] = omega arith
first_one c (l ∷ ls) = one_at_most (eqb (get_or l 0 0) c)

-- a byte put before the first line takes the place of that line's first byte
begun_first : (c b : ℕ) (ls : List (List ℕ)) → begun c (on_first b ls) + first_of c ls ≡ pick (eqb b c) 1 0 + begun c ls
unfolding begun on_first first_of
begun_first c b [] = omega arith
begun_first c b (l ∷ ls) = omega arith

first_byte : (c b : ℕ) (ls : List (List ℕ)) → first_of c (on_first b ls) ≡ pick (eqb b c) 1 0
unfolding on_first first_of
first_byte c b [] = refl
first_byte c b (l ∷ ls) = refl

begun_half : (c : ℕ) → 0 < c → (s : List ℕ) → 2 * begun c (lines_of s) ≤ length s + first_of c (lines_of s)
unfolding begun lines_of first_of
begun_half c h [] = omega arith
begun_half c h (b ∷ s) = by_byte (eqb b 10) (begun_half c h s)
  where
    by_byte : (t : Bool) → 2 * begun c (lines_of s) ≤ length s + first_of c (lines_of s) → 2 * begun c (pick t ([] ∷ lines_of s) (on_first b (lines_of s))) ≤ length (b ∷ s) + first_of c (pick t ([] ∷ lines_of s) (on_first b (lines_of s)))
    by_byte true i = rw (ne_eqb 0 c (λ z. omega (arith, h, z))) (omega (arith, i, first_one c (lines_of s)))
    by_byte false i = omega (arith, i, begun_first c b (lines_of s), first_byte c b (lines_of s), one_at_most (eqb b c))

pub counts_hold : (c : ℕ) → 0 < c → (s : List ℕ) → length s ≤ 65536 → begun c (lines_of s) < 65536
counts_hold c h s low = omega (arith, low, begun_half c h s, first_one c (lines_of s))

-- ---- a line by its first letter

named_column : (ks : List LineKind) (b : ℕ) → column_of (named ks b) ≤ 1
unfolding named
named_column [] b = omega arith
named_column (k ∷ ks) b = pick_bound 1 (eqb b k.letter) (ok k) (named ks b) (omega arith) (named_column ks b)

leading_column : (ks : List LineKind) (l : List ℕ) → column_of (leading ks l) ≤ 1
unfolding leading
leading_column ks [] = omega arith
leading_column ks (b ∷ l) = named_column ks b

module _ (kind : ℕ) (l : List ℕ) where
  abbrev f : Fits (format_of kind).columns
  f = format_fits kind

  placed_column : (p : Bool) → column_of (read_placed p (format_of kind).columns l) ≤ 256
  unfolding read_placed
  placed_column p = elim (lt_or_le (widths (format_of kind).columns) (length l)) [
    | inl g ↦ rw (lt-ltb (widths (format_of kind).columns) (length l) g) (omega arith)
    | inr g ↦
        rw (le-ltb (widths (format_of kind).columns) (length l) g)
        (pick_bound 256 (differs (lowest_barred_byte l) 0) _ _ (omega (arith, g, f.wide, barred_bound 0 0 0 l))
        (pick_bound 256 (not p) _ _ (omega arith) (omega (arith, f.wide, read_bound (format_of kind).columns [] 0 (blank_filled (widths (format_of kind).columns) l) f.sound.fine))))
  ]

as_column : (a : Answer LineKind) (before : ℕ) (l : List ℕ) → column_of a ≤ 1 → column_of (read_as a before l) ≤ 256
as_column (ok k) before l h = placed_column k.kind l (leb before k.after)
as_column (refusal n c) before l h = omega (arith, h)

lettered_column : (ks : List LineKind) (before : ℕ) (l : List ℕ) → column_of (read_lettered ks before l) ≤ 256
lettered_column ks before l = as_column (leading ks l) before l (leading_column ks l)

-- ---- a line alone: the column of a refusal, and the bytes written

into_as : (a : Answer LineKind) (l : List ℕ) (room : ℕ) → column_of a ≤ 1 → (column_of (into_record a l room) ≤ 256) × (size_of (into_record a l room) ≤ 512)
into_as (ok k) l room h =
    let g = format_fits k.kind in
    (omega (arith, g.wide, row_into_bound (format_for k) g l room), omega (arith, g.bytes, row_into_size (format_for k) g l room))
into_as (refusal n c) l room h = (omega (arith, h), omega arith)

pick_small : (t : Bool) (n : Reason) (x : Answer (List ℕ)) → (column_of x ≤ 256) × (size_of x ≤ 512) → (column_of (pick t (refusal n 0) x) ≤ 256) × (size_of (pick t (refusal n 0) x) ≤ 512)
pick_small true n x h = (omega arith, omega arith)
pick_small false n x h = h

pub into_small : (ks : List LineKind) (most : ℕ) (l : List ℕ) (room : ℕ) → (column_of (read_lettered_into ks most l room) ≤ 256) × (size_of (read_lettered_into ks most l room) ≤ 512)
unfolding read_lettered_into
into_small ks most l room = pick_small (ltb room most) too_short (into_record (leading ks l) l room) (into_as (leading ks l) l room (leading_column ks l))

pub written_small : (L : Lettered) (r : List ℕ) (room : ℕ) → (column_of (write_lettered L r room) ≤ 256) × (size_of (write_lettered L r room) ≤ 256)
unfolding write_lettered
written_small L r room =
    let k = kind_in L r in
    let g = format_fits k.kind in
    (omega (arith, g.wide, row_from_bound (format_for k) g r room), omega (arith, g.wide, row_from_size (format_for k) g r room))

pub recorded_column : (L : Lettered) (r : List ℕ) (at size : ℕ) → column_of (lettered_call L r at size) ≤ 256
unfolding lettered_call
recorded_column L r at size = record_column (format_for (kind_in L r)) (format_fits (kind_in L r).kind) r at size

-- ---- a run

abbrev pub SmallRun : Run → Type 0
SmallRun (Ok events) = events < 65536
SmallRun (Err e) = (e.column < 65536) × (e.line ≤ 65537)

line_small : (n : ℕ) (a : Answer Rec) (x : Run) → column_of a ≤ 256 → n ≤ 65537 → SmallRun x → SmallRun (on_line n a x)
line_small n (ok m) x h k s = s
line_small n (refusal number column) x h k s = (omega (arith, h), k)

lines_small : (ks : List LineKind) (n before : ℕ) (ls : List (List ℕ)) (x : Run) → n + length ls ≤ 65537 → SmallRun x → SmallRun (first_refused ks n before ls x)
unfolding first_refused
lines_small ks n before [] x h s = s
lines_small ks n before (l ∷ ls) x h s =
    line_small n (read_lettered ks before l) _ (lettered_column ks before l) (omega arith) (lines_small ks (suc n) (rank_of (leading ks l)) ls x (omega arith) s)

pub run_small : (L : Lettered) → 0 < L.opener.letter → (b : List ℕ) (room : ℕ) → SmallRun (read_run L b room)
unfolding read_run
run_small L g b room = by_room (ltb room (counts_size L))
  where
    by_size : SmallRun (pick (ltb 65536 (length b)) (refused_at wrong_length 0 0) (first_refused (kinds_of L) 1 at_start (lines_of b) (Ok (events_of L (lines_of b)))))
    by_size = elim (lt_or_le 65536 (length b)) [
      | inl p ↦ rw (lt-ltb 65536 (length b) p) (omega arith, omega arith)
      | inr p ↦ rw (le-ltb 65536 (length b) p) (lines_small (kinds_of L) 1 at_start (lines_of b) (Ok (events_of L (lines_of b))) (omega (arith, p, lines_count b)) (counts_hold L.opener.letter g b p))
    ]

    by_room : (t : Bool) → SmallRun (pick t (refused_at too_short 0 0) (pick (ltb 65536 (length b)) (refused_at wrong_length 0 0) (first_refused (kinds_of L) 1 at_start (lines_of b) (Ok (events_of L (lines_of b))))))
    by_room true = (omega arith, omega arith)
    by_room false = by_size

-- ---- a line of a walk

-- the numbers of refusals are bytes
number_low : (n : Reason) → number_of n < 256
number_low R.Length = omega arith
number_low R.Barred = omega arith
number_low R.Type = omega arith
number_low R.Separator = omega arith
number_low R.Required = omega arith
number_low R.Form = omega arith
number_low R.Range = omega arith
number_low R.Letter = omega arith
number_low R.Check = omega arith
number_low R.Wide = omega arith
number_low R.Short = omega arith
number_low R.Full = omega arith
number_low R.Disorder = omega arith
number_low R.OutOfPlace = omega arith
number_low R.NotClosed = omega arith
number_low R.LinksFull = omega arith
number_low R.Dropped = omega arith

-- and so are the letters of kinds
module _ (L : Lettered) (low : All (λ (k : LineKind). k.letter < 256) (kinds_of L)) where
  event_small : (t : Bool) (n : ℕ) → n ≤ 65534 → pick t (n + 1) n < 65536
  event_small true n h = omega arith
  event_small false n h = omega arith

  told_small : (a : Answer LineKind) (l : List ℕ) → leading (kinds_of L) l ≡ a → (n e x : ℕ) → n ≤ 65534 → e ≤ 65536 → x ≤ 65536 → SmallLine (told_as L a n e x)
  told_small (ok k) l q n e x h i j = record { kind = leading_all (λ (k : LineKind). k.letter < 256) (kinds_of L) l k low q; number = event_small (eqb k.letter L.opener.letter) n h; end = i; next = j }
  told_small (refusal m c) l q n e x h i j = small_nothing (number_of m) (number_low m)

  module _ (b : List ℕ) where
    at_small : length b ≤ 65536 → (at n : ℕ) → SmallLine (told_at L b at n)
    at_small w at n = elim (lt_or_le 65534 n) [
      | inl p ↦ rw (lt-ltb 65534 n p) (small_nothing no_line (omega arith))
      | inr few ↦ elim (lt_or_le at (length b)) [
        | inl p ↦ rw (le-ltb 65534 n few, lt-leb (length b) at p) (told_small (leading (kinds_of L) (line_of b at)) (line_of b at) refl n _ (next_of b at) few (end_low b w at p) (after_low b w at p))
        | inr p ↦ rw (le-ltb 65534 n few, le-leb (length b) at p) (small_nothing no_line (omega arith))
      ]
    ]

    pub first_small : SmallLine (first_told L b)
    unfolding first_told
    first_small = elim (lt_or_le 65536 (length b)) [
      | inl p ↦ rw (lt-ltb 65536 (length b) p) (small_nothing (number_of wrong_length) (omega arith))
      | inr p ↦ rw (le-ltb 65536 (length b) p) (at_small p 0 0)
    ]

    pub next_small : (x : BlockLine) → SmallLine (next_told L b x)
    unfolding next_told
    next_small x = elim (lt_or_le 65536 (length b)) [
      | inl p ↦ rw (lt-ltb 65536 (length b) p) (small_nothing (number_of wrong_length) (omega arith))
      | inr p ↦ rw (le-ltb 65536 (length b) p) (small_pick (is_ok (named (kinds_of L) x.kind)) _ _ (at_small p x.next x.number) (small_nothing no_line (omega arith)))
    ]
