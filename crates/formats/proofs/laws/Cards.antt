-- What holds of every kind of card, computed here.
use mathlib.Core.Path.{◌≡◌, refl}
use mathlib.Core.List.{List, [], ◌∷◌}
use Prim.Native.Nat.{ℕ, ◌+◌, ◌*◌, ◌≤◌, ◌<◌}
use native.Mathlib.Omega.{arith}
use lib.Dec.{T, leb, leb→le, lit<}
use borrow.Author.Tests.{le-leb}
use lib.ListN.{length, take, get_or}
use Rattle.columns.specs.Answer.{ok}
use Rattle.columns.specs.Column.{Rec}
use Rattle.columns.specs.Row.{row_size}
use Rattle.columns.specs.Table.{sizes_of}
use Rattle.formats.specs.Row.{read_row, write_row, row_bytes}
use Rattle.formats.specs.declared.lettered.LineKind.{LineKind}
use Rattle.formats.specs.declared.cards.TheConstants.{ALL}
use Rattle.formats.specs.Lettered.{at_start, kinds_of, format_for, named, leading, read_lettered_into, numbered, kind_in, record_format, write_lettered}
use Rattle.formats.specs.Format.{format_of}
use Rattle.formats.specs.BlockWriting.{RecordCalls}
use Rattle.formats.specs.RunWriting.{is_in_order, WrittenRun}
use Rattle.formats.specs.Cards.{cards, card_record}
use Rattle.formats.specs.Run.{read_run}
use Rattle.formats.specs.RunWalk.{first_told, next_told}
use Rattle.formats.specs.declared.block_walk.BlockLine.{BlockLine}
use Rattle.formats.proofs.laws.BlockBounds.{SmallLine}
use Rattle.formats.proofs.laws.RunBounds.{SmallRun, run_small, first_small, next_small}
use Rattle.formats.proofs.laws.Format.{format_fits}
use Rattle.formats.proofs.laws.RunWriting.{OwnLetter, All, all_numbered, lettered_back, lettered_there, run_written}

-- the code's cards are those of the definition
pub cards_are : ALL ≡ kinds_of cards
cards_are = refl

-- each card is named by its letter, and its columns begin with it
pub cards_own : All (OwnLetter cards) (kinds_of cards)
unfolding named numbered format_of
cards_own = (
  record { own = refl; begins = refl; kept = refl; numbered_own = refl; above = lit< tt },
  (
    record { own = refl; begins = refl; kept = refl; numbered_own = refl; above = lit< tt },
    (
      record { own = refl; begins = refl; kept = refl; numbered_own = refl; above = lit< tt },
      (
        record { own = refl; begins = refl; kept = refl; numbered_own = refl; above = lit< tt },
        (
          record { own = refl; begins = refl; kept = refl; numbered_own = refl; above = lit< tt },
          (
            record { own = refl; begins = refl; kept = refl; numbered_own = refl; above = lit< tt },
            (record { own = refl; begins = refl; kept = refl; numbered_own = refl; above = lit< tt }, tt),
          ),
        ),
      ),
    ),
  ),
)

-- a place that is lent for a card's record has room for each
abbrev bytes_of : ℕ → ℕ
bytes_of kind = let z = sizes_of (format_of kind).columns in 1 + z.numbers + 8 * z.numbers + z.chars

sized : (kind : ℕ) → T (leb (bytes_of kind) card_record) → row_size (format_of kind).columns ≤ card_record
sized kind t = let s = (format_fits kind).sound in omega (arith, s.numbers, s.chars, leb→le (bytes_of kind) card_record t)

card_sizes : All (λ (k : LineKind). row_size (format_of k.kind).columns ≤ card_record) (kinds_of cards)
unfolding format_of
card_sizes = (sized 6 tt, (sized 7 tt, (sized 8 tt, (sized 9 tt, (sized 10 tt, (sized 11 tt, (sized 12 tt, tt)))))))

pub card_size : (r : List ℕ) → row_size (record_format cards r).columns ≤ card_record
card_size r = all_numbered (λ (k : LineKind). row_size (format_of k.kind).columns ≤ card_record) cards.opener (kinds_of cards) (get_or r 0 0) card_sizes.0 card_sizes

-- a card that is written reads back to the same record, and one that was read is written again
pub card_back : (r ys : List ℕ) (room : ℕ) → write_lettered cards r room ≡ ok ys → read_lettered_into (kinds_of cards) card_record ys card_record ≡ ok (take (row_size (record_format cards r).columns) r)
card_back r ys room e = lettered_back cards cards_own r ys room card_record (card_size r) e

pub card_there : (l : List ℕ) (k : LineKind) (m : Rec) → leading (kinds_of cards) l ≡ ok k → read_row (format_for k).columns l ≡ ok m → (room : ℕ) → write_lettered cards (row_bytes (format_for k) m) room ≡ write_row (format_for k).columns m room
card_there l k m e q room = lettered_there cards cards_own l k m e q room

-- what card calls wrote, the first record an I card's, reads back as a run of those cards
pub cards_written : {rs : List (List ℕ)} {at end : ℕ} {out to : List ℕ} → at ≤ length out → RecordCalls (record_format cards) rs at out end to → WrittenRun cards rs at out end to
cards_written h w = run_written cards cards_own h w

-- every card has rank 0, so only the first is asked for
one_rank : (r : List ℕ) → (kind_in cards r).rank ≡ 0
one_rank r = all_numbered (λ (k : LineKind). k.rank ≡ 0) cards.opener (kinds_of cards) (get_or r 0 0) refl (refl, (refl, (refl, (refl, (refl, (refl, (refl, tt)))))))

free_order : (rs : List (List ℕ)) → T (is_in_order cards 0 rs)
unfolding is_in_order
free_order [] = tt
free_order (r ∷ rs) = let h : 0 ≤ (kind_in cards r).after = omega arith in rw (le-leb 0 (kind_in cards r).after h, one_rank r) (free_order rs)

pub cards_in_order : (r : List ℕ) (rs : List (List ℕ)) → get_or r 0 0 ≡ 6 → T (is_in_order cards at_start (r ∷ rs))
unfolding is_in_order numbered
cards_in_order r rs e = rw e (free_order rs)

-- their letters are bytes, and not 0
pub cards_low : All (λ (k : LineKind). k.letter < 256) (kinds_of cards)
cards_low = (lit< tt, (lit< tt, (lit< tt, (lit< tt, (lit< tt, (lit< tt, (lit< tt, tt)))))))

pub card_walk_first : (b : List ℕ) → SmallLine (first_told cards b)
card_walk_first b = first_small cards cards_low b

pub card_walk_next : (b : List ℕ) (x : BlockLine) → SmallLine (next_told cards b x)
card_walk_next b x = next_small cards cards_low b x

pub cards_small : (b : List ℕ) (room : ℕ) → SmallRun (read_run cards b room)
cards_small b room = run_small cards (lit< tt) b room
