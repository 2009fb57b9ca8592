use native.Mathlib.Omega.{arith}
use lib.Count.{leading_le}
use Rattle.catalogue.specs.Keys.{pair_key, key_number}
use Rattle.catalogue.specs.QuickLookUp.{held_key}
use Rattle.catalogue.proofs.laws.section.Halving.{digits_hold, whole_held, whole_none}
use Rattle.catalogue.proofs.quick_look_up.search_all.Goals as goal

pub overflow_sub-most : goal.overflow_sub-most
overflow_sub-most c =
    leading_le 64 c.args.count

-- At first as many entries may be examined as the count has binary digits, which is enough.
pub search-place-requires : goal.search-place-requires
search-place-requires c =
    record {
      inside = c.requires.0;
      within = omega (arith, c.requires.1);
      low = c.requires.2;
      enough = omega (arith, (digits_hold c.args.count (omega (arith, c.requires.2))).0);
    }

pub overflow_sub-examined : goal.overflow_sub-examined
overflow_sub-examined c =
    omega (arith, c.search-place.ensures.left_is)

pub returns-then-place-lt-PAIRS : goal.returns-then-place-lt-PAIRS
returns-then-place-lt-PAIRS c =
    (whole_held (held_key c.args.room.now) (key_number (pair_key c.args.source c.args.identifier)) c.args.count c.requires.2 c.search-place.ensures c.if-place-lt-PAIRS.true, omega arith)

pub returns-else-place-lt-PAIRS : goal.returns-else-place-lt-PAIRS
returns-else-place-lt-PAIRS c =
    (whole_none (held_key c.args.room.now) (key_number (pair_key c.args.source c.args.identifier)) c.args.count c.requires.2 c.search-place.ensures c.if-place-lt-PAIRS.false, omega arith)
