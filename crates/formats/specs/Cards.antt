-- The seven Calnet cards as lines by their first letter. Document 02, Wish 5: the I card opens an event and comes before all its
-- others, whose order is free.
use Rattle.std.specs.Prelude.{ℕ, [], ◌∷◌}
use Rattle.formats.specs.Row.{RowFormat}
use Rattle.formats.specs.Format.{card_i, card_l, card_e, card_m, card_p, card_a, card_r}
use Rattle.formats.specs.declared.lettered.LineKind.{LineKind}
use Rattle.formats.specs.Lettered.{at_start, Lettered}

-- all cards have one rank: the I card may follow what stands before the first line, the others only a card
abbrev pub card_kind : ℕ → RowFormat → ℕ → LineKind
card_kind letter F after = record { letter = letter; kind = F.kind; rank = 0; after = after }

abbrev pub cards : Lettered
cards =
    record {
      opener = card_kind 73 card_i at_start;
      others =
          -- L
          card_kind 76 card_l 0
          -- E
          ∷ card_kind 69 card_e 0
          -- M
          ∷ card_kind 77 card_m 0
          -- P
          ∷ card_kind 80 card_p 0
          -- A
          ∷ card_kind 65 card_a 0
          -- R
          ∷ card_kind 82 card_r 0
          ∷ [];
    }

-- the bytes of the largest record, the E card's
abbrev pub card_record : ℕ
card_record = 82
