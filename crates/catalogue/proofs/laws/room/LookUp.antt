-- What a look-up answers for a pair, as the code comes to it.
use Rattle.std.proofs.Common.{Result, Ok, Err}
use Rattle.std.specs.Result.{result_ok}
use Prim.Native.Nat.{ℕ, ◌+◌, ◌*◌}
use mathlib.Core.Path.{◌≡◌, sym, ◌∙◌, ap₂}
use mathlib.Core.List.{List, [], ◌++◌}
use native.Mathlib.Omega.{arith}
use borrow.Author.Tests.{eq-eqb, ne_eqb}
use lib.ListN.{length}
use lib.Seq.{take_all}
use Rattle.columns.specs.Answer.{wrong_length}
use Rattle.columns.specs.Word.{word_of}
use Rattle.catalogue.specs.declared.key.Key.{Key}
use Rattle.catalogue.specs.Line.{key_of, key}
use Rattle.catalogue.specs.Room.{contents}
use Rattle.catalogue.specs.Ordered.{Ordered}
use Rattle.catalogue.specs.Keys.{two, eight, key_number}
use Rattle.catalogue.specs.Entries.{Sought}
use Rattle.catalogue.specs.LookUp.{looked_in, look_up}
use Rattle.catalogue.proofs.laws.section.Keys.{pair_words, pair_key_lem}
use Rattle.catalogue.proofs.laws.section.Seek.{found_find, missing_find}
use Rattle.catalogue.proofs.laws.room.View.{checked_fine, same_contents, view_good}

-- ---- the key of a source and an identifier

pub key_pair : (so id : List ℕ) → length so ≡ 2 → length id ≡ 8 → (k : Key) → k.source ≡ two so 0 → k.identifier ≡ eight id 0 → k.high ≡ 0 → k.low ≡ 0
    → key_number k ≡ key_of (so ++ id) []
key_pair so id hs hi k p q h l =
    let e : word_of 0 (so ++ id) ≡ two so 0 * 18446744073709551616 + eight id 0 =
    ap₂ (λ (x y : List ℕ). word_of 0 (x ++ y)) (sym (take_all 2 so (omega arith))) (sym (take_all 8 id (omega arith))) ∙ pair_words so id 0 0 (omega arith) (omega arith) in
    pair_key_lem (so ++ id) k (rw (p, q) (sym e)) h l

-- ---- a key in a room in order

-- the answer, by what the search said
pub seen_is : (r : List ℕ) → Ordered r → (k : ℕ) (s : Result ℕ ℕ) → Sought key k (contents r).held s → result_ok s ≡ looked_in (contents r) k
unfolding looked_in
seen_is r o k (Ok i) q = sym (rw (found_find key k (contents r).held i q, ← q.0))
seen_is r o k (Err i) q = sym (rw (missing_find key k (contents r).held (view_good r o).held_ascends i q))

-- ---- a length that is not right

module _ (r so id : List ℕ) (o : Ordered r) where
  pub look_source : (length so ≡ 2 → ⊥) → Err wrong_length ≡ look_up r so id
  unfolding look_up
  look_source n = rw (checked_fine r (λ n. Err n) _ o, ne_eqb (length so) 2 n)

  pub look_identifier : length so ≡ 2 → (length id ≡ 8 → ⊥) → Err wrong_length ≡ look_up r so id
  unfolding look_up
  look_identifier e n = rw (checked_fine r (λ n. Err n) _ o, eq-eqb (length so) 2 e, ne_eqb (length id) 8 n)

-- ---- both lengths are right: the answer is that of the pair
pub look_pair : (r so id : List ℕ) → Ordered r → length so ≡ 2 → length id ≡ 8 → {k : ℕ} → k ≡ key_of (so ++ id) [] → Ok (looked_in (contents r) k) ≡ look_up r so id
unfolding look_up
look_pair r so id o s i e = rw (checked_fine r (λ n. Err n) _ o, eq-eqb (length so) 2 s, eq-eqb (length id) 8 i, ← same_contents r o, e)
