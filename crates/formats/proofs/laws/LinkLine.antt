-- The parts of an LI line, read and written, as the code comes to them, and the bytes that the code lays.
use mathlib.Core.Path.{◌≡◌, refl, sym, ap, ◌∙◌}
use mathlib.Core.Bool.{Bool, true, false}
use mathlib.Core.List.{List, [], ◌∷◌, ◌++◌, append_assoc}
use Prim.Native.Nat.{ℕ, ◌+◌, ◌-◌, ◌≤◌}
use native.Mathlib.Omega.{arith}
use lib.ListN.{length, take, drop, get_or, set, replicate, length-append}
use lib.Dec.{eqb}
use lib.Seq.{take_at}
use borrow.Author.Tests.{eq-eqb, ne_eqb}
use Rattle.columns.specs.Answer.{ok, refusal, bad_form}
use Rattle.columns.specs.Table.{over, placed}
use Rattle.columns.proofs.laws.Tests.{and_false}
use Rattle.formats.specs.Lines.{end_from}
use Rattle.formats.specs.Link.{type_of, address_of, text_of, formed}
use Rattle.formats.specs.Cube.{link, link_line, link_parts}
use Rattle.formats.proofs.laws.Link.{text_none, no_text, type_part, address_end_lem, address_part, text_part}
use Rattle.formats.proofs.laws.CubeWriting.{two_placed}
use Rattle.columns.proofs.laws.Places.{part_over, set_over}

-- ---- read

module _ (l : List ℕ) where
  pub parts_malformed : formed (type_of l) (address_of l) (text_of l) ≡ false → link_parts l ≡ refusal bad_form 15
  unfolding link_parts
  parts_malformed e = rw (e, and_false (eqb (get_or l 14 0) 32))

  pub parts_no_blank : (get_or l 14 0 ≡ 32 → ⊥) → link_parts l ≡ refusal bad_form 15
  unfolding link_parts
  parts_no_blank n = rw (ne_eqb (get_or l 14 0) 32 n)

  pub parts_read : get_or l 14 0 ≡ 32 → formed (type_of l) (address_of l) (text_of l) ≡ true → link_parts l ≡ ok (link (take 12 (drop 2 l)) (type_of l) (address_of l) (text_of l))
  unfolding link_parts
  parts_read b e = rw (eq-eqb (get_or l 14 0) 32 b, e)

  -- the places where the code saw type and address end
  module _ (e : ℕ) (p : e ≡ end_from 32 l 15) where
    module _ (s : ℕ) (q : s ≡ end_from 32 l (e + 1)) where
      pub parts_no_text : length l ≤ s → link_parts l ≡ refusal bad_form 15
      parts_no_text h =
          let a : text_of l ≡ [] = text_none l (omega (arith, address_end_lem l e p s q)) in
          parts_malformed (rw a (no_text (type_of l) (address_of l)))

      pub parts_formed : {f : Bool} → f ≡ formed (take (e - 15) (drop 15 l)) (take (s - (e + 1)) (drop (e + 1) l)) (take (length l - (s + 1)) (drop (s + 1) l)) → formed (type_of l) (address_of l) (text_of l) ≡ f
      parts_formed g = sym (g ∙ rw (type_part l e p, address_part l e p s q, text_part l e p s q))

-- ---- written

pub link_size : (names ty ad tx : List ℕ) → length names ≡ 12 → length (link_line names ty ad tx) ≡ 17 + length ty + length ad + length tx
link_size names ty ad tx n =
    omega (arith, length-append names (32 ∷ ty ++ (32 ∷ ad ++ (32 ∷ tx))), length-append ty (32 ∷ ad ++ (32 ∷ tx)), length-append ad (32 ∷ tx))

-- ---- the bytes of a link, part after part

-- three parts after the first n bytes
pub parts_laid : (xs ty ad tx l : List ℕ) {out : List ℕ} (n i j : ℕ) → out ≡ over xs l → n ≡ length xs → i ≡ n + length ty → j ≡ i + length ad → j + length tx ≤ length l → placed j tx (placed i ad (placed n ty out)) ≡ over (xs ++ (ty ++ (ad ++ tx))) l
parts_laid xs ty ad tx l n i j e z p q h =
    let m = length-append xs ty in
    let k = length-append (xs ++ ty) ad in
    let a = part_over xs ty l _ n e z (omega arith) in
    let b = part_over (xs ++ ty) ad l _ i a (omega arith) (omega arith) in
    let c : ((xs ++ ty) ++ ad) ++ tx ≡ xs ++ (ty ++ (ad ++ tx)) = simp append_assoc in
    part_over ((xs ++ ty) ++ ad) tx l _ j b (omega arith) (omega arith) ∙ ap (λ (x : List ℕ). over x l) c

module _ (names ty ad tx : List ℕ) where
  module _ (n : length names ≡ 12) (h : 17 + length ty + length ad + length tx ≤ 255) where
    abbrev type_end : ℕ
    type_end = 15 + length ty

    abbrev address_end : ℕ
    address_end = 15 + length ty + 1 + length ad

    abbrev zeros : List ℕ
    zeros = replicate 255 0

    abbrev headed : List ℕ
    headed = (76 ∷ 73 ∷ names) ++ (32 ∷ [])

    abbrev typed : List ℕ
    typed = (headed ++ ty) ++ (32 ∷ [])

    abbrev addressed : List ℕ
    addressed = (typed ++ ad) ++ (32 ∷ [])

    headed_size : length headed ≡ 15
    headed_size = omega (arith, length-append names (32 ∷ []))

    typed_size : length typed ≡ type_end + 1
    typed_size = length-append (headed ++ ty) (32 ∷ []) ∙ omega (arith, length-append headed ty, headed_size)

    addressed_size : length addressed ≡ address_end + 1
    addressed_size = length-append (typed ++ ad) (32 ∷ []) ∙ omega (arith, length-append typed ad, typed_size)

    all_parts : addressed ++ tx ≡ link_line names ty ad tx
    all_parts = simp append_assoc

    module _ {a b c d : List ℕ} (p : a ≡ placed 2 names (set (set zeros 0 76) 1 73)) (q : b ≡ placed 15 ty (set a 14 32)) (r : c ≡ placed (type_end + 1) ad (set b type_end 32)) (s : d ≡ placed (address_end + 1) tx (set c address_end 32)) where
      names_laid : a ≡ over (76 ∷ 73 ∷ names) zeros
      names_laid = p ∙ part_over (76 ∷ 73 ∷ []) names zeros _ 2 (two_placed zeros 76 73 (omega arith)) refl (omega arith)

      type_laid : b ≡ over (headed ++ ty) zeros
      type_laid =
          q ∙ part_over headed ty zeros _ 15 (set_over (76 ∷ 73 ∷ names) zeros a 32 14 (omega arith) (omega arith) names_laid) (sym headed_size) (omega arith)

      address_laid : c ≡ over (typed ++ ad) zeros
      address_laid =
          r ∙ part_over typed ad zeros _ (type_end + 1) (set_over (headed ++ ty) zeros b 32 type_end (length-append headed ty ∙ omega (arith, headed_size)) (omega arith) type_laid) (sym typed_size) (omega arith)

      pub link_laid : d ≡ over (link_line names ty ad tx) zeros
      link_laid =
          s
          ∙ part_over addressed tx zeros _ (address_end + 1) (set_over (typed ++ ad) zeros c 32 address_end (length-append typed ad ∙ omega (arith, typed_size)) (omega arith) address_laid) (sym addressed_size) (omega arith)
          ∙ ap (λ (x : List ℕ). over x zeros) all_parts

pub link_taken : (names ty ad tx line : List ℕ) (n : ℕ) → length names ≡ 12 → n ≡ 17 + length ty + length ad + length tx → line ≡ over (link_line names ty ad tx) (replicate 255 0) → take n line ≡ link_line names ty ad tx
link_taken names ty ad tx line n k e q = ap (take n) q ∙ take_at (link_line names ty ad tx) _ n (link_size names ty ad tx k ∙ sym e)
