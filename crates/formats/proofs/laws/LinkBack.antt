-- Every link that is written reads back the same, and every LI line that is read is written as it was.
use mathlib.Core.Path.{◌≡◌, refl, sym, ap, ◌∙◌, subst}
use mathlib.Core.Bool.{true, ◌&&◌}
use mathlib.Core.List.{List, ◌∷◌, ◌++◌}
use Prim.Native.Nat.{ℕ, suc, ◌+◌, ◌≤◌, ◌<◌}
use native.Mathlib.Omega.{arith}
use lib.ListN.{length, take, drop, get_or, length-drop, take-append-drop}
use lib.Dec.{eqb}
use lib.Seq.{take_at, get_or_at, drop-drop, drop-cons, drop-append-add}
use borrow.Author.Tests.{eqb-true}
use Rattle.columns.specs.Answer.{ok, bad_form}
use Rattle.columns.proofs.laws.Answers.{held}
use Rattle.columns.proofs.laws.Tests.{both_true}
use Rattle.formats.specs.Link.{word, type_of, address_of, text_of, formed}
use Rattle.formats.specs.Cube.{Message, link, link_line, link_barred, link_parts, read_link, read_line, write_message}
use Rattle.formats.proofs.laws.Link.{Formed, formed_of, text_length, word_split, word_blank}
use Rattle.formats.proofs.laws.Cube.{text_read, text_clear, line_link}
use Rattle.formats.proofs.laws.LinkLine.{parts_read, link_size}
use Rattle.formats.proofs.laws.CubeWriting.{put_text_lem, TextPut, text_put}

-- ---- what a line that is read says

pub record ReadLink (l : List ℕ) (m : Message) : Type 0 where
  pub long : 20 ≤ length l
  pub short : length l ≤ 255
  pub clear : link_barred l ≡ 0
  pub blank : get_or l 14 0 ≡ 32
  pub parts : formed (type_of l) (address_of l) (text_of l) ≡ true
  pub is : link (take 12 (drop 2 l)) (type_of l) (address_of l) (text_of l) ≡ m

pub link_read : (l : List ℕ) (m : Message) → read_link l ≡ ok m → ReadLink l m
unfolding read_link link_parts
link_read l m e =
    let r = text_read 20 255 14 link_parts l m e in
    let s = held (eqb (get_or l 14 0) 32 && formed (type_of l) (address_of l) (text_of l)) bad_form 15 (ok (link (take 12 (drop 2 l)) (type_of l) (address_of l) (text_of l))) m r.rest in
    let t = both_true (eqb (get_or l 14 0) 32) (formed (type_of l) (address_of l) (text_of l)) s.0 in
    record {
      long = r.long;
      short = r.short;
      clear = r.clear;
      blank = eqb-true (get_or l 14 0) 32 t.0;
      parts = t.1;
      is = cc s.1;
    }

-- ---- a line is made of its parts

module _ (l : List ℕ) where
  type_split : 15 + length (type_of l) < length l → drop 15 l ≡ type_of l ++ (32 ∷ drop (16 + length (type_of l)) l)
  unfolding type_of
  type_split h =
      let z : 15 + suc (length (word (drop 15 l))) ≡ 16 + length (word (drop 15 l)) = omega arith in
      word_split (drop 15 l) (omega (arith, length-drop 15 l)) ∙ rw (drop-drop (suc (length (word (drop 15 l)))) 15 l, z)

  address_split : 16 + length (type_of l) + length (address_of l) < length l → drop (16 + length (type_of l)) l ≡ address_of l ++ (32 ∷ text_of l)
  unfolding address_of text_of
  address_split h =
      let z : 16 + length (type_of l) + suc (length (word (drop (16 + length (type_of l)) l))) ≡ 17 + length (type_of l) + length (word (drop (16 + length (type_of l)) l)) = omega arith in
      word_split (drop (16 + length (type_of l)) l) (omega (arith, length-drop (16 + length (type_of l)) l))
      ∙ rw (drop-drop (suc (length (word (drop (16 + length (type_of l)) l)))) (16 + length (type_of l)) l, z)

  module _ {m : Message} (w : ReadLink l m) where
    pub parts_inside : 17 + length (type_of l) + length (address_of l) < length l
    parts_inside = omega (arith, text_length l, (formed_of (type_of l) (address_of l) (text_of l) w.parts).some_text_lem)

    names_split : drop 2 l ≡ take 12 (drop 2 l) ++ (32 ∷ drop 15 l)
    names_split =
        let a : drop 14 l ≡ 32 ∷ drop 15 l = drop-cons l 14 0 (omega (arith, w.long)) ∙ ap (λ (b : ℕ). b ∷ drop 15 l) w.blank in
        sym (take-append-drop 12 (drop 2 l)) ∙ ap (λ (x : List ℕ). take 12 (drop 2 l) ++ x) (drop-drop 12 2 l ∙ a)

    pub link_whole : get_or l 0 0 ≡ 76 → get_or l 1 0 ≡ 73 → link_line (take 12 (drop 2 l)) (type_of l) (address_of l) (text_of l) ≡ l
    link_whole a b =
        let c : drop 15 l ≡ type_of l ++ (32 ∷ address_of l ++ (32 ∷ text_of l)) =
        type_split (omega (arith, parts_inside)) ∙ ap (λ (x : List ℕ). type_of l ++ (32 ∷ x)) (address_split (omega (arith, parts_inside))) in
        let d : drop 2 l ≡ take 12 (drop 2 l) ++ (32 ∷ type_of l ++ (32 ∷ address_of l ++ (32 ∷ text_of l))) = names_split ∙ ap (λ (x : List ℕ). take 12 (drop 2 l) ++ (32 ∷ x)) c in
        let f : l ≡ get_or l 0 0 ∷ get_or l 1 0 ∷ drop 2 l = drop-cons l 0 0 (omega (arith, w.long)) ∙ ap (λ (x : List ℕ). get_or l 0 0 ∷ x) (drop-cons l 1 0 (omega (arith, w.long))) in
        sym (f ∙ rw (a, b) (ap (λ (x : List ℕ). 76 ∷ 73 ∷ x) d))

    -- what was read is written as it was
    pub link_accepted : get_or l 0 0 ≡ 76 → get_or l 1 0 ≡ 73 → (room : ℕ) → length l ≤ room → write_message m room ≡ ok l
    unfolding write_message
    link_accepted a b room h =
        subst (λ (x : Message). write_message x room ≡ ok l) w.is (rw (link_whole a b) (put_text_lem 20 255 14 l (formed (type_of l) (address_of l) (text_of l)) room w.long w.short h w.clear w.parts))

-- ---- the parts of a line that is made of parts

after_byte : (a b : List ℕ) (x k : ℕ) → k ≡ length a + 1 → drop k (a ++ (x ∷ b)) ≡ b
after_byte a b x k e = rw e (drop-append-add a (x ∷ b) 1)

module _ (names ty ad tx : List ℕ) (n : length names ≡ 12) (f : Formed ty ad tx) where
  after_names : drop 15 (link_line names ty ad tx) ≡ ty ++ (32 ∷ ad ++ (32 ∷ tx))
  after_names = after_byte names (ty ++ (32 ∷ ad ++ (32 ∷ tx))) 32 13 (omega arith)

  type_back : type_of (link_line names ty ad tx) ≡ ty
  unfolding type_of
  type_back = ap word after_names ∙ word_blank ty (ad ++ (32 ∷ tx)) f.type_word.solid_is

  after_type : drop (16 + length ty) (link_line names ty ad tx) ≡ ad ++ (32 ∷ tx)
  after_type =
      let z : 16 + length ty ≡ 15 + (length ty + 1) = omega arith in
      rw z (sym (drop-drop (length ty + 1) 15 (link_line names ty ad tx)) ∙ ap (drop (length ty + 1)) after_names ∙ after_byte ty (ad ++ (32 ∷ tx)) 32 (length ty + 1) refl)

  address_back : address_of (link_line names ty ad tx) ≡ ad
  unfolding address_of
  address_back =
      ap (λ (s : List ℕ). word (drop (16 + length s) (link_line names ty ad tx))) type_back ∙ ap word after_type ∙ word_blank ad tx f.address_word.solid_is

  text_back : text_of (link_line names ty ad tx) ≡ tx
  unfolding text_of
  text_back =
      let z : 17 + length ty + length ad ≡ 16 + length ty + (length ad + 1) = omega arith in
      rw (type_back, address_back, z)
      (sym (drop-drop (length ad + 1) (16 + length ty) (link_line names ty ad tx)) ∙ ap (drop (length ad + 1)) after_type ∙ after_byte ad tx 32 (length ad + 1) refl)

  parts_back : formed ty ad tx ≡ true → link_parts (link_line names ty ad tx) ≡ ok (link names ty ad tx)
  parts_back e =
      parts_read (link_line names ty ad tx) (get_or_at names 32 (ty ++ (32 ∷ ad ++ (32 ∷ tx))) 0 12 n) (rw (type_back, address_back, text_back) e)
      ∙ rw (type_back, address_back, text_back, take_at names (32 ∷ ty ++ (32 ∷ ad ++ (32 ∷ tx))) 12 n)

module _ (names ty ad tx ys : List ℕ) (room : ℕ) (n : length names ≡ 12) (e : write_message (link names ty ad tx) room ≡ ok ys) where
  written_is : TextPut 20 255 14 (link_line names ty ad tx) (formed ty ad tx) room ys
  unfolding write_message
  written_is = text_put 20 255 14 (link_line names ty ad tx) (formed ty ad tx) room ys e

  pub link_back : read_line ys ≡ ok (link names ty ad tx)
  unfolding read_link
  link_back =
      let w = written_is in
      ap read_line (sym w.is)
      ∙ line_link (link_line names ty ad tx) (omega (arith, w.long)) refl refl
      ∙ text_clear 20 255 14 link_parts (link_line names ty ad tx) w.long w.short w.clear
      ∙ parts_back names ty ad tx n (formed_of ty ad tx w.parts) w.parts

  pub link_back_size : length ys ≡ 17 + length ty + length ad + length tx
  link_back_size = ap length (sym written_is.is) ∙ link_size names ty ad tx n

  pub link_low_size : length ys ≤ 255
  link_low_size = let w = written_is in omega (arith, ap length w.is, w.short)
