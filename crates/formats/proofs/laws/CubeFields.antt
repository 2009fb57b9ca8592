-- What an acceptable CUBE line has: its length, and allowed bytes in identifier, source and version.
use mathlib.Core.Path.{◌≡◌, refl, sym, ap, ◌∙◌, subst}
use mathlib.Core.Bool.{true}
use mathlib.Core.List.{List, ◌++◌}
use Prim.Native.Nat.{ℕ, ◌+◌, ◌≤◌}
use native.Mathlib.Omega.{arith}
use lib.ListN.{length, take, drop, get_or, length-drop, take-append-drop}
use lib.Seq.{length-take-le, take-take, take-add, get_or-take, get_or-drop}
use borrow.Author.Tests.{le-leb}
use Rattle.columns.specs.Answer.{ok}
use Rattle.columns.specs.Bytes.{barred, inside}
use Rattle.columns.proofs.laws.Clear.{Clear, clear_take, clear_none, none_clear}
use Rattle.columns.proofs.laws.Stretch.{barred_split}
use Rattle.formats.specs.Cube.{Message, event, delete, link, delete_parts, read_event, read_delete, read_link, read_line}
use Rattle.formats.proofs.laws.Cube.{text_read, event_read_lem, Came, by_event, by_delete, by_link, came}
use Rattle.formats.proofs.laws.LinkBack.{ReadLink, link_read}
use Rattle.formats.proofs.laws.CubeBack.{after_type}

-- the length and the names of a message
abbrev pub Shape : List ℕ → Message → Type 0
Shape l (event ns t) = length l ≡ 80
Shape l (delete names t) = names ≡ take 11 (drop 2 l)
Shape l (link names ty ad tx) = names ≡ take 12 (drop 2 l)

pub record Fields (l : List ℕ) (m : Message) : Type 0 where
  pub long : 13 ≤ length l
  pub clear : barred 3 13 3 (take 11 (drop 2 l)) ≡ 0
  pub shape : Shape l m

-- the first eleven of more bytes that are clear
first_clear : (s : List ℕ) → barred 3 13 3 s ≡ 0 → barred 3 13 3 (take 11 s) ≡ 0
first_clear s e = (barred_split 3 13 3 (take 11 s) (drop 11 s) (omega arith) (ap (barred 3 13 3) (take-append-drop 11 s) ∙ e)).0

event_fields : (l : List ℕ) (m : Message) → read_event l ≡ ok m → Fields l m
event_fields l m e =
    let r = event_read_lem l m e in
    let n : length l ≡ 80 = r.read.size in
    let lt : length (take 79 l) ≡ 79 = length-take-le 79 l (omega arith) in
    let c : take 2 (take 79 l) ++ take 77 (drop 2 l) ≡ take 79 l = ap (λ (x : List ℕ). x ++ take 77 (drop 2 l)) (take-take 2 79 l (omega arith)) ∙ sym (take-add 2 77 l) in
    let b = after_type (take 79 l) (take 77 (drop 2 l)) (omega arith) c r.read.clear in
    let f : barred 3 13 3 (take 11 (take 77 (drop 2 l))) ≡ 0 = first_clear (take 77 (drop 2 l)) b in
    record {
      long = omega arith;
      clear = ap (barred 3 13 3) (sym (take-take 11 77 (drop 2 l) (omega arith))) ∙ f;
      shape = subst (Shape l) r.is n;
    }

delete_fields : (l : List ℕ) (m : Message) → read_delete l ≡ ok m → Fields l m
unfolding read_delete
delete_fields l m e =
    let r = text_read 13 80 13 delete_parts l m e in
    let i : delete (take 11 (drop 2 l)) (drop 13 l) ≡ m = cc r.rest in
    let b = after_type l (drop 2 l) (omega (arith, r.long)) (take-append-drop 2 l) r.clear in
    record { long = r.long; clear = first_clear (drop 2 l) b; shape = subst (Shape l) i refl }

inside_names : (to i : ℕ) → 3 ≤ i → i ≤ to → inside 3 to i ≡ true
inside_names to i a b = rw (le-leb 3 i a, le-leb i to b)

-- columns 3 to 14 of an LI line that is read
pub link_names_clear : (l : List ℕ) {m : Message} → ReadLink l m → Clear true (take 12 (drop 2 l))
link_names_clear l w =
    let n : length (take 2 l) ≡ 2 = length-take-le 2 l (omega (arith, w.long)) in
    let k : length (take 12 (drop 2 l)) ≡ 12 = length-take-le 12 (drop 2 l) (omega (arith, length-drop 2 l, w.long)) in
    let z : 1 + length (take 2 l) ≡ 3 = omega arith in
    let p = (barred_split 3 14 1 (take 2 l) (drop 2 l) (omega arith) (ap (barred 3 14 1) (take-append-drop 2 l) ∙ w.clear)).1 in
    let q = (barred_split 3 14 3 (take 12 (drop 2 l)) (drop 12 (drop 2 l)) (omega arith) (ap (barred 3 14 3) (take-append-drop 12 (drop 2 l)) ∙ ap (λ (c : ℕ). barred 3 14 c (drop 2 l)) (sym z) ∙ p)).0 in
    none_clear 3 14 true 3 (take 12 (drop 2 l)) (omega arith) (λ i a b. inside_names 14 i a (omega (arith, b, k))) q

link_fields : (l : List ℕ) (m : Message) → read_link l ≡ ok m → Fields l m
link_fields l m e =
    let w = link_read l m e in
    let c : Clear true (take 11 (drop 2 l)) = subst (Clear true) (take-take 11 12 (drop 2 l) (omega arith)) (clear_take 11 (take 12 (drop 2 l)) (link_names_clear l w)) in
    let k : length (take 11 (drop 2 l)) ≡ 11 = length-take-le 11 (drop 2 l) (omega (arith, length-drop 2 l, w.long)) in
    record {
      long = omega (arith, w.long);
      clear = clear_none 3 13 true 3 {s = take 11 (drop 2 l)} (λ i a b. inside_names 13 i a (omega (arith, b, k))) c;
      shape = subst (Shape l) w.is refl;
    }

by_type : (l : List ℕ) (m : Message) → Came l m → Fields l m
by_type l m (by_event t e) = event_fields l m e
by_type l m (by_delete e) = delete_fields l m e
by_type l m (by_link t e) = link_fields l m e

pub line_fields : (l : List ℕ) (m : Message) → read_line l ≡ ok m → Fields l m
line_fields l m e = by_type l m (came l m e)

-- the version of a delete stands in column 13
pub delete_version : (l names t : List ℕ) → read_line l ≡ ok (delete names t) → get_or names 10 0 ≡ get_or l 12 0
delete_version l names t e =
    let p : names ≡ take 11 (drop 2 l) = (line_fields l (delete names t) e).shape in
    ap (λ (x : List ℕ). get_or x 10 0) p ∙ get_or-take 11 (drop 2 l) 10 0 (omega arith) ∙ get_or-drop 2 l 10 0
