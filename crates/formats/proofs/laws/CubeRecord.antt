-- Laws of CUBE records as bytes: each answer as the code comes to it, and the round trips.
use Rattle.std.specs.Prelude.{Ok, Err}
use Rattle.std.specs.Prelude.{Result}
use Rattle.columns.specs.declared.Reason.{Reason}
use Rattle.columns.specs.declared.Refusal.{Refusal}
use mathlib.Core.Path.{◌≡◌, refl, sym, ap, ◌∙◌, subst}
use mathlib.Core.Bool.{Bool, true, false}
use mathlib.Core.List.{List, [], ◌∷◌, ◌++◌, append_assoc}
use Prim.Native.Nat.{ℕ, ◌+◌, ◌-◌, ◌≤◌, ◌<◌}
use native.Mathlib.Omega.{arith}
use lib.ListN.{length, take, drop, get_or, set, replicate, length-append, length-drop}
use lib.Seq.{slice, take_all, take-add, take-take, drop-drop, length-take-le}
use lib.IntN.{ℤ, pos}
use borrow.Author.Tests.{lt-ltb, le-ltb, ne_eqb}
use Rattle.columns.specs.Table.{Outcome}
use Rattle.columns.specs.Answer.{refusal_at, pick, Answer, ok, refusal, bad_form, too_short}
use Rattle.columns.specs.Column.{Slot, Rec}
use Rattle.columns.specs.Table.{flags_of, values_of, slots_of, over, placed, Wrote, laid}
use Rattle.columns.proofs.laws.Answers.{over_whole, done_of, refused_of}
use Rattle.columns.proofs.laws.Table.{flags_length, values_length, slots_back}
use Rattle.formats.specs.Record.{Reply}
use Rattle.formats.specs.declared.cube.Parts.{Parts}
use Rattle.formats.specs.Link.{type_of, address_of}
use Rattle.formats.specs.Cube.{Message, event, delete, link, event_kind, delete_kind, link_kind, delete_of, link_of, read_line, line_read, line_part, LineRead, write_message}
use Rattle.columns.specs.Bytes.{same_bytes}
use Rattle.formats.specs.Record.{value_bytes, packed, slots_in, Replied}
use Rattle.formats.specs.CubeRecord.{filled, record_of, event_in, delete_in, link_in, message_in, read_record, record_answer, read_into, write_from}
use Rattle.columns.proofs.laws.Bytes.{slice_is}
use Rattle.columns.proofs.laws.Places.{part_over}
use Rattle.formats.proofs.laws.Cube.{event_part_lem}
use Rattle.formats.proofs.laws.Link.{type_taken, address_taken, text_word}
use Rattle.formats.proofs.laws.LinkLine.{parts_laid}
use Rattle.formats.proofs.laws.LinkBack.{parts_inside}
use Rattle.formats.proofs.laws.CubeThere.{was_there, was_refused, event_there, delete_there, link_there}
use Rattle.formats.proofs.laws.CubeWriting.{two_placed}
use Rattle.formats.proofs.laws.Record.{numbers_length, packed_length}
use Rattle.formats.proofs.laws.CubeBack.{Sized, line_accepted, event_size, delete_size}
use Rattle.formats.specs.declared.cube.Parts.TheVariants as P

-- ---- replies

module _ (a : Answer (List ℕ)) (from : List ℕ) where
  pub replied_refused : (n : Reason) (k : ℕ) → a ≡ refusal n k → Replied a (Err (refusal_at n k)) from from
  replied_refused n k e = rw e (record { answer = refl; bytes = refl })

  pub replied_done : (ys to : List ℕ) (n : ℕ) → a ≡ ok ys → length ys ≡ n → to ≡ over ys from → Replied a (Ok n) from to
  replied_done ys to n e m f = rw (e, ← m) (record { answer = refl; bytes = f })

-- the reply to a line of some bytes that was written or refused
abbrev pub replied : Outcome → ℕ → Reply
replied (Ok u) len = Ok len
replied (Err e) len = Err e

module _ {a : Answer (List ℕ)} {r : Outcome} {from to : List ℕ} (w : Wrote a r from to) where
  pub wrote_reply : (n : ℕ) → ((ys : List ℕ) → a ≡ ok ys → length ys ≡ n) → r ≡ (Ok tt) → Replied a (Ok n) from to
  wrote_reply n f e =
      let d = done_of a (sym e ∙ w.answer) in
      replied_done a from d.value to n d.is (f d.value d.is) (w.bytes ∙ ap (λ (x : Answer (List ℕ)). laid x from) d.is)

  pub wrote_no_reply : (e : Refusal) → r ≡ Err e → Replied a (Err e) from to
  wrote_no_reply e p =
      let d : a ≡ refusal e.reason e.column = refused_of a e (sym p ∙ w.answer) in
      let f : to ≡ from = w.bytes ∙ ap (λ (x : Answer (List ℕ)). laid x from) d in
      rw f (replied_refused a from e.reason e.column d)

  pub wrote_replied : (n : ℕ) → ((ys : List ℕ) → a ≡ ok ys → length ys ≡ n) → Replied a (replied r n) from to
  wrote_replied n f = by_outcome r refl
    where
      by_outcome : (o : Outcome) → r ≡ o → Replied a (replied o n) from to
      by_outcome (Ok u) e = wrote_reply n f e
      by_outcome (Err r) e = wrote_no_reply r e

pub replied_as : (a b : Answer (List ℕ)) (r : Reply) (from to : List ℕ) → b ≡ a → Replied b r from to → Replied a r from to
replied_as a b r from to e w = rw (← e) w

-- ---- the kind and the lengths of a delete or a link, then its names and texts

pub text_filled : (h s : List ℕ) → length h + length s ≤ 268 → placed (length h) s (placed 0 h (replicate 268 0)) ≡ filled (h ++ s)
text_filled h s n = part_over h s (replicate 268 0) (placed 0 h (replicate 268 0)) (length h) refl refl n

-- ---- a line read into a record

module _ (l : List ℕ) (room : ℕ) where
  pub into_short : room < 268 → read_into l room ≡ refusal too_short 0
  unfolding read_into
  into_short h = rw (lt-ltb room 268 h)

  pub into_read : 268 ≤ room → read_into l room ≡ record_answer (read_line l)
  unfolding read_into
  into_read h = rw (le-ltb room 268 h)

pub parts_length : (names ty ad tx : List ℕ) → length (names ++ (ty ++ (ad ++ tx))) ≡ length names + length ty + length ad + length tx
parts_length names ty ad tx = omega (arith, length-append names (ty ++ (ad ++ tx)), length-append ty (ad ++ tx), length-append ad tx)

pub filled_length : (s : List ℕ) → length s ≤ 268 → length (filled s) ≡ 268
filled_length s h = length-append s (drop (length s) (replicate 268 0)) ∙ omega (arith, length-drop {A = ℕ} (length s) (replicate 268 0))

pub record_size_lem : (m : Message) → Sized m → length (record_of m) ≡ 268
record_size_lem (event ns t) s =
    filled_length (packed event_kind (flags_of ns) (values_of ns) t) (omega (arith, packed_length event_kind (flags_of ns) (values_of ns) t, flags_length ns, values_length ns, s.0, s.1))
record_size_lem (link names ty ad tx) s =
    filled_length (link_kind ∷ length ty ∷ length ad ∷ length tx ∷ (names ++ (ty ++ (ad ++ tx)))) (omega (arith, parts_length names ty ad tx, s.0, s.1))
record_size_lem (delete names t) s = filled_length (delete_kind ∷ length t ∷ (names ++ t)) (omega (arith, length-append names t, s.0, s.1))

-- the columns of an event stand in the arrays
line_part_lem : (l : List ℕ) (ns : List Slot) (s : List ℕ) → read_line l ≡ ok (event ns s) → ((line_part l).numbers ≡ ns) × ((line_part l).chars ≡ s)
line_part_lem l ns s e =
    let w = event_there l ns s e in
    let p : line_part l ≡ w.1.row = rw w.0 (event_part_lem l w.1.row w.1.read) in
    let i = w.1.is in
    (ap (λ (r : Rec). r.numbers) p ∙ cc, ap (λ (r : Rec). r.chars) p ∙ cc)

-- a text with zeros after it fills the record
text_fills : (fs : List ℕ) (vs : List ℤ) (t : List ℕ) → length fs ≡ 19 → length vs ≡ 19 → length t ≡ 13 → packed event_kind fs vs (over t (replicate 96 0)) ≡ filled (packed event_kind fs vs t)
text_fills fs vs t a b c =
    let n : length (packed event_kind fs vs t) ≡ 185 = packed_length event_kind fs vs t ∙ omega arith in
    let z : List ℕ = drop 13 (replicate 96 0) in
    rw (n, c) (ap (λ (x : List ℕ). event_kind ∷ x) (sym (append_assoc fs (value_bytes vs ++ t) z ∙ ap (λ (x : List ℕ). fs ++ x) (append_assoc (value_bytes vs) t z))))

module _ (l out : List ℕ) (h : 268 ≤ length out) where
  -- a record of 268 bytes, over the first of `out`
  made : (m : Message) (bytes to : List ℕ) → read_line l ≡ ok m → bytes ≡ record_of m → to ≡ over bytes out → Replied (read_into l (length out)) (Ok 268) out to
  made m bytes to e b f =
      replied_done _ out (record_of m) to 268 (into_read l (length out) h ∙ ap record_answer e) (record_size_lem m (line_accepted l m e).sized) (f ∙ ap (λ (x : List ℕ). over x out) b)

  pub read_refused : (e : Refusal) → line_read (read_line l) ≡ Err e → Replied (read_into l (length out)) (Err e) out out
  read_refused e q =
      replied_refused _ out e.reason e.column (into_read l (length out) h ∙ ap record_answer (was_refused (read_line l) e q))

  -- an event: its numbers and text stand in the arrays, with zeros after the text
  module _ (q : line_read (read_line l) ≡ Ok P.Event) where
    pub read_event_lem : {f : List ℕ} {v : List ℤ} {x to : List ℕ} {r : Result Parts Refusal} → LineRead (read_line l) (line_part l) r (replicate 19 0) f (replicate 19 (pos 0)) v (replicate 96 0) x → to ≡ over (packed event_kind f v x) out → Replied (read_into l (length out)) (Ok 268) out to
    read_event_lem {f} {v} {x} {to} w i = let u = was_there (read_line l) P.Event q in by_message u.message u.is u.says
      where
        by_message : (m : Message) → read_line l ≡ ok m → line_read (ok m) ≡ Ok P.Event → Replied (read_into l (length out)) (Ok 268) out to
        by_message (event ns s) e p =
            let z = (line_accepted l (event ns s) e).sized in
            let a = line_part_lem l ns s e in
            let m = flags_length ns ∙ z.0 in
            let o = values_length ns ∙ z.0 in
            let b : f ≡ flags_of ns = w.flags ∙ rw a.0 (over_whole (flags_of ns) (replicate 19 0) m) in
            let c : v ≡ values_of ns = w.values ∙ rw a.0 (over_whole (values_of ns) (replicate 19 (pos 0)) o) in
            let y : x ≡ over s (replicate 96 0) = w.chars ∙ rw a.1 in
            made (event ns s) (packed event_kind f v x) to e (rw (b, c, y) (text_fills (flags_of ns) (values_of ns) s m o z.1)) i
        by_message (delete names s) e p = let z : ◌≡◌ {A = ℕ} 0 1 = cc in absurd (omega arith)
        by_message (link names ty ad tx) e p = let z : ◌≡◌ {A = ℕ} 0 1 = cc in absurd (omega arith)

  -- a link: its parts stand in the line
  module _ (t d n : ℕ) (q : line_read (read_line l) ≡ Ok (P.Link t d n)) where
    pub link_says : (17 + t + d ≤ length l) × ((length l ≤ 255) × (read_line l ≡ ok (link_of l t d)))
    link_says = let u = was_there (read_line l) (P.Link t d n) q in by_message u.message u.is u.says
      where
        by_message : (m : Message) → read_line l ≡ ok m → line_read (ok m) ≡ Ok (P.Link t d n) → (17 + t + d ≤ length l) × ((length l ≤ 255) × (read_line l ≡ ok (link_of l t d)))
        by_message (event ns s) e p = let z : ◌≡◌ {A = ℕ} 0 1 = cc in absurd (omega arith)
        by_message (delete names s) e p = let z : ◌≡◌ {A = ℕ} 0 1 = cc in absurd (omega arith)
        by_message (link names ty ad tx) e p =
            let w = (link_there l names ty ad tx e).1 in
            let j = w.is in
            let x : type_of l ≡ ty = cc in
            let y : address_of l ≡ ad = cc in
            let a : length (type_of l) ≡ t = ap length x ∙ cc in
            let b : length (address_of l) ≡ d = ap length y ∙ cc in
            (omega (arith, parts_inside l w), (w.short, rw (← a, ← b, type_taken l, address_taken l, text_word l) (e ∙ ap ok (sym j))))

    pub read_link_lem : {bytes to : List ℕ} → bytes ≡ record_of (link_of l t d) → to ≡ over bytes out → Replied (read_into l (length out)) (Ok 268) out to
    read_link_lem {bytes} {to} = made _ bytes to link_says.1.1

  -- a delete: its record is the line after its type
  module _ (n : ℕ) (q : line_read (read_line l) ≡ Ok (P.Delete n)) where
    pub delete_says : (13 ≤ length l) × ((length l ≤ 80) × (read_line l ≡ ok (delete_of l)))
    delete_says = let u = was_there (read_line l) (P.Delete n) q in by_message u.message u.is u.says
      where
        by_message : (m : Message) → read_line l ≡ ok m → line_read (ok m) ≡ Ok (P.Delete n) → (13 ≤ length l) × ((length l ≤ 80) × (read_line l ≡ ok (delete_of l)))
        by_message (event ns s) e p = let z : ◌≡◌ {A = ℕ} 0 1 = cc in absurd (omega arith)
        by_message (delete names s) e p = let w = delete_there l names s e in (w.long, (w.short, e ∙ sym w.rest))
        by_message (link names ty ad tx) e p = let z : ◌≡◌ {A = ℕ} 0 1 = cc in absurd (omega arith)

    pub read_delete_lem : {bytes to : List ℕ} → bytes ≡ record_of (delete_of l) → to ≡ over bytes out → Replied (read_into l (length out)) (Ok 268) out to
    read_delete_lem {bytes} {to} = made (delete_of l) bytes to delete_says.1.1

-- ---- the bytes of a delete and of a link, from their lines

pub delete_laid : (l : List ℕ) → 13 ≤ length l → length l ≤ 80 → {a b : List ℕ} (at : ℕ) → at ≡ 2 + 11 → a ≡ placed 2 (slice 2 (2 + 11) l) (set (set (replicate 268 0) 0 delete_kind) 1 (length l - 13)) → b ≡ placed 13 (slice at (at + (length l - 13)) l) a → b ≡ record_of (delete_of l)
delete_laid l h k {a} {b} at z p q =
    let head = delete_kind ∷ (length l - 13) ∷ [] in
    let n : length (take 11 (drop 2 l)) ≡ 11 = length-take-le 11 (drop 2 l) (omega (arith, length-drop 2 l)) in
    let y : slice at (at + (length l - 13)) l ≡ drop 13 l = rw z (slice_is l 13 (length l - 13) ∙ take_all (length l - 13) (drop 13 l) (omega (arith, length-drop 13 l))) in
    let c : a ≡ over (head ++ take 11 (drop 2 l)) (replicate 268 0) = p ∙ rw (slice_is l 2 11) (part_over head (take 11 (drop 2 l)) (replicate 268 0) _ 2 (two_placed (replicate 268 0) delete_kind (length l - 13) (omega arith)) refl (omega arith)) in
    q
    ∙ rw y (part_over (head ++ take 11 (drop 2 l)) (drop 13 l) (replicate 268 0) a 13 c (omega arith) (omega (arith, length-drop 13 l)))
    ∙ ap (λ (x : ℕ). filled (delete_kind ∷ x ∷ (take 11 (drop 2 l) ++ drop 13 l))) (sym (length-drop 13 l))

pub link_laid : (l : List ℕ) (t d : ℕ) → 17 + t + d ≤ length l → length l ≤ 255 → {a b c e f : List ℕ}
    → a ≡ placed 0 (link_kind ∷ t ∷ d ∷ (length l - (16 + t + d + 1)) ∷ []) (replicate 268 0)
    → b ≡ placed 4 (slice 2 (2 + 12) l) a
    → c ≡ placed 16 (slice 15 (15 + t) l) b
    → e ≡ placed (16 + t) (slice (16 + t) (16 + t + d) l) c
    → f ≡ placed (16 + t + d) (slice (16 + t + d + 1) (16 + t + d + 1 + (length l - (16 + t + d + 1))) l) e → f ≡ record_of (link_of l t d)
link_laid l t d h k {a} {b} {c} {e} {f} p q r s u =
    let i : 16 + t + d + 1 ≡ 17 + t + d = omega arith in
    let head = link_kind ∷ t ∷ d ∷ (length l - (16 + t + d + 1)) ∷ [] in
    let n : length (take 12 (drop 2 l)) ≡ 12 = length-take-le 12 (drop 2 l) (omega (arith, length-drop 2 l)) in
    let x : length (take t (drop 15 l)) ≡ t = length-take-le t (drop 15 l) (omega (arith, length-drop 15 l)) in
    let y : length (take d (drop (16 + t) l)) ≡ d = length-take-le d (drop (16 + t) l) (omega (arith, length-drop (16 + t) l)) in
    let z = length-drop (16 + t + d + 1) l in
    let v = part_over head (take 12 (drop 2 l)) (replicate 268 0) a 4 p refl (omega arith) in
    let w : f ≡ placed (16 + t + d) (drop (16 + t + d + 1) l) (placed (16 + t) (take d (drop (16 + t) l)) (placed 16 (take t (drop 15 l)) b)) = u ∙ rw (s, r, slice_is l 15 t, slice_is l (16 + t) d, slice_is l (16 + t + d + 1) (length l - (16 + t + d + 1)), take_all (length l - (16 + t + d + 1)) (drop (16 + t + d + 1) l) (omega arith)) in
    w
    ∙ parts_laid (head ++ take 12 (drop 2 l)) (take t (drop 15 l)) (take d (drop (16 + t) l)) (drop (16 + t + d + 1) l) (replicate 268 0) 16 (16 + t) (16 + t + d) (q ∙ ap (λ (o : List ℕ). placed 4 o a) (slice_is l 2 12) ∙ v) (omega arith) (omega arith) (omega arith) (omega arith)
    ∙ rw (x, y, i, length-drop (17 + t + d) l)

-- ---- a line written from a record

pub from_short : (r : List ℕ) (room : ℕ) → length r < 268 → write_from r room ≡ refusal bad_form 0
unfolding write_from read_record
from_short r room h = rw (lt-ltb (length r) 268 h)

-- only the first 268 bytes count
pub from_first : (r : List ℕ) (room : ℕ) → 268 ≤ length r → write_from (take (268 - 0) r) room ≡ write_from r room
unfolding write_from read_record
from_first r room h =
    let n : length (take 268 r) ≡ 268 = length-take-le 268 r h in
    rw (n, take-take 268 268 r (omega arith), le-ltb (length r) 268 h)

-- bytes of the right length, and the message that they name
record_is : (r : List ℕ) → length r ≡ 268 → (m : Message) → message_in r ≡ m → read_record r ≡ pick (same_bytes (record_of m) r) (ok m) (refusal bad_form 0)
unfolding read_record
record_is r n m e =
    let k : 268 ≤ length r = omega arith in
    rw (le-ltb (length r) 268 k, take_all 268 r (omega arith), e)

module _ (r : List ℕ) (room : ℕ) (n : length r ≡ 268) (m : Message) (e : message_in r ≡ m) where
  pub from_other : same_bytes (record_of m) r ≡ false → write_from r room ≡ refusal bad_form 0
  unfolding write_from
  from_other s = let q : read_record r ≡ refusal bad_form 0 = record_is r n m e ∙ rw s in rw q

  pub from_same : same_bytes (record_of m) r ≡ true → write_from r room ≡ write_message m room
  unfolding write_from
  from_same s = let q : read_record r ≡ ok m = record_is r n m e ∙ rw s in rw q

pub event_named : (r : List ℕ) → get_or r 0 0 ≡ event_kind → message_in r ≡ event_in r
event_named r e = rw e

pub link_named : (r : List ℕ) → get_or r 0 0 ≡ link_kind → message_in r ≡ link_in r
link_named r e = rw e

pub delete_named : (r : List ℕ) → (get_or r 0 0 ≡ event_kind → ⊥) → (get_or r 0 0 ≡ link_kind → ⊥) → message_in r ≡ delete_in r
delete_named r n m = rw (ne_eqb (get_or r 0 0) event_kind n, ne_eqb (get_or r 0 0) link_kind m)

-- by whether bytes are those of the message that they name
module _ (r : List ℕ) (n : length r ≡ 268) (m : Message) (e : message_in r ≡ m) (out : List ℕ) {same : Bool} (s : same ≡ same_bytes (record_of m) r) where
  pub no_record : same ≡ false → Replied (write_from r (length out)) (Err (refusal_at bad_form 0)) out out
  no_record q = replied_refused _ out bad_form 0 (from_other r (length out) n m e (sym s ∙ q))

  pub record_reply : same ≡ true → {k : Message} → k ≡ m → {o : Outcome} {to : List ℕ} (size : ℕ) → ((ys : List ℕ) → write_message m (length out) ≡ ok ys → length ys ≡ size) → Wrote (write_message k (length out)) o out to → Replied (write_from r (length out)) (replied o size) out to
  record_reply q j {o} {to} size f w =
      replied_as _ _ _ out to (sym (from_same r (length out) n m e (sym s ∙ q))) (wrote_replied (subst (λ (x : Message). Wrote (write_message x (length out)) o out to) j w) size f)

-- what the code took out of an event's record
module _ (r : List ℕ) (n : length r ≡ 268) (flags : List ℕ) (values : List ℤ) (chars : List ℕ) (f : flags ≡ flags_of (slots_in 19 (take 267 (drop 1 r)) (take 248 (drop 20 r)))) (v : values ≡ values_of (slots_in 19 (take 267 (drop 1 r)) (take 248 (drop 20 r)))) (t : chars ≡ over (take 13 (drop 172 r)) (replicate 13 0)) where
  abbrev numbers : List Slot
  numbers = slots_in 19 (drop 1 r) (drop 20 r)

  numbers_are : slots_in 19 (take 267 (drop 1 r)) (take 248 (drop 20 r)) ≡ numbers
  numbers_are = rw (take_all 267 (drop 1 r) (omega (arith, length-drop 1 r)), take_all 248 (drop 20 r) (omega (arith, length-drop 20 r)))

  event_chars : length (take 13 (drop 172 r)) ≡ 13
  event_chars = length-take-le 13 (drop 172 r) (omega (arith, length-drop 172 r))

  chars_are : chars ≡ take 13 (drop 172 r)
  chars_are = t ∙ over_whole (take 13 (drop 172 r)) (replicate 13 0) event_chars

  event_took : filled (packed event_kind flags values chars) ≡ record_of (event_in r)
  event_took = rw (f, v, numbers_are, chars_are)

  event_is : event (slots_of flags values) chars ≡ event_in r
  event_is = rw (f, v, numbers_are, slots_back numbers, chars_are)

  module _ (k : get_or r 0 0 ≡ 1) (out : List ℕ) {same : Bool} (s : same ≡ same_bytes (filled (packed event_kind flags values chars)) r) where
    event_same : same ≡ same_bytes (record_of (event_in r)) r
    event_same = s ∙ ap (λ (x : List ℕ). same_bytes x r) event_took

    pub no_event : same ≡ false → Replied (write_from r (length out)) (Err (refusal_at bad_form 0)) out out
    no_event = no_record r n (event_in r) (event_named r k) out event_same

    pub event_reply : same ≡ true → (o : Outcome) (to : List ℕ) → Wrote (write_message (event (slots_of flags values) chars) (length out)) o out to → Replied (write_from r (length out)) (replied o 80) out to
    event_reply q o to =
        record_reply r n (event_in r) (event_named r k) out event_same q event_is 80
        (λ ys. event_size numbers (take 13 (drop 172 r)) ys (length out) (numbers_length 19 (drop 1 r) (drop 20 r)) event_chars)

-- what the code took out of a delete's record
module _ (r : List ℕ) (n : length r ≡ 268) (k : get_or r 0 0 ≡ event_kind → ⊥) (i : get_or r 0 0 ≡ link_kind → ⊥) (len : ℕ) (j : get_or r 1 0 ≡ len) (h : len < 256) where
  abbrev names : List ℕ
  names = take 11 (drop 2 r)

  abbrev chars : List ℕ
  chars = take len (drop 13 r)

  delete_is_in : message_in r ≡ delete names chars
  delete_is_in = delete_named r k i ∙ rw j

  chars_length : length chars ≡ len
  chars_length = length-take-le len (drop 13 r) (omega (arith, length-drop 13 r))

  names_length : length names ≡ 11
  names_length = length-take-le 11 (drop 2 r) (omega (arith, length-drop 2 r))

  delete_took : filled (delete_kind ∷ len ∷ take (13 + len - 2) (drop 2 r)) ≡ record_of (delete names chars)
  delete_took =
      let z : 13 + len - 2 ≡ 11 + len = omega arith in
      rw (z, take-add 11 len (drop 2 r), drop-drop 11 2 r, chars_length)

  module _ (out : List ℕ) {same : Bool} (s : same ≡ same_bytes (filled (delete_kind ∷ len ∷ take (13 + len - 2) (drop 2 r))) r) where
    delete_same : same ≡ same_bytes (record_of (delete names chars)) r
    delete_same = s ∙ ap (λ (x : List ℕ). same_bytes x r) delete_took

    pub no_delete : same ≡ false → Replied (write_from r (length out)) (Err (refusal_at bad_form 0)) out out
    no_delete = no_record r n (delete names chars) delete_is_in out delete_same

    pub delete_reply : same ≡ true → (o : Outcome) (to : List ℕ) → Wrote (write_message (delete names (take (13 + len - 13) (drop 13 r))) (length out)) o out to → Replied (write_from r (length out)) (replied o (13 + len)) out to
    delete_reply q o to =
        let z : 13 + len - 13 ≡ len = omega arith in
        record_reply r n (delete names chars) delete_is_in out delete_same q (rw z) (13 + len)
        (λ ys p. delete_size names chars ys (length out) names_length p ∙ ap (λ (x : ℕ). 13 + x) chars_length)
