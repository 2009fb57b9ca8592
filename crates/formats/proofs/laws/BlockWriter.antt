-- Laws of the block's writer: each answer as the code comes to it, and a line written through a part of the output.
use Rattle.std.specs.Prelude.{Ok, Err}
use Rattle.columns.specs.Answer.{refusal_at}
use mathlib.Core.Path.{◌≡◌, refl, sym, ap, ◌∙◌}
use mathlib.Core.List.{List, [], ◌∷◌, ◌++◌, append_assoc}
use Prim.Native.Nat.{ℕ, ◌+◌, ◌-◌, ◌≤◌, ◌<◌}
use native.Mathlib.Omega.{arith}
use lib.ListN.{length, take, drop, set, length-append, take-append-drop}
use lib.Seq.{drop-append-le}
use borrow.Author.Tests.{lt-ltb, le-ltb}
use borrow.Rule.Slice.PartMut.{mid_of, put_mid, put_same, mid_len, same_len_mid}
use Rattle.columns.specs.Answer.{Answer, ok, refusal, too_short}
use Rattle.columns.specs.Row.{Fits}
use Rattle.columns.proofs.laws.Row.{row_wide}
use Rattle.columns.specs.Table.{over, placed, laid}
use Rattle.formats.specs.Record.{Reply}
use Rattle.formats.specs.Record.{reply_of, Replied}
use Rattle.formats.specs.Row.{RowFormat, write_row_from}
use Rattle.formats.specs.BlockWriting.{ended, write_header, header_call, record_call, room_from, from_place, laid_from, RepliedFrom}
use Rattle.columns.specs.declared.Refusal.{Refusal}
use Rattle.formats.specs.Numbers.{reply_length}
use Rattle.columns.proofs.laws.Places.{set_over}
use Rattle.formats.proofs.laws.RowRecord.{over_part}
use Rattle.formats.proofs.laws.RowRecordBack.{row_written}
use Rattle.formats.proofs.laws.CubeRecord.{replied_done, replied_refused, replied_as}

-- ---- what a reply says of the answer

record Written (a : Answer (List ℕ)) (n : ℕ) : Type 0 where
  line : List ℕ
  is : a ≡ ok line
  size : length line ≡ n

done_reply : (a : Answer (List ℕ)) (n : ℕ) → Ok n ≡ reply_of a → Written a n
done_reply (ok ys) n e = record { line = ys; is = refl; size = cc }
done_reply (refusal m k) n e = let z : ◌≡◌ {A = ℕ} 0 1 = cc in let y : ⊥ = omega arith in absurd y

refused_reply : (a : Answer (List ℕ)) (x : Refusal) → Err x ≡ reply_of a → a ≡ refusal x.reason x.column
refused_reply (ok ys) x e = let z : ◌≡◌ {A = ℕ} 0 1 = cc in let y : ⊥ = omega arith in absurd y
refused_reply (refusal m j) x e = let z : refusal_at m j ≡ x = cc in rw (← z)

-- ---- a part that was lent and comes back

over_mid : (at k : ℕ) (ys out : List ℕ) → length ys ≤ length (mid_of at k out) → put_mid at k out (over ys (mid_of at k out)) ≡ placed at ys out
over_mid at k ys out h =
    let m = mid_of at k out in
    let e : drop (length ys) m ++ drop k (drop at out) ≡ drop (length ys) (drop at out) =
    sym (drop-append-le (length ys) m (drop k (drop at out)) h) ∙ ap (drop (length ys)) (take-append-drop k (drop at out)) in
    rw (append_assoc ys (drop (length ys) m) (drop k (drop at out)), e)

laid_in : (a : Answer (List ℕ)) (part to : List ℕ) → to ≡ laid a part → length to ≡ length part → reply_length (reply_of a) ≤ length part
laid_in (ok ys) part to e s = omega (arith, ap length e ∙ length-append ys (drop (length ys) part))
laid_in (refusal n k) part to e s = omega arith

part_laid : (at k : ℕ) (a : Answer (List ℕ)) (out to : List ℕ) → to ≡ laid a (mid_of at k out) → length to ≡ length (mid_of at k out) → put_mid at k out to ≡ laid_from at a out
part_laid at k (ok ys) out to e s = ap (put_mid at k out) e ∙ over_mid at k ys out (laid_in (ok ys) (mid_of at k out) to e s)
part_laid at k (refusal n j) out to e s = ap (put_mid at k out) e ∙ put_same at k out

module _ (at k : ℕ) (a : Answer (List ℕ)) (r : Reply) (out to : List ℕ) (w : Replied a r (mid_of at k out) to) (s : length to ≡ length (mid_of at k out)) where
  reply_in : reply_length r ≤ length (mid_of at k out)
  reply_in = rw w.answer (laid_in a (mid_of at k out) to w.bytes s)

  -- what was written over the first bytes of the part was written from its place on
  replied_from : (b : Answer (List ℕ)) (o : Reply) → b ≡ a → o ≡ from_place at r → RepliedFrom at b o out (put_mid at k out to)
  replied_from b o e f = rw (e, f) (record { answer = ap (from_place at) w.answer; bytes = part_laid at k a out to w.bytes s })

-- ---- a line, and its newline after it

ended_line : (a : Answer (List ℕ)) (ys part to : List ℕ) (n : ℕ) → a ≡ ok ys → length ys ≡ n → n < length part → to ≡ over ys part → Replied (ended a) (Ok (n + 1)) part (set to n 10)
ended_line a ys part to n e m h f =
    replied_done (ended a) part (ys ++ 10 ∷ []) (set to n 10) (n + 1) (ap ended e) (length-append ys (10 ∷ []) ∙ omega arith) (set_over ys part to 10 n m h f)

-- a line written over the first bytes of a part, all but the last, which is there for the newline
module _ (write : ℕ → Answer (List ℕ)) (part : List ℕ) (h : 0 < length part) (r : Reply) (to : List ℕ) (w : Replied (write (length (mid_of 0 (length part - 1 - 0) part))) r (mid_of 0 (length part - 1 - 0) part) to) (s : length to ≡ length (mid_of 0 (length part - 1 - 0) part)) where
  abbrev answer : Answer (List ℕ)
  answer = write (length (mid_of 0 (length part - 1 - 0) part))

  abbrev after : List ℕ
  after = put_mid 0 (length part - 1 - 0) part to

  room_is : length (mid_of 0 (length part - 1 - 0) part) ≡ length part - 1
  room_is = mid_len 0 (length part - 1) part (omega arith) ∙ omega arith

  ended_is : ended answer ≡ ended (write (length part - 1))
  ended_is = ap (λ (n : ℕ). ended (write n)) room_is

  after_is : (a : Answer (List ℕ)) → answer ≡ a → after ≡ laid_from 0 a part
  after_is a e = part_laid 0 (length part - 1 - 0) answer part to w.bytes s ∙ ap (λ (x : Answer (List ℕ)). laid_from 0 x part) e

  pub line_refused : (x : Refusal) → r ≡ Err x → Replied (ended (write (length part - 1))) (Err x) part after
  line_refused x e =
      let d : answer ≡ refusal x.reason x.column = refused_reply answer x (sym e ∙ w.answer) in
      replied_as _ _ _ part after ended_is (rw (after_is (refusal x.reason x.column) d) (replied_refused (ended answer) part x.reason x.column (ap ended d)))

  module _ (n : ℕ) (e : r ≡ Ok n) where
    pub line_in_lem : n < length part
    line_in_lem = let i : n ≤ length (mid_of 0 (length part - 1 - 0) part) = rw e at (reply_in 0 (length part - 1 - 0) answer r part to w s) in omega (arith, room_is)

    pub newline_in : n < length after
    newline_in = omega (arith, line_in_lem, same_len_mid 0 (length part - 1 - 0) part to s)

    pub line_done : Replied (ended (write (length part - 1))) (Ok (n + 1)) part (set after n 10)
    line_done =
        let d = done_reply answer n (sym e ∙ w.answer) in
        replied_as _ _ _ part (set after n 10) ended_is (ended_line answer d.line part after n d.is d.size line_in_lem (after_is (ok d.line) d.is))

-- ---- the header

module _ (header : List ℕ) (some : 1 ≤ length header) where
  header_short : (room : ℕ) → room < length header → write_header header room ≡ refusal too_short 0
  header_short room h = rw (lt-ltb room (length header) h)

  module _ (part : List ℕ) (n : ℕ) (e : n ≡ length header) where
    pub header_refused : length part ≤ n → Replied (ended (write_header header (length part - 1))) (Err (refusal_at too_short 0)) part part
    header_refused h = replied_refused _ part too_short 0 (ap ended (header_short (length part - 1) (omega arith)))

    pub header_done : n < length part → (zeros words to : List ℕ) → words ≡ over header zeros → to ≡ over (take (n - 0) (drop 0 words)) part → Replied (ended (write_header header (length part - 1))) (Ok (n + 1)) part (set to n 10)
    header_done h zeros words to w f =
        let g : length header ≤ length part - 1 = omega arith in
        let l : take (n - 0) (drop 0 words) ≡ header = ap (λ (x : List ℕ). take (n - 0) (drop 0 x)) w ∙ over_part header zeros n (sym e) in
        ended_line (write_header header (length part - 1)) header part to n (rw (le-ltb (length part - 1) (length header) g)) (sym e) h (f ∙ ap (λ (x : List ℕ). over x part) l)

  -- ---- a call from a place that is past the last byte

  pub header_past : (at : ℕ) (out : List ℕ) → length out ≤ at → RepliedFrom at (header_call header at (length out)) (Err (refusal_at too_short 0)) out out
  unfolding header_call
  header_past at out h = rw (header_short (length out - at - 1) (omega arith)) (record { answer = refl; bytes = refl })

refused_past : (at : ℕ) (a : Answer (List ℕ)) (r : Reply) (out to : List ℕ) → ((ys : List ℕ) → a ≡ ok ys → ⊥) → Replied a r (mid_of 0 0 out) to → length to ≡ 0 → RepliedFrom at (ended a) r out (put_mid 0 0 out to)
refused_past at (ok ys) r out to f w s = absurd (f ys refl)
refused_past at (refusal n k) r out to f w s = record { answer = w.answer; bytes = part_laid 0 0 (refusal n k) out to w.bytes s }

module _ (F : RowFormat) (f : Fits F.columns) where
  no_room : (from ys : List ℕ) → write_row_from F from 0 ≡ ok ys → ⊥
  no_room from ys e = omega (arith, (row_written F f from ys 0 e).fits, row_wide F.columns f.sound.fine f.opened)

  pub record_past : (from : List ℕ) (at : ℕ) (r : Reply) (out to : List ℕ) → length out ≤ at → Replied (write_row_from F from 0) r (mid_of 0 0 out) to → length to ≡ 0 → RepliedFrom at (record_call F from at (length out)) r out (put_mid 0 0 out to)
  unfolding record_call
  record_past from at r out to h w s =
      let z : length out - at - 1 ≡ 0 = omega arith in
      rw z (refused_past at (write_row_from F from 0) r out to (no_room from) w s)

-- ---- a call that writes a line through the part of the output from a place on

module _ (write : ℕ → Answer (List ℕ)) (at : ℕ) (out : List ℕ) (h : at < length out) (reply : Reply) (to : List ℕ) (w : Replied (ended (write (length (mid_of at (length out - at) out) - 1))) reply (mid_of at (length out - at) out) to) (s : length to ≡ length (mid_of at (length out - at) out)) where
  part_size : length (mid_of at (length out - at) out) ≡ length out - at
  part_size = mid_len at (length out) out (omega arith)

  pub call_replied : (r : Reply) → r ≡ from_place at reply → RepliedFrom at (ended (write (room_from at (length out)))) r out (put_mid at (length out - at) out to)
  call_replied r e = replied_from at (length out - at) _ reply out to w s _ r (ap (λ (n : ℕ). ended (write (n - 1))) (sym part_size)) e
