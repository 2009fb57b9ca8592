-- A whole input, in whatever chunks it comes: the session's room and text are those of the input's lines.
use Prim.Native.Nat.{ℕ, zero, suc, ◌+◌, ◌-◌, ◌≤◌, ◌<◌}
use mathlib.Core.Path.{◌≡◌, refl, sym, ◌∙◌, ap, ap₂}
use mathlib.Core.List.{List, [], ◌∷◌, ◌++◌, map, append-nil, append_assoc}
use native.Mathlib.Omega.{arith}
use lib.ListN.{length, take, drop, get_or, replicate, length-take, length-drop, take-append-drop, drop_of_length-le}
use lib.Seq.{drop-cons, drop-drop}
use Rattle.formats.specs.Lines.{lines_of, line_end}
use Rattle.formats.proofs.laws.Lines.{lines_none, lines_next, line_end_from, line_end_to}
use Rattle.catalogue.specs.Room.{room_size, room_after, contents, feed}
use Rattle.catalogue.proofs.laws.demand.Feed.{feed_none, feed_more}
use Rattle.catalogue.proofs.laws.assoc.Tri.{le, gt, le?}
use Rattle.take.specs.Text.{heading, answers, catalogue_text}
use Rattle.take.specs.Session.{cut, Session, ended, ended_said, grown, bytes, said, closed, closed_said, opened, printed}
use Rattle.take.proofs.laws.Session.{bytes_append, said_append, byte_newline, said_newline, Grown, line_grown, newline_at, closed_none, closed_some}

-- a session whose line is empty
abbrev start : List ℕ → ℕ → Session
start room number = record { room = room; line = []; number = number }

module _ (t : List ℕ) where
  -- what the session leaves and has said at the end of the input, from a place in it where a line starts
  record Rest (at : ℕ) (room : List ℕ) (number : ℕ) : Type 0 where
    pub room_is : (closed (bytes (start room number) (drop at t))).room ≡ feed room (map cut (lines_of (drop at t)))
    pub text_is : said (start room number) (drop at t) ++ closed_said (bytes (start room number) (drop at t)) ≡ answers number room (map cut (lines_of (drop at t)))

  rest_none : (at : ℕ) (room : List ℕ) (number : ℕ) → length t ≤ at → Rest at room number
  unfolding bytes said answers
  rest_none at room number h =
      let s : Session = start room number in
      let c = closed_none s refl in
      let d : drop at t ≡ [] = drop_of_length-le t h in
      record {
        room_is = ap (λ (x : List ℕ). (closed (bytes s x)).room) d ∙ ap (λ (u : Session). u.room) c.0 ∙ sym (feed_none room) ∙ ap (λ (ls : List (List ℕ)). feed room (map cut ls)) (sym (lines_none t at h));
        text_is = ap (λ (x : List ℕ). said s x ++ closed_said (bytes s x)) d ∙ c.1 ∙ ap (λ (ls : List (List ℕ)). answers number room (map cut ls)) (sym (lines_none t at h));
      }

  module _ (at : ℕ) (room : List ℕ) (number : ℕ) (inside : at < length t) where
    line : List ℕ
    line = take (line_end t at - at) (drop at t)

    onward : at ≤ line_end t at
    onward = line_end_from t at

    within : line_end t at ≤ length t
    within = line_end_to t at (omega arith)

    joined : at + (line_end t at - at) ≡ line_end t at
    joined = omega (arith, onward)

    parts : drop at t ≡ line ++ drop (line_end t at) t
    unfolding line
    parts = sym (take-append-drop (line_end t at - at) (drop at t)) ∙ ap (λ (x : List ℕ). take (line_end t at - at) (drop at t) ++ x) (drop-drop (line_end t at - at) at t ∙ ap (λ (k : ℕ). drop k t) joined)

    session : Session
    session = record { room = room; line = cut line; number = number }

    line_taken : Grown t (start room number) at (line_end t at - at)
    line_taken = line_grown t (line_end t at - at) (start room number) at (omega arith) (omega arith) (sym joined)

    after : bytes (start room number) (drop at t) ≡ bytes session (drop (line_end t at) t)
    unfolding line session grown
    after = ap (bytes (start room number)) parts ∙ bytes_append (start room number) line (drop (line_end t at) t) ∙ ap (λ (u : Session). bytes u (drop (line_end t at) t)) line_taken.session

    after_said : said (start room number) (drop at t) ≡ said session (drop (line_end t at) t)
    unfolding line session grown
    after_said =
        ap (said (start room number)) parts ∙ said_append (start room number) line (drop (line_end t at) t)
        ∙ ap₂ (λ (x : List ℕ) (u : Session). x ++ said u (drop (line_end t at) t)) line_taken.silent line_taken.session

    -- at least one byte of the line is left when it is cut, where the text ends with it
    cut_there : length t ≤ line_end t at → 0 < length (cut line)
    unfolding cut line
    cut_there h = omega (arith, length-take 1024 (take (line_end t at - at) (drop at t)), length-take (line_end t at - at) (drop at t), length-drop at t, within)

    lines : lines_of (drop at t) ≡ line ∷ lines_of (drop (line_end t at + 1) t)
    unfolding line
    lines = lines_next t at inside

    -- the last line, with no newline after it
    rest_last : length t ≤ line_end t at → Rest at room number
    unfolding bytes said line session ended ended_said answers
    rest_last h =
        let d : drop (line_end t at) t ≡ [] = drop_of_length-le t h in
        let n : lines_of (drop at t) ≡ line ∷ [] = lines ∙ ap (λ (ls : List (List ℕ)). line ∷ ls) (lines_none t (line_end t at + 1) (omega arith)) in
        let c = closed_some session (λ (z : length (cut line) ≡ 0). omega (arith, z, cut_there h)) in
        record {
          room_is = ap (λ (u : Session). (closed u).room) (after ∙ ap (bytes session) d) ∙ ap (λ (u : Session). u.room) c.0
              ∙ sym (feed_more room (cut line) [] ∙ feed_none (room_after room (cut line))) ∙ ap (λ (ls : List (List ℕ)). feed room (map cut ls)) (sym n);
          text_is = ap₂ (λ (x : List ℕ) (u : Session). x ++ closed_said u) (after_said ∙ ap (said session) d) (after ∙ ap (bytes session) d) ∙ c.1
              ∙ sym (append-nil (ended_said session)) ∙ ap (λ (ls : List (List ℕ)). answers number room (map cut ls)) (sym n);
        }

    -- a line with its newline, then the rest
    rest_more : line_end t at < length t → Rest (line_end t at + 1) (room_after room (cut line)) (number + 1) → Rest at room number
    unfolding bytes said line session ended ended_said answers
    rest_more h r =
        let e : suc (line_end t at) ≡ line_end t at + 1 = omega arith in
        let b : ℕ = get_or t (line_end t at) 0 in
        let more : List ℕ = drop (line_end t at + 1) t in
        let d : drop (line_end t at) t ≡ b ∷ more = drop-cons t (line_end t at) 0 h ∙ ap (λ (k : ℕ). b ∷ drop k t) e in
        let n : b ≡ 10 = newline_at t (line_end t at) h (ap (line_end t) (sym joined) ∙ line_taken.end ∙ joined) in
        let u : bytes (start room number) (drop at t) ≡ bytes (ended session) more = after ∙ ap (bytes session) d ∙ ap (λ (s : Session). bytes s more) (byte_newline session b n) in
        let v : said (start room number) (drop at t) ≡ ended_said session ++ said (ended session) more =
        after_said ∙ ap (said session) d ∙ said_newline session b more n ∙ ap (λ (s : Session). ended_said session ++ said s more) (byte_newline session b n) in
        record {
          room_is = ap (λ (s : Session). (closed s).room) u ∙ r.room_is ∙ sym (feed_more room (cut line) (map cut (lines_of more))) ∙ ap (λ (ls : List (List ℕ)). feed room (map cut ls)) (sym lines);
          text_is = ap₂ (λ (x : List ℕ) (s : Session). x ++ closed_said s) v u ∙ append_assoc (ended_said session) (said (ended session) more) (closed_said (bytes (ended session) more))
              ∙ ap (λ (x : List ℕ). ended_said session ++ x) r.text_is ∙ ap (λ (ls : List (List ℕ)). answers number room (map cut ls)) (sym lines);
        }

  rest : (fuel at : ℕ) (room : List ℕ) (number : ℕ) → length t ≤ at + fuel → Rest at room number
  rest zero at room number h = rest_none at room number (omega arith)
  rest (suc fuel) at room number h =
      elim (le? (length t) at) [
        | le p ↦ rest_none at room number p
        | gt p ↦
            elim (le? (length t) (line_end t at)) [
              | le q ↦ rest_last at room number p q
              | gt q ↦ rest_more at room number p q (rest fuel (line_end t at + 1) (room_after room (cut (line at room number p))) (number + 1) (omega (arith, line_end_from t at)))
            ]
      ]

-- what the program prints is what the session has said, between the heading and the catalogue
pub all_printed : (input : List ℕ)
    → heading ++ ((said (opened (replicate room_size 0)) input ++ closed_said (bytes (opened (replicate room_size 0)) input))
    ++ catalogue_text (contents (closed (bytes (opened (replicate room_size 0)) input)).room))
    ≡ printed input
unfolding opened printed
all_printed input =
    let r = rest input (length input) 0 (replicate room_size 0) 0 (omega arith) in
    ap₂ (λ (x y : List ℕ). heading ++ (x ++ catalogue_text (contents y))) r.text_is r.room_is
