-- Laws of the code's steps: a line kept or answered, a chunk, and the input so far.
use Prim.Native.Nat.{min, ℕ, ◌+◌, ◌-◌, ◌≤◌, ◌<◌}
use mathlib.Core.Path.{◌≡◌, refl, sym, ◌∙◌, ap, ap₂}
use mathlib.Core.List.{List, [], ◌∷◌, ◌++◌, append-nil}
use native.Mathlib.Omega.{arith}
use lib.ListN.{length, take, drop, take-append-drop}
use lib.Seq.{take-length, take-paste, paste, take-append-add, length-take-le, take_all}
use Rattle.formats.specs.Lines.{line_end}
use Rattle.catalogue.specs.Room.{call_of, room_after}
use Rattle.take.specs.Text.{answer_line}
use Rattle.take.specs.Session.{cut, Session, ended, ended_said, grown, bytes, said}
use Rattle.take.specs.Steps.{Stepped, Brought, Passed}
use Rattle.catalogue.proofs.laws.assoc.Tri.{le, gt, le?}
use Rattle.take.proofs.laws.Session.{bytes_append, Grown, line_grown, Ended, line_ended}

-- ---- a part of a line, kept behind what there is of it

-- what is cut at a length, or ends before it
pub cut_at : (l : List ℕ) (m : ℕ) {n : ℕ} → n ≡ min (length l) m → take n l ≡ take m l
cut_at l m {n} e =
    elim (le? (length l) m) [
      | le p ↦ take_all n l (omega (arith, e)) ∙ sym (take_all m l p)
      | gt p ↦ let q : n ≡ m = omega (arith, e) in ap (λ (k : ℕ). take k l) q
    ]

pub kept_part : (line part : List ℕ) (len : ℕ) → length line ≡ 1024 → len ≤ 1024 → {line' part' : List ℕ} → part' ≡ take (1024 - len) part → line' ≡ paste line len part' (length part') → take (len + length part') line' ≡ cut (take len line ++ part)
unfolding cut
kept_part line part len size fits {line'} {part'} q p =
    let n : length (take len line) ≡ len = length-take-le len line (omega arith) in
    let e : length (take len line) + (1024 - len) ≡ 1024 = omega arith in
    ap (take (len + length part')) p ∙ take-paste line len part' (length part') (omega arith) (omega arith) ∙ ap (λ (x : List ℕ). take len line ++ x) (take-length part' ∙ q)
    ∙ sym (take-append-add (take len line) part (1024 - len)) ∙ ap (λ (k : ℕ). take k (take len line ++ part)) e

-- ---- a line that came whole

nothing : (l : List ℕ) → length l ≡ 0 → l ≡ []
nothing [] h = refl
nothing (x ∷ l) h = absurd (omega arith)

pub whole : (s : Session) (l out : List ℕ) {l' room' out' : List ℕ} → length s.line ≡ 0 → l' ≡ cut l → room' ≡ room_after s.room l' → out' ≡ out ++ answer_line (s.number + 1) (call_of s.room l')
    → (record { room = room'; line = s.line; number = s.number + 1 } ≡ ended (grown s l)) × (out' ≡ out ++ ended_said (grown s l))
unfolding ended ended_said grown
whole s l out {l'} h q r t =
    let z : s.line ≡ [] = nothing s.line h in
    let e : l' ≡ cut (s.line ++ l) = q ∙ ap (λ (x : List ℕ). cut (x ++ l)) (sym z) in (
      ap₂ (λ (x y : List ℕ). record { room = x; line = y; number = s.number + 1 }) (r ∙ ap (room_after s.room) e) z,
      t ∙ ap (λ (x : List ℕ). out ++ answer_line (s.number + 1) (call_of s.room x)) e,
    )

-- ---- one step in a chunk

module _ (s : Session) (out rest : List ℕ) (end : ℕ) (is : end ≡ line_end rest 0) (within : end ≤ length rest) (fits : length s.line ≤ 1024) where
  pub kept : {s' : Session} → 0 < length rest → end ≡ length rest → s' ≡ grown s (take end rest) → Stepped s out rest s' out end
  unfolding grown
  kept inside last e =
      let g : Grown rest s 0 end = line_grown rest end s 0 fits (omega arith) (sym is ∙ omega arith) in
      record {
        onward = omega arith;
        within = within;
        session = e ∙ sym g.session;
        text = sym (append-nil out) ∙ ap (λ (x : List ℕ). out ++ x) (sym g.silent);
        counted = rw e (omega arith);
      }

  pub answered : {s' : Session} {out' : List ℕ} → (end ≡ length rest → ⊥) → s' ≡ ended (grown s (take end rest)) → out' ≡ out ++ ended_said (grown s (take end rest)) → Stepped s out rest s' out' (end + 1)
  unfolding grown ended
  answered more e t =
      let z : end - 0 ≡ end = omega arith in
      let k : end + 1 - 0 ≡ end + 1 = omega arith in
      let g : Ended rest s 0 end = line_ended rest s 0 end fits (omega arith) (omega arith) is in
      record {
        onward = omega arith;
        within = omega arith;
        session = e ∙ ap (λ (n : ℕ). ended (grown s (take n rest))) (sym z) ∙ sym g.session ∙ ap (λ (n : ℕ). bytes s (take n rest)) k;
        text = t ∙ ap (λ (x : List ℕ). out ++ x) (ap (λ (n : ℕ). ended_said (grown s (take n rest))) (sym z) ∙ sym g.answer ∙ ap (λ (n : ℕ). said s (take n rest)) k);
        counted = rw e (omega arith);
      }

-- ---- a chunk

pub chunk_turn : {s s' : Session} {out rest out' : List ℕ} {n : ℕ} → Stepped s out rest s' out' n → bytes s' (drop n rest) ≡ bytes s rest
chunk_turn {s} {rest = rest} {n = n} t =
    ap (λ (u : Session). bytes u (drop n rest)) t.session ∙ sym (bytes_append s (take n rest) (drop n rest)) ∙ ap (bytes s) (take-append-drop n rest)

pub chunk_end : (s : Session) (rest : List ℕ) → length rest ≡ 0 → bytes s rest ≡ s
unfolding bytes
chunk_end s rest h = ap (bytes s) (nothing rest h)

-- ---- a read

pub brought_none : (s : Session) (chunk : List ℕ) → Brought s chunk 0 s
unfolding bytes
brought_none s chunk = record { session = refl; counted = omega arith }

-- ---- the input so far

pub passed_none : (s : Session) → Passed s s
unfolding bytes
passed_none s = record { input = []; session = refl }

pub passed_more : {o s s' : Session} (input : List ℕ) → Passed o s → s' ≡ bytes s input → Passed o s'
passed_more {o} input p e =
    record { input = p.input ++ input; session = e ∙ ap (λ (u : Session). bytes u input) p.session ∙ sym (bytes_append o p.input input) }
