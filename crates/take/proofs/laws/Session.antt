-- Laws of a session: its bytes in parts, a line that stands in a text, and the end of the input.
use Prim.Native.Nat.{ℕ, zero, suc, ◌+◌, ◌-◌, ◌≤◌, ◌<◌}
use mathlib.Core.Path.{◌≡◌, refl, sym, ◌∙◌, ap, ap₂}
use mathlib.Core.List.{List, [], ◌∷◌, ◌++◌, append-nil, append_assoc}
use native.Mathlib.Omega.{arith}
use lib.Dec.{eqb}
use lib.ListN.{length, take, drop, get_or, length-take}
use lib.Seq.{take_all, take-take, take-append-le, take-add, drop-cons, drop-drop, length-take-le}
use borrow.Author.Tests.{eq-eqb, ne_eqb}
use Rattle.columns.specs.Answer.{pick}
use Rattle.formats.specs.Lines.{line_end}
use Rattle.formats.proofs.laws.Lines.{line_end_from, line_end_to, end_stop, end_other}
use Rattle.catalogue.proofs.laws.assoc.Tri.{le, gt, le?, eq, ne, eq?}
use Rattle.take.specs.Session.{cut, Session, ended, ended_said, grown, byte, bytes, said, closed, closed_said}

-- ---- the bytes in parts

pub bytes_append : (s : Session) (a b : List ℕ) → bytes s (a ++ b) ≡ bytes (bytes s a) b
unfolding bytes
bytes_append s [] b = refl
bytes_append s (x ∷ a) b = bytes_append (byte s x) a b

pub said_append : (s : Session) (a b : List ℕ) → said s (a ++ b) ≡ said s a ++ said (bytes s a) b
unfolding bytes said
said_append s [] b = refl
said_append s (x ∷ a) b =
    ap (λ (t : List ℕ). pick (eqb x 10) (ended_said s) [] ++ t) (said_append (byte s x) a b)
    ∙ sym (append_assoc (pick (eqb x 10) (ended_said s) []) (said (byte s x) a) (said (bytes (byte s x) a) b))

-- ---- a line that is cut

pub cut_short : (l : List ℕ) → length l ≤ 1024 → cut l ≡ l
unfolding cut
cut_short l h = take_all 1024 l h

cut_length : (l : List ℕ) → length (cut l) ≤ 1024
unfolding cut
cut_length l = omega (arith, length-take 1024 l)

cut_cut : (x y : List ℕ) → cut (cut x ++ y) ≡ cut (x ++ y)
unfolding cut
cut_cut x y =
    elim (le? (length x) 1024) [
      | le p ↦ ap (λ (z : List ℕ). take 1024 (z ++ y)) (take_all 1024 x p)
      | gt p ↦
          let e : length (take 1024 x) ≡ 1024 = length-take-le 1024 x (omega arith) in
          take-append-le 1024 (take 1024 x) y (omega arith) ∙ take-take 1024 1024 x (omega arith) ∙ sym (take-append-le 1024 x y (omega arith))
    ]

-- ---- a line that grows

grown_none : (s : Session) → length s.line ≤ 1024 → grown s [] ≡ s
unfolding grown
grown_none s h =
    ap (λ (l : List ℕ). record { room = s.room; line = l; number = s.number }) (ap cut (append-nil s.line) ∙ cut_short s.line h)

grown_more : (s : Session) (p q : List ℕ) → grown (grown s p) q ≡ grown s (p ++ q)
unfolding grown
grown_more s p q =
    ap (λ (l : List ℕ). record { room = s.room; line = l; number = s.number })
    (cut_cut (s.line ++ p) q ∙ ap cut (append_assoc s.line p q))

grown_length : (s : Session) (p : List ℕ) → length (grown s p).line ≤ 1024
unfolding grown
grown_length s p = cut_length (s.line ++ p)

byte_other : (s : Session) (b : ℕ) → (b ≡ 10 → ⊥) → byte s b ≡ grown s (b ∷ [])
unfolding byte
byte_other s b h = rw (ne_eqb b 10 h)

pub byte_newline : (s : Session) (b : ℕ) → b ≡ 10 → byte s b ≡ ended s
unfolding byte
byte_newline s b h = rw (eq-eqb b 10 h)

said_other : (s : Session) (b : ℕ) (bs : List ℕ) → (b ≡ 10 → ⊥) → said s (b ∷ bs) ≡ said (byte s b) bs
unfolding said
said_other s b bs h = rw (ne_eqb b 10 h)

pub said_newline : (s : Session) (b : ℕ) (bs : List ℕ) → b ≡ 10 → said s (b ∷ bs) ≡ ended_said s ++ said (byte s b) bs
unfolding said
said_newline s b bs h = rw (eq-eqb b 10 h)

-- ---- a line that stands in a text

module _ (t : List ℕ) where
  -- d bytes from a place on, up to the line's end
  pub record Grown (s : Session) (at d : ℕ) : Type 0 where
    pub session : bytes s (take d (drop at t)) ≡ grown s (take d (drop at t))
    pub silent : said s (take d (drop at t)) ≡ []
    pub end : line_end t (at + d) ≡ at + d

  split : (at d : ℕ) → at < length t → take (suc d) (drop at t) ≡ get_or t at 0 ∷ take d (drop (at + 1) t)
  split at d h = let e : suc at ≡ at + 1 = omega arith in rw (drop-cons t at 0 h, e)

  pub line_grown : (d : ℕ) (s : Session) (at : ℕ) → length s.line ≤ 1024 → at ≤ length t → line_end t at ≡ at + d → Grown s at d
  unfolding bytes said
  line_grown zero s at h k e =
      let f : at + 0 ≡ at = omega arith in
      record { session = sym (grown_none s h); silent = refl; end = ap (line_end t) f ∙ e }
  line_grown (suc d) s at h k e =
      let inside : at < length t = omega (arith, line_end_to t at k) in
      let b : ℕ = get_or t at 0 in
      let other : b ≡ 10 → ⊥ = λ (q : b ≡ 10). omega (arith, end_stop 10 t at inside q) in
      let f : line_end t (at + 1) ≡ at + 1 + d = sym (end_other 10 t at inside other) ∙ e ∙ omega arith in
      let g : at + 1 + d ≡ at + suc d = omega arith in
      let r : Grown (grown s (b ∷ [])) (at + 1) d = line_grown d (grown s (b ∷ [])) (at + 1) (grown_length s (b ∷ [])) (omega arith) f in
      record {
        session = rw (split at d inside) (ap (λ (u : Session). bytes u (take d (drop (at + 1) t))) (byte_other s b other) ∙ r.session ∙ grown_more s (b ∷ []) (take d (drop (at + 1) t)));
        silent = rw (split at d inside) (said_other s b (take d (drop (at + 1) t)) other ∙ ap (λ (u : Session). said u (take d (drop (at + 1) t))) (byte_other s b other) ∙ r.silent);
        end = ap (line_end t) (sym g) ∙ r.end ∙ g;
      }

  -- a place where a line ends, not at the text's end, holds a newline
  pub newline_at : (e : ℕ) → e < length t → line_end t e ≡ e → get_or t e 0 ≡ 10
  newline_at e h f =
      elim (eq? (get_or t e 0) 10) [
        | eq p ↦ p
        | ne p ↦ let y : ⊥ = omega (arith, end_other 10 t e h p, line_end_from t (e + 1)) in absurd y
      ]

  pub record Ended (s : Session) (at e : ℕ) : Type 0 where
    pub session : bytes s (take (e + 1 - at) (drop at t)) ≡ ended (grown s (take (e - at) (drop at t)))
    pub answer : said s (take (e + 1 - at) (drop at t)) ≡ ended_said (grown s (take (e - at) (drop at t)))

  pub line_ended : (s : Session) (at e : ℕ) → length s.line ≤ 1024 → at ≤ e → e < length t → e ≡ line_end t at → Ended s at e
  unfolding bytes said
  line_ended s at e h k inside f =
      let d : ℕ = e - at in
      let g : at + d ≡ e = omega arith in
      let r : Grown s at d = line_grown d s at h (omega arith) (sym f ∙ sym g) in
      let l : List ℕ = take d (drop at t) in
      let n : get_or t e 0 ≡ 10 = newline_at e inside (ap (line_end t) (sym g) ∙ r.end ∙ g) in
      let parts : take (e + 1 - at) (drop at t) ≡ l ++ (get_or t e 0 ∷ []) =
      let q : e + 1 - at ≡ d + 1 = omega arith in
      ap (λ (m : ℕ). take m (drop at t)) q ∙ take-add d 1 (drop at t) ∙ ap (λ (x : List ℕ). l ++ x) (ap (take 1) (drop-drop d at t ∙ ap (λ (m : ℕ). drop m t) g ∙ drop-cons t e 0 inside)) in
      record {
        session = ap (bytes s) parts ∙ bytes_append s l (get_or t e 0 ∷ []) ∙ byte_newline (bytes s l) (get_or t e 0) n ∙ ap ended r.session;
        answer =
            ap (said s) parts ∙ said_append s l (get_or t e 0 ∷ [])
            ∙ ap₂ (λ (x y : List ℕ). x ++ y) r.silent (said_newline (bytes s l) (get_or t e 0) [] n ∙ append-nil (ended_said (bytes s l)) ∙ ap ended_said r.session);
      }

-- ---- the end of the input

module _ (s : Session) where
  pub closed_none : length s.line ≡ 0 → (closed s ≡ s) × (closed_said s ≡ [])
  unfolding closed closed_said
  closed_none h = (rw (eq-eqb (length s.line) 0 h), rw (eq-eqb (length s.line) 0 h))

  pub closed_some : (length s.line ≡ 0 → ⊥) → (closed s ≡ ended s) × (closed_said s ≡ ended_said s)
  unfolding closed closed_said
  closed_some h = (rw (ne_eqb (length s.line) 0 h), rw (ne_eqb (length s.line) 0 h))
