-- Laws of a run of lines by their first letter: what one line adds, the loop over the lines from a place on, and the bytes of the
-- counts.
use Rattle.std.specs.Prelude.{Result, Ok, Err}
use Rattle.columns.specs.declared.Refusal.{Refusal}
use Rattle.formats.specs.Refused.{refused_at}
use Rattle.formats.specs.declared.LineRefusal.{LineRefusal}
use Prim.Native.Nat.{ℕ, zero, suc, ◌+◌, ◌-◌, ◌≤◌, ◌<◌}
use mathlib.Core.Path.{◌≡◌, refl, sym, ap, ◌∙◌}
use mathlib.Core.Bool.{Bool, true, false}
use mathlib.Core.List.{List, [], ◌∷◌}
use native.Mathlib.Omega.{arith}
use lib.Dec.{eqb}
use lib.ListN.{length, take, drop, get_or, set, replicate, length-set, length-replicate}
use lib.Seq.{get_or-set_same, get_or-set_other}
use borrow.Author.Tests.{eqb-true, eqb-false, lt-ltb, le-ltb}
use Rattle.columns.specs.Answer.{refusal_at, pick, Answer, ok, refusal, wrong_length, too_short}
use Rattle.columns.specs.Column.{Rec}
use Rattle.columns.specs.Table.{over}
use Rattle.formats.specs.Lines.{lines_of}
use Rattle.formats.specs.Record.{words_by}
use Rattle.formats.specs.declared.lettered.LineKind.{LineKind}
use Rattle.formats.specs.Lettered.{at_start, Lettered, kinds_of, named, leading, read_as, read_lettered}
use Rattle.formats.specs.Run.{Run, begun, counts_of, events_of, on_line, rank_of, first_refused, counts_size, read_run, count_bytes, counts_after, RunRead}
use Rattle.formats.specs.RunSteps.{no_kind, step_of, stepped_by, Empty, Judged}
use Rattle.formats.proofs.laws.Lines.{lines_none}
use Rattle.formats.proofs.laws.BlockReader.{lines_past, FoundAt, line_is, next_after}
use Rattle.formats.proofs.laws.BlockBounds.{lines_count}

-- ---- a kind has the letter that named it

named_by : (t : Bool) (x : ℕ) (k y : LineKind) (o : Answer LineKind) → eqb x k.letter ≡ t → (o ≡ ok y → y.letter ≡ x) → pick t (ok k) o ≡ ok y → y.letter ≡ x
named_by true x k y o p f e = let d : k ≡ y = cc in rw (← d) (sym (eqb-true x k.letter p))
named_by false x k y o p f e = f e

pub named_letter : (ks : List LineKind) (x : ℕ) (y : LineKind) → named ks x ≡ ok y → y.letter ≡ x
unfolding named
named_letter [] x y e = let z : ◌≡◌ {A = ℕ} 0 1 = cc in let y : ⊥ = omega arith in absurd y
named_letter (k ∷ ks) x y e = named_by (eqb x k.letter) x k y (named ks x) refl (named_letter ks x y) e

pub leading_letter : (ks : List LineKind) (l : List ℕ) (y : LineKind) → leading ks l ≡ ok y → y.letter ≡ get_or l 0 0
unfolding leading
leading_letter ks [] y e = let z : ◌≡◌ {A = ℕ} 0 1 = cc in let y : ⊥ = omega arith in absurd y
leading_letter ks (b ∷ l) y e = named_letter ks b y e

-- ---- what a step says of its line

module _ (before : ℕ) (l : List ℕ) where
  told_refused : (a : Answer LineKind) (e : Refusal) → stepped_by (read_as a before l) a ≡ Err e → read_as a before l ≡ refusal e.reason e.column
  told_refused (refusal m d) e q = let z : refusal_at m d ≡ e = cc in rw (← z)
  told_refused (ok k) e q = by_read (read_as (ok k) before l) q
    where
      by_read : (x : Answer Rec) → stepped_by x (ok k) ≡ Err e → x ≡ refusal e.reason e.column
      by_read (ok m) q = let z : ◌≡◌ {A = ℕ} 0 1 = cc in let y : ⊥ = omega arith in absurd y
      by_read (refusal m d) q = let z : refusal_at m d ≡ e = cc in rw (← z)

  pub record Accepted (ks : List LineKind) (kind : LineKind) : Type 0 where
    pub led : leading ks l ≡ ok kind
    pub value : Rec
    pub read : read_lettered ks before l ≡ ok value
    pub letter : get_or l 0 0 ≡ kind.letter

  told_next : (ks : List LineKind) (a : Answer LineKind) (kind : LineKind) → leading ks l ≡ a → stepped_by (read_as a before l) a ≡ Ok kind → Accepted ks kind
  told_next ks (refusal m d) kind q e = let z : ◌≡◌ {A = ℕ} 0 1 = cc in let y : ⊥ = omega arith in absurd y
  told_next ks (ok k) kind q e = by_read (read_as (ok k) before l) refl e
    where
      by_read : (x : Answer Rec) → read_as (ok k) before l ≡ x → stepped_by x (ok k) ≡ Ok kind → Accepted ks kind
      by_read (refusal m d) p e = let z : ◌≡◌ {A = ℕ} 0 1 = cc in let y : ⊥ = omega arith in absurd y
      by_read (ok m) p e =
          let f : leading ks l ≡ ok kind = cc in
          record { led = f; value = m; read = rw q p; letter = sym (leading_letter ks l kind f) }

-- ---- the lines that begin with a byte

pick_one : (t : Bool) → pick t 1 0 ≤ 1
pick_one true = omega arith
pick_one false = omega arith

pub begun_few : (b : ℕ) (ls : List (List ℕ)) → begun b ls ≤ length ls
unfolding begun
begun_few b [] = omega arith
begun_few b (l ∷ ls) = omega (arith, begun_few b ls, pick_one (eqb (get_or l 0 0) b))

begun_cons : (b : ℕ) (l : List ℕ) (ls : List (List ℕ)) → begun b (l ∷ ls) ≡ pick (eqb (get_or l 0 0) b) 1 0 + begun b ls
unfolding begun
begun_cons b l ls = refl

-- ---- a tally of zeros is empty

zeros_at : (n b : ℕ) → ◌≡◌ {A = ℕ} (get_or (replicate n 0) b 0) 0
zeros_at zero b = refl
zeros_at (suc n) zero = refl
zeros_at (suc n) (suc b) = zeros_at n b

pub empty_tally : Empty (replicate 256 0)
empty_tally = record { size = length-replicate {A = ℕ} 256 0; none = zeros_at 256 }

-- ---- the loop over the lines of a run: at a place, with the next line's number, the rank of the line before it, and the lines so far
-- by their first bytes

module _ (ks : List LineKind) (s : List ℕ) where
  abbrev answer : Run
  answer = first_refused ks 1 at_start (lines_of s) (Ok 0)

  pub record Running (at line before : ℕ) (tally : List ℕ) : Type 0 where
    pub inside : at ≤ length s
    pub lines : line ≤ at + 1
    pub size : length tally ≡ 256
    pub same : answer ≡ first_refused ks line before (lines_of (drop at s)) (Ok 0)
    pub counted : (b : ℕ) → b < 256 → get_or tally b 0 + begun b (lines_of (drop at s)) ≡ begun b (lines_of s)

  module _ {at line before : ℕ} {tally : List ℕ} (r : Running at line before tally) where
    pub running_end : length s ≤ at → Judged ks (lines_of s) (Ok 0) tally
    unfolding first_refused begun
    running_end h =
        let none : lines_of (drop at s) ≡ [] = lines_none s at h in
        record { answer = sym (r.same ∙ rw none); tally = λ b p. omega (arith, rw none at (r.counted b p)) }

    pub counted_few : length s ≤ 65536 → (b : ℕ) → b < 256 → get_or tally b 0 ≤ 65536
    counted_few low b h = omega (arith, low, r.counted b h, begun_few b (lines_of s), lines_count s)

    module _ {start end next : ℕ} (f : FoundAt s at start end next) where
      abbrev here : List ℕ
      here = take (end - start) (drop start s)

      lines_here : lines_of (drop at s) ≡ here ∷ lines_of (drop next s)
      lines_here = lines_past s at f.inside ∙ rw (line_is f, f.after)

      module _ {t : Result LineKind Refusal} (e : t ≡ step_of ks before here) where
        pub running_refused : (x : Refusal) → t ≡ Err x → {to : List ℕ} → Judged ks (lines_of s) (refused_at x.reason x.column line) to
        unfolding first_refused
        running_refused x h =
            let d : read_lettered ks before here ≡ refusal x.reason x.column = told_refused before here (leading ks here) x (sym e ∙ h) in
            record { answer = sym (r.same ∙ rw (lines_here, d)); tally = tt }

        module _ (kind : LineKind) (h : t ≡ Ok kind) where
          abbrev b : ℕ
          b = kind.letter

          accepted : Accepted before here ks kind
          accepted = told_next before here ks (leading ks here) kind refl (sym e ∙ h)

          one_more : b < 256 → (c : ℕ) → c < 256 → (u : Bool) → eqb b c ≡ u → get_or (set tally b (get_or tally b 0 + 1)) c 0 ≡ get_or tally c 0 + pick u 1 0
          one_more g c k true p =
              let q : b ≡ c = eqb-true b c p in
              rw (← q) (get_or-set_same tally b (get_or tally b 0 + 1) 0 (omega (arith, g, r.size)))
          one_more g c k false p = let n = eqb-false b c p in get_or-set_other tally b c (get_or tally b 0 + 1) 0 (λ q. n (sym q)) ∙ omega arith

          pub running_next : b < 256 → {to : List ℕ} → to ≡ set tally b (get_or tally b 0 + 1) → Running next (line + 1) kind.rank to
          unfolding first_refused
          running_next g {to} d =
              let a = accepted in
              let w = next_after f in
              let i = r.lines in
              let m : suc line ≡ line + 1 = omega arith in
              record {
                inside = w.1;
                lines = omega (arith, i, w.0);
                size = ap length d ∙ length-set tally b (get_or tally b 0 + 1) ∙ r.size;
                same = r.same ∙ rw (lines_here, a.read, a.led, m);
                counted = λ c k.
                    let x = rw (lines_here, begun_cons c here (lines_of (drop next s)), a.letter) at (r.counted c k) in
                    let y : get_or to c 0 ≡ get_or tally c 0 + pick (eqb b c) 1 0 = ap (λ (z : List ℕ). get_or z c 0) d ∙ one_more g c k (eqb b c) refl in
                    omega (arith, x, y);
              }

-- ---- the first refusal does not go by what is answered where there is none

refused_or : (ks : List LineKind) (n before : ℕ) (ls : List (List ℕ)) (x y : Run) (e : ℕ) → x ≡ Ok e → (a : LineRefusal) → first_refused ks n before ls x ≡ Err a → first_refused ks n before ls y ≡ Err a
unfolding first_refused
refused_or ks n before [] x y e p a q = let z : ◌≡◌ {A = ℕ} 0 1 = cc in let y : ⊥ = omega arith in absurd y
refused_or ks n before (l ∷ ls) x y e p a q = by_line (read_lettered ks before l) (refused_or ks (suc n) (rank_of (leading ks l)) ls x y e p a) q
  where
    by_line : (o : Answer Rec) → (first_refused ks (suc n) (rank_of (leading ks l)) ls x ≡ Err a → first_refused ks (suc n) (rank_of (leading ks l)) ls y ≡ Err a) → on_line n o (first_refused ks (suc n) (rank_of (leading ks l)) ls x) ≡ Err a → on_line n o (first_refused ks (suc n) (rank_of (leading ks l)) ls y) ≡ Err a
    by_line (ok v) f q = f q
    by_line (refusal u w) f q = q

read_or : (ks : List LineKind) (n before : ℕ) (ls : List (List ℕ)) (x y : Run) (e : ℕ) → first_refused ks n before ls x ≡ Ok e → first_refused ks n before ls y ≡ y
unfolding first_refused
read_or ks n before [] x y e q = refl
read_or ks n before (l ∷ ls) x y e q = by_line (read_lettered ks before l) (read_or ks (suc n) (rank_of (leading ks l)) ls x y e) q
  where
    by_line : (o : Answer Rec) → (first_refused ks (suc n) (rank_of (leading ks l)) ls x ≡ Ok e → first_refused ks (suc n) (rank_of (leading ks l)) ls y ≡ y) → on_line n o (first_refused ks (suc n) (rank_of (leading ks l)) ls x) ≡ Ok e → on_line n o (first_refused ks (suc n) (rank_of (leading ks l)) ls y) ≡ y
    by_line (ok v) f q = f q
    by_line (refusal u w) f q = let z : ◌≡◌ {A = ℕ} 0 1 = cc in let y : ⊥ = omega arith in absurd y

-- ---- the counts of kinds in a tally

counts_tally : (ks : List LineKind) (ls : List (List ℕ)) (tally : List ℕ) → ((i : ℕ) → i < length ks → (get_or ks i no_kind).letter < 256) → ((b : ℕ) → b < 256 → get_or tally b 0 ≡ begun b ls) → words_by 2 (λ (k : LineKind). get_or tally k.letter 0) ks ≡ count_bytes (counts_of ks ls)
unfolding counts_of words_by
counts_tally [] ls tally low t = refl
counts_tally (k ∷ ks) ls tally low t = rw (t k.letter (low 0 (omega arith)), counts_tally ks ls tally (λ i h. low (suc i) (omega arith)) t)

-- ---- the answer for a run, as the code comes to it

module _ (L : Lettered) (s from : List ℕ) where
  answered : (r : Run) (to : List ℕ) → read_run L s (length from) ≡ r → to ≡ counts_after L s r from → RunRead L s r from to
  answered r to e f = record { answer = sym e; bytes = f ∙ ap (λ (x : Run). counts_after L s x from) (sym e) }

  pub run_short : length from < counts_size L → RunRead L s (refused_at too_short 0 0) from from
  unfolding read_run
  run_short h = answered (refused_at too_short 0 0) from (rw (lt-ltb (length from) (counts_size L) h)) refl

  module _ (h : counts_size L ≤ length from) where
    pub run_long : 65536 < length s → RunRead L s (refused_at wrong_length 0 0) from from
    unfolding read_run
    run_long g = answered (refused_at wrong_length 0 0) from (rw (le-ltb (length from) (counts_size L) h, lt-ltb 65536 (length s) g)) refl

    module _ (low : length s ≤ 65536) where
      run_lines : read_run L s (length from) ≡ first_refused (kinds_of L) 1 at_start (lines_of s) (Ok (events_of L (lines_of s)))
      unfolding read_run
      run_lines = rw (le-ltb (length from) (counts_size L) h, le-ltb 65536 (length s) low)

      module _ {j : Run} {tally : List ℕ} (d : Judged (kinds_of L) (lines_of s) j tally) where
        pub run_refused : (x : LineRefusal) → j ≡ Err x → RunRead L s (Err x) from from
        run_refused x e = answered (Err x) from (run_lines ∙ refused_or (kinds_of L) 1 at_start (lines_of s) (Ok 0) _ 0 refl x (sym d.answer ∙ e)) refl

        pub run_read : (e : ℕ) → j ≡ Ok e → L.opener.letter < 256 → ((i : ℕ) → i < length L.others → (get_or L.others i no_kind).letter < 256) → {to : List ℕ} → to ≡ over (words_by 2 (λ (k : LineKind). get_or tally k.letter 0) (kinds_of L)) from → RunRead L s (Ok (get_or tally L.opener.letter 0)) from to
        run_read e q first byte {to} w =
            let t : (b : ℕ) → b < 256 → get_or tally b 0 ≡ begun b (lines_of s) = rw q at d.tally in
            let v : get_or tally L.opener.letter 0 ≡ events_of L (lines_of s) = t L.opener.letter first in
            let k : words_by 2 (λ (k : LineKind). get_or tally k.letter 0) (kinds_of L) ≡ count_bytes (counts_of (kinds_of L) (lines_of s)) =
            counts_tally (kinds_of L) (lines_of s) tally (all_low first byte) t in
            rw v (answered (Ok (events_of L (lines_of s))) to (run_lines ∙ read_or (kinds_of L) 1 at_start (lines_of s) (Ok 0) _ e (sym d.answer ∙ q)) (w ∙ rw k))
          where
            all_low : L.opener.letter < 256 → ((i : ℕ) → i < length L.others → (get_or L.others i no_kind).letter < 256) → (i : ℕ) → i < length (kinds_of L) → (get_or (kinds_of L) i no_kind).letter < 256
            all_low f g zero h = f
            all_low f g (suc i) h = g i (omega arith)
