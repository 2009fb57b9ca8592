-- Laws of walking a run: a line that was found, as the code comes to it; and a walk of a run that is read meets its lines, in order,
-- and ends where the run ends.
use Rattle.std.specs.Prelude.{Ok}
use Rattle.columns.specs.declared.Reason.{Reason}
use Rattle.formats.specs.Refused.{refused_at}
use Prim.Native.Nat.{ℕ, zero, suc, ◌+◌, ◌≤◌, ◌<◌}
use mathlib.Core.Path.{◌≡◌, refl, sym, ap, ◌∙◌}
use mathlib.Core.Bool.{Bool, true, false}
use mathlib.Core.List.{List, [], ◌∷◌}
use mathlib.Core.Logic.{inl, inr}
use native.Mathlib.Omega.{arith}
use lib.Dec.{eqb, ltb}
use lib.ListN.{length, drop, get_or}
use borrow.Author.Tests.{lt-ltb, le-ltb, ltb-false, lt-leb, le-leb}
use Rattle.columns.specs.Answer.{pick, Answer, ok, refusal, number_of, wrong_length, too_short}
use Rattle.columns.specs.Column.{Rec}
use Rattle.formats.specs.Lines.{lines_of, line_end}
use Rattle.formats.specs.BlockReader.{line_of, next_of}
use Rattle.formats.specs.BlockWalk.{no_line, nothing}
use Rattle.formats.specs.declared.lettered.LineKind.{LineKind}
use Rattle.formats.specs.Lettered.{at_start, Lettered, kinds_of, named, leading, read_as}
use Rattle.formats.specs.Run.{on_line, rank_of, first_refused, counts_size, read_run, events_of}
use Rattle.formats.specs.RunWalk.{event_after, told_as, told_at, first_told, next_told, met_of, WalkedFrom, ended, met}
use Rattle.formats.proofs.laws.Lines.{lt_or_le, lines_none}
use Rattle.formats.proofs.laws.BlockReader.{lines_past, next_range, after_line, past_newline_lem, past_end}
use Rattle.formats.proofs.laws.Lettered.{kind_answer, lettered_by, named_find}
use Rattle.formats.specs.Cube.{wrong_type}
use Rattle.std.specs.Prelude.{Option, None, Some, find}
use Rattle.formats.proofs.laws.Run.{leading_letter}
use Rattle.formats.specs.declared.block_walk.BlockLine.{BlockLine}
use Rattle.formats.specs.Run.{Run}

-- ---- a number that was handed in has a kind's letter, or has not

module _ (L : Lettered) (b : List ℕ) (low : length b ≤ 65536) (y : BlockLine) {o : Option LineKind} (f : o ≡ find (lettered_by y.kind) (kinds_of L)) where
  pub next_known : {k : LineKind} → o ≡ Some k → told_at L b y.next y.number ≡ next_told L b y
  unfolding next_told
  next_known {k} e =
      let q : named (kinds_of L) y.kind ≡ ok k = sym (named_find (kinds_of L) y.kind) ∙ ap kind_answer (sym f ∙ e) in
      sym (rw (le-ltb 65536 (length b) low, q))

  pub next_unknown : o ≡ None → nothing no_line ≡ next_told L b y
  unfolding next_told
  next_unknown e =
      let q : named (kinds_of L) y.kind ≡ refusal wrong_type 1 = sym (named_find (kinds_of L) y.kind) ∙ ap kind_answer (sym f ∙ e) in
      sym (rw (le-ltb 65536 (length b) low, q))

-- ---- the line at a place

module _ (L : Lettered) (b : List ℕ) (at n : ℕ) where
  pub at_many : 65534 < n → nothing no_line ≡ told_at L b at n
  at_many h = sym (rw (lt-ltb 65534 n h))

  module _ (few : n ≤ 65534) where
    pub at_none : length b ≤ at → nothing no_line ≡ told_at L b at n
    at_none h = sym (rw (le-ltb 65534 n few, le-leb (length b) at h))

    at_is : at < length b → told_at L b at n ≡ told_as L (leading (kinds_of L) (line_of b at)) n (line_end b at) (next_of b at)
    at_is h = rw (le-ltb 65534 n few, lt-leb (length b) at h)

-- ---- the calls

module _ (L : Lettered) (b : List ℕ) where
  pub first_long : 65536 < length b → nothing (number_of wrong_length) ≡ first_told L b
  unfolding first_told
  first_long h = sym (rw (lt-ltb 65536 (length b) h))

  pub first_there : length b ≤ 65536 → told_at L b 0 0 ≡ first_told L b
  unfolding first_told
  first_there h = sym (rw (le-ltb 65536 (length b) h))

  pub next_long : (y : BlockLine) → 65536 < length b → nothing (number_of wrong_length) ≡ next_told L b y
  unfolding next_told
  next_long y h = sym (rw (lt-ltb 65536 (length b) h))

-- ---- a whole walk of a run that is read

not_read : {n : Reason} {c l e : ℕ} → refused_at n c l ≡ Ok e → ⊥
not_read q = let z : ◌≡◌ {A = ℕ} 0 1 = cc in omega arith

-- a line that is read has a kind, which its first byte names
record Led (L : Lettered) (l : List ℕ) : Type 0 where
  kind : LineKind
  is : leading (kinds_of L) l ≡ ok kind
  names : named (kinds_of L) kind.letter ≡ ok kind
  some : 1 ≤ length l

led_by : (L : Lettered) (l : List ℕ) (k : LineKind) → leading (kinds_of L) l ≡ ok k → Led L l
unfolding leading
led_by L [] k e = let z : ◌≡◌ {A = ℕ} 0 1 = cc in let y : ⊥ = omega arith in absurd y
led_by L (b ∷ l) k e = record { kind = k; is = e; names = ap (named (kinds_of L)) (leading_letter (kinds_of L) (b ∷ l) k e) ∙ e; some = omega arith }

run_passed : (t : Bool) (n : Reason) (c l : ℕ) (x : Run) (e : ℕ) → pick t (refused_at n c l) x ≡ Ok e → (t ≡ false) × (x ≡ Ok e)
run_passed true n c l x e q = absurd (not_read q)
run_passed false n c l x e q = (refl, q)

module _ (L : Lettered) (b : List ℕ) (low : length b ≤ 65536) (x : Run) (e : ℕ) where
  abbrev ks : List LineKind
  ks = kinds_of L

  at_end : (at n : ℕ) → length b ≤ at → told_at L b at n ≡ nothing no_line
  at_end at n h = elim (lt_or_le 65534 n) [ inl p ↦ sym (at_many L b at n p) | inr p ↦ sym (at_none L b at n p h) ]

  next_goes : (y : BlockLine) (k : LineKind) → named ks y.kind ≡ ok k → next_told L b y ≡ told_at L b y.next y.number
  unfolding next_told
  next_goes y k q = rw (le-ltb 65536 (length b) low, q)

  -- a number of events that a line can have, where there is one
  abbrev Few : ℕ → ℕ → Type 0
  Few at n = at < length b → (n ≤ 65534) × (n ≤ at)

  event_more : (t : Bool) (n : ℕ) → pick t (n + 1) n ≤ n + 1
  event_more true n = omega arith
  event_more false n = omega arith

  module _ (at n : ℕ) (h : at < length b) (few : Few at n) where
    abbrev here : List ℕ
    here = line_of b at

    next_far : 1 ≤ length here → next_of b at < length b → at + 2 ≤ next_of b at
    next_far s g = elim (lt_or_le (line_end b at) (length b)) [
      | inl p ↦ omega (arith, after_line b at h, past_newline_lem b (line_end b at) p, s)
      | inr p ↦ absurd (omega (arith, past_end b (line_end b at) p, p, g))
    ]

    module _ (d : Led L here) where
      abbrev event : ℕ
      event = event_after L d.kind.letter n

      few_next : Few (next_of b at) event
      few_next g =
          let m = event_more (eqb d.kind.letter L.opener.letter) n in
          let f = next_far d.some g in
          let w = few h in
          (omega (arith, m, f, g, low, w.1), omega (arith, m, f, w.1))

      -- the line is met, and the walk goes on behind it
      walk_on : WalkedFrom L b (told_at L b (next_of b at) event) (next_of b at) (met_of L event (lines_of (drop (next_of b at) b))) → WalkedFrom L b (told_at L b at n) at (met_of L n (lines_of (drop at b)))
      unfolding met_of
      walk_on w =
          let y : BlockLine = record { kind = d.kind.letter; number = event; end = line_end b at; next = next_of b at } in
          let t : told_at L b at n ≡ y = at_is L b at n (few h).0 h ∙ ap (λ (a : Answer LineKind). told_as L a n (line_end b at) (next_of b at)) d.is in
          let c : get_or here 0 0 ≡ d.kind.letter = sym (leading_letter ks here d.kind d.is) in
          rw (t, lines_past b at h, c) (met {x = y} {ms = met_of L event (lines_of (drop (next_of b at) b))} (rw (next_goes y d.kind d.names) w))

  read_led : (at line before : ℕ) → at < length b → first_refused ks line before (lines_of (drop at b)) x ≡ Ok e → Led L (line_of b at) × (first_refused ks (suc line) (rank_of (leading ks (line_of b at))) (lines_of (drop (next_of b at) b)) x ≡ Ok e)
  unfolding first_refused
  read_led at line before h q = by_lead (leading ks (line_of b at)) refl (rw (lines_past b at h) at q)
    where
      rest : Answer LineKind → Run
      rest a = first_refused ks (suc line) (rank_of a) (lines_of (drop (next_of b at) b)) x

      by_read : (k : LineKind) → leading ks (line_of b at) ≡ ok k → (o : Answer Rec) → on_line line o (rest (ok k)) ≡ Ok e → Led L (line_of b at) × (rest (leading ks (line_of b at)) ≡ Ok e)
      by_read k p (ok m) q = (led_by L (line_of b at) k p, rw p q)
      by_read k p (refusal u v) q = absurd (not_read q)

      by_lead : (a : Answer LineKind) → leading ks (line_of b at) ≡ a → on_line line (read_as a before (line_of b at)) (rest a) ≡ Ok e → Led L (line_of b at) × (rest (leading ks (line_of b at)) ≡ Ok e)
      by_lead (ok k) p q = by_read k p (read_as (ok k) before (line_of b at)) q
      by_lead (refusal u v) p q = absurd (not_read q)

  walk_end : (at n : ℕ) → at ≤ length b → length b ≤ at → WalkedFrom L b (told_at L b at n) at (met_of L n (lines_of (drop at b)))
  unfolding met_of
  walk_end at n i h = rw (at_end at n h, lines_none b at h) (ended {at = at} (omega arith))

  walk_from : (fuel at line before n : ℕ) → at ≤ length b → Few at n → length b ≤ at + fuel → first_refused ks line before (lines_of (drop at b)) x ≡ Ok e → WalkedFrom L b (told_at L b at n) at (met_of L n (lines_of (drop at b)))
  walk_from zero at line before n i few m q = walk_end at n i (omega arith)
  walk_from (suc fuel) at line before n i few m q = elim (lt_or_le at (length b)) [
    | inl h ↦
        let d = read_led at line before h q in
        let r = next_range b at h in
        walk_on at n h few d.0 (walk_from fuel (next_of b at) (suc line) (rank_of (leading ks (line_of b at))) (event at n h few d.0) r.1 (few_next at n h few d.0) (omega (arith, m, r.0)) d.1)
    | inr h ↦ walk_end at n i h
  ]

-- of a run that is read, the walk meets its lines, in order, each with its letter and the number of its event, and then there is none
pub run_walked : (L : Lettered) (b : List ℕ) (room e : ℕ) → read_run L b room ≡ Ok e → WalkedFrom L b (first_told L b) 0 (met_of L 0 (lines_of b))
unfolding read_run
run_walked L b room e q =
    let p = run_passed (ltb room (counts_size L)) too_short 0 0 _ e q in
    let r = run_passed (ltb 65536 (length b)) wrong_length 0 0 (first_refused (kinds_of L) 1 at_start (lines_of b) (Ok (events_of L (lines_of b)))) e p.1 in
    let low = ltb-false 65536 (length b) r.0 in
    rw (← first_there L b low) (walk_from L b low (Ok (events_of L (lines_of b))) e (length b) 0 1 at_start 0 (omega arith) (λ h. (omega arith, omega arith)) (omega arith) r.1)
