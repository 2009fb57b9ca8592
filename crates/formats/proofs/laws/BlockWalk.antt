-- Laws of walking a block: a line that was found, as the code comes to it; and a walk of a block that is read meets exactly its
-- rows and comments, in order, and ends where the bytes used end.
use Rattle.std.specs.Prelude.{Ok, Err}
use Rattle.columns.specs.Answer.{refusal_at}
use Rattle.formats.specs.Refused.{refused_at}
use Rattle.formats.specs.Block.{read_as}
use Prim.Native.Nat.{ℕ, zero, suc, ◌+◌, ◌-◌, ◌≤◌, ◌<◌}
use mathlib.Core.Path.{◌≡◌, refl, sym, ap, ◌∙◌}
use mathlib.Core.Bool.{Bool, true, false}
use mathlib.Core.List.{List}
use mathlib.Core.Logic.{inl, inr}
use native.Mathlib.Omega.{arith}
use lib.Dec.{ltb}
use lib.ListN.{length, take, drop}
use borrow.Author.Tests.{lt-ltb, le-ltb, lt-leb, le-leb}
use Rattle.columns.specs.Answer.{Answer, ok, refusal, number_of}
use Rattle.columns.specs.Column.{Rec}
use Rattle.formats.specs.Lines.{lines_of, line_end}
use Rattle.formats.specs.Block.{Kind, closing, comment, row, kind_of, is_header, read_comment, out_of_place, plus, read_lines, at_most, read_block_by}
use Rattle.formats.specs.BlockSteps.{counted, step_of}
use Rattle.formats.specs.BlockReader.{line_of, next_of}
use Rattle.formats.specs.BlockWalk.{no_line, header_line, row_line, comment_line, nothing, known, headed, first_line, line_after, next_line, Met, met_as, rows_after, met_in, Walked, ended, closed, a_comment, a_row, count_of, WalkedBlock}
use Rattle.formats.proofs.laws.Lines.{lt_or_le, lines_none}
use Rattle.formats.proofs.laws.BlockReader.{FoundAt, line_is, lines_past, next_range}
use Rattle.formats.proofs.laws.Block.{turn_end, turn, block_long, block_none, block_other, block_lines}
use Rattle.formats.specs.declared.block_walk.BlockLine.{BlockLine}
use Rattle.formats.specs.Block.{Block}
use Rattle.formats.specs.declared.block.Counts.{Counts}
use Rattle.columns.specs.declared.Refusal.{Refusal}
use Rattle.columns.specs.declared.Reason.{Reason}
use Rattle.std.specs.Prelude.{Some, None}

-- ---- the first line, as the code comes to it

module _ (header b : List ℕ) (low : length b ≤ 65536) where
  first_is : 0 < length b → first_line header b ≡ headed header b
  unfolding first_line
  first_is h = rw (le-ltb 65536 (length b) low, lt-leb (length b) 0 h)

  module _ {start end next : ℕ} (f : FoundAt b 0 start end next) {t : Bool} (e : t ≡ is_header header (take (end - start) (drop start b))) where
    header_here : t ≡ is_header header (line_of b 0)
    header_here = e ∙ ap (is_header header) (line_is f)

    pub first_header : t ≡ true → record { kind = header_line; number = 0; end = end; next = next } ≡ first_line header b
    first_header h =
        let u : is_header header (line_of b 0) ≡ true = sym header_here ∙ h in
        sym (first_is f.inside ∙ rw (u, f.ends, f.after))

    pub first_other : t ≡ false → nothing (number_of out_of_place) ≡ first_line header b
    first_other h = let u : is_header header (line_of b 0) ≡ false = sym header_here ∙ h in sym (first_is f.inside ∙ rw u)

-- ---- the line after one that was met, as the code comes to it

module _ (b : List ℕ) (at n : ℕ) where
  after_is : n ≤ 65534 → at < length b → line_after b at n ≡ known (kind_of (line_of b at)) n (line_end b at) (next_of b at)
  after_is few h = rw (le-ltb 65534 n few, lt-leb (length b) at h)

  after_none : length b ≤ at → line_after b at n ≡ nothing no_line
  after_none h = elim (lt_or_le 65534 n) [ inl p ↦ rw (lt-ltb 65534 n p) | inr p ↦ rw (le-ltb 65534 n p, le-leb (length b) at h) ]

next_there : (b : List ℕ) (x : BlockLine) → length b ≤ 65536 → 40 ≤ x.kind → x.kind ≤ 42 → line_after b x.next x.number ≡ next_line b x
unfolding next_line
next_there b x low h k = sym (rw (le-ltb 65536 (length b) low, le-ltb x.kind 40 h, le-ltb 42 x.kind k))

-- ---- a walk of the lines from a place on

-- a line from which a walk goes on, at a place of a block
record Going (b : List ℕ) (x : BlockLine) : Type 0 where
  from : 40 ≤ x.kind
  to : x.kind ≤ 42
  inside : x.next ≤ length b
  few : x.number < x.next

abbrev met_from : List ℕ → BlockLine → List Met
met_from b x = met_in x.number (lines_of (drop x.next b))

-- what the calls after x meet, with k₀ comments before them
record Meets (b : List ℕ) (x : BlockLine) (ms : List Met) (k₀ p k u : ℕ) : Type 0 where
  walk : Walked b x ms u
  rows : x.number + count_of row_line ms ≡ p
  comments : k₀ + count_of comment_line ms ≡ k

abbrev WalkedFrom : List ℕ → BlockLine → ℕ → ℕ → ℕ → ℕ → Type 0
WalkedFrom b x k₀ p k u = Meets b x (met_from b x) k₀ p k u

abbrev counts_of : Block → Counts
counts_of (Ok c) = c
counts_of (Err e) = record { rows = 0; comments = 0; used = 0 }

read_parts : {p k u q j v : ℕ} → read_as p k u ≡ read_as q j v → (p ≡ q) × ((k ≡ j) × (u ≡ v))
read_parts e = (ap (λ (x : Block). (counts_of x).rows) e, (ap (λ (x : Block). (counts_of x).comments) e, ap (λ (x : Block). (counts_of x).used) e))

not_refused : {n : Reason} {c l p k u : ℕ} → refused_at n c l ≡ read_as p k u → ⊥
not_refused e = let z : ◌≡◌ {A = ℕ} 0 1 = cc in omega arith

module _ (header : List ℕ) (read : List ℕ → Answer Rec) (b : List ℕ) (low : length b ≤ 65536) where
  abbrev answer_from : BlockLine → ℕ → ℕ → Block
  answer_from x line k₀ = at_most (length b) (plus x.number k₀ x.next (read_lines read line (ltb 0 x.number) (lines_of (drop x.next b))))

  module _ (x : BlockLine) (g : Going b x) (line k₀ p k u : ℕ) (e : answer_from x line k₀ ≡ read_as p k u) where
    walk_end : length b ≤ x.next → WalkedFrom b x k₀ p k u
    unfolding met_in count_of
    walk_end h =
        let r = read_parts (sym (turn_end header read b x.next line x.number k₀ (ltb 0 x.number) g.inside h) ∙ e) in
        let none : next_line b x ≡ nothing no_line = sym (next_there b x low g.from g.to) ∙ after_none b x.next x.number h in
        rw (lines_none b x.next h) (record { walk = rw (← r.1.1) (ended none); rows = omega (arith, r.0); comments = omega (arith, r.1.0) })

    module _ (h : x.next < length b) where
      abbrev here : List ℕ
      here = line_of b x.next

      next_is : (κ : Kind) → kind_of here ≡ κ → next_line b x ≡ known κ x.number (line_end b x.next) (next_of b x.next)
      next_is κ c =
          let few : x.number ≤ 65534 = omega (arith, g.few, h, low) in
          sym (next_there b x low g.from g.to) ∙ after_is b x.next x.number few h ∙ rw c

      met_is : (κ : Kind) → kind_of here ≡ κ → met_from b x ≡ met_as κ x.number here (met_in (rows_after κ x.number) (lines_of (drop (next_of b x.next) b)))
      unfolding met_in
      met_is κ c = rw (lines_past b x.next h, c)

      walk_closing : kind_of here ≡ closing → WalkedFrom b x k₀ p k u
      unfolding count_of
      walk_closing c =
          let r = read_parts (sym (turn header read b x.next h line x.number k₀ (Ok None) (ap (λ (κ : Kind). step_of read κ x.number k₀ here) c)) ∙ e) in
          rw (met_is closing c) (record { walk = rw (← r.1.1) (closed (next_is closing c)); rows = omega (arith, r.0); comments = omega (arith, r.1.0) })

      walk_refused : (r : Refusal) → step_of read (kind_of here) x.number k₀ here ≡ Err r → ⊥
      walk_refused r s = not_refused (sym (turn header read b x.next h line x.number k₀ (Err r) s) ∙ e)

      walk_next : (q j : ℕ) → step_of read (kind_of here) x.number k₀ here ≡ Ok (Some (q, j)) → (y : BlockLine) → y.next ≡ next_of b x.next → y.number ≡ q → answer_from y (line + 1) j ≡ read_as p k u
      walk_next q j s y n m = rw (n, m) (sym (turn header read b x.next h line x.number k₀ (Ok (Some (q, j))) s) ∙ e)

      abbrev Go : Type 0
      Go = (y : BlockLine) → Going b y → (i j : ℕ) → x.next < y.next → answer_from y i j ≡ read_as p k u → WalkedFrom b y j p k u

      -- a comment or a row, judged with q rows and j comments: the walk goes on from it, met as y
      walk_on : {A : Type 0} (κ : Kind) → kind_of here ≡ κ → (a : Answer A) (q j : ℕ) → step_of read κ x.number k₀ here ≡ counted a q j → q ≤ x.number + 1
          → (y : BlockLine) → 40 ≤ y.kind → y.kind ≤ 42 → y.next ≡ next_of b x.next → y.number ≡ q → Go → WalkedFrom b y j p k u
      walk_on κ c (refusal n i) q j s m y from to f d go = absurd (walk_refused (refusal_at n i) (ap (λ (κ : Kind). step_of read κ x.number k₀ here) c ∙ s))
      walk_on κ c (ok v) q j s m y from to f d go =
          let r = next_range b x.next h in
          go y (record { from = from; to = to; inside = rw f r.1; few = omega (arith, r.0, g.few, f, d, m) }) (line + 1) j (rw f r.0) (walk_next q j (ap (λ (κ : Kind). step_of read κ x.number k₀ here) c ∙ s) y f d)

      walk_kind : (κ : Kind) → kind_of here ≡ κ → Go → WalkedFrom b x k₀ p k u
      unfolding count_of
      walk_kind closing c go = walk_closing c
      walk_kind comment c go =
          let w = walk_on comment c (read_comment (ltb 0 x.number) here) x.number (k₀ + 1) refl (omega arith) (known comment x.number (line_end b x.next) (next_of b x.next)) (omega arith) (omega arith) refl refl go in
          rw (met_is comment c) (record { walk = a_comment (next_is comment c) refl refl w.walk; rows = omega (arith, w.rows); comments = omega (arith, w.comments) })
      walk_kind row c go =
          let w = walk_on row c (read here) (x.number + 1) k₀ refl (omega arith) (known row x.number (line_end b x.next) (next_of b x.next)) (omega arith) (omega arith) refl refl go in
          rw (met_is row c) (record { walk = a_row (next_is row c) refl refl w.walk; rows = omega (arith, w.rows); comments = omega (arith, w.comments) })

  walk_from : (fuel : ℕ) (x : BlockLine) → Going b x → (line k₀ p k u : ℕ) → length b ≤ x.next + fuel → answer_from x line k₀ ≡ read_as p k u → WalkedFrom b x k₀ p k u
  walk_from zero x g line k₀ p k u m e = walk_end x g line k₀ p k u e (omega arith)
  walk_from (suc fuel) x g line k₀ p k u m e = elim (lt_or_le x.next (length b)) [
    | inl h ↦ walk_kind x g line k₀ p k u e h (kind_of (line_of b x.next)) refl (λ y i s j n q. walk_from fuel y i s j p k u (omega (arith, m, n)) q)
    | inr h ↦ walk_end x g line k₀ p k u e h
  ]

-- ---- a whole block

module _ (header : List ℕ) (read : List ℕ → Answer Rec) (b : List ℕ) (p k u : ℕ) (e : read_block_by header read b ≡ read_as p k u) where
  walk_headed : length b ≤ 65536 → 0 < length b → (t : Bool) → is_header header (line_of b 0) ≡ t → WalkedBlock header b p k u
  walk_headed low h false c = absurd (not_refused (sym (block_other header read b low h c) ∙ e))
  walk_headed low h true c =
      let x : BlockLine = record { kind = header_line; number = 0; end = line_end b 0; next = next_of b 0 } in
      let f : first_line header b ≡ x = first_is header b low h ∙ rw c in
      let r = next_range b 0 h in
      let l : drop 1 (lines_of b) ≡ lines_of (drop (next_of b 0) b) = ap (drop 1) (lines_past b 0 h) in
      let w = walk_from header read b low (length b) x (record { from = omega arith; to = omega arith; inside = r.1; few = r.0 }) 2 0 p k u (omega arith) (sym (block_lines header read b low h c) ∙ e) in
      record { first = ap (λ (y : BlockLine). y.kind) f; lines = rw (f, l) w.walk; rows = rw l (omega (arith, w.rows)); comments = rw l (omega (arith, w.comments)) }

  pub block_walked : WalkedBlock header b p k u
  block_walked = elim (lt_or_le 65536 (length b)) [
    | inl h ↦ absurd (not_refused (sym (block_long header read b h) ∙ e))
    | inr low ↦ elim (lt_or_le 0 (length b)) [
      | inl h ↦ walk_headed low h (is_header header (line_of b 0)) refl
      | inr h ↦ absurd (not_refused (sym (block_none header read b low h) ∙ e))
    ]
  ]
