-- Laws of reading a block, over its header and the reader of its lines: what one line adds, and the lines from a place on.
use Rattle.std.specs.Prelude.{Ok, Err}
use Rattle.formats.specs.Refused.{refused_at}
use Rattle.formats.specs.Block.{read_as}
use Prim.Native.Nat.{ℕ, suc, ◌+◌, ◌-◌, ◌≤◌, ◌<◌}
use mathlib.Core.Path.{◌≡◌, refl, sym, ap, ◌∙◌}
use mathlib.Core.Bool.{Bool, true, false}
use mathlib.Core.List.{List, []}
use mathlib.Core.Logic.{◌⊎◌, inl, inr}
use native.Mathlib.Omega.{arith}
use lib.Dec.{ltb}
use lib.ListN.{length, take, drop}
use borrow.Author.Tests.{lt-ltb, le-ltb}
use Rattle.columns.specs.Answer.{pick, Answer, ok, refusal, wrong_length}
use Rattle.columns.specs.Column.{Rec}
use Rattle.formats.specs.Lines.{lines_of, line_end}
use Rattle.formats.specs.Block.{Kind, closing, comment, row, kind_of, is_header, read_comment, out_of_place, plus, on_line, with_newline, read_line, read_lines, read_headed, at_most, read_block_by}
use Rattle.formats.specs.BlockSteps.{counted, step_of}
use Rattle.formats.specs.BlockReader.{line_of, next_of}
use Rattle.formats.proofs.laws.Lines.{lt_or_le, lines_none}
use Rattle.formats.proofs.laws.BlockReader.{past_newline_lem, past_end, after_line, lines_past, used_next, FoundAt, line_is, next_after}
use Rattle.formats.specs.Block.{Block}
use Rattle.columns.specs.declared.Refusal.{Refusal}
use Rattle.std.specs.Prelude.{Option, Some, None, Result}

-- what the code comes to at a line
abbrev Step : Type 0
Step = Result (Option (ℕ × ℕ)) Refusal

-- ---- adding to an answer

pub plus_plus : (p k u q j v : ℕ) (x : Block) → plus p k u (plus q j v x) ≡ plus (p + q) (k + j) (u + v) x
plus_plus p k u q j v (Ok x) =
    let d : p + (q + x.rows) ≡ p + q + x.rows = omega arith in
    let e : k + (j + x.comments) ≡ k + j + x.comments = omega arith in
    let f : u + (v + x.used) ≡ u + v + x.used = omega arith in
    rw (d, e, f)
plus_plus p k u q j v (Err e) = refl

-- no lines left: no more bytes are used than there are
capped : (size u : ℕ) → size ≤ u → pick (ltb size u) size u ≡ size
capped size u h = elim (lt_or_le size u) [ inl p ↦ rw (lt-ltb size u p) | inr p ↦ rw (le-ltb size u p) (omega (arith, p, h)) ]

module _ (header : List ℕ) (read : List ℕ → Answer Rec) where
  -- ---- a line of a kind, after p row lines, k comments and u bytes

  module _ (n u p k : ℕ) (l : List ℕ) (rest : Bool → Block) where
    abbrev told : Kind → Block
    told κ = plus p k u (read_line read κ n (ltb 0 p) l rest)

    -- what a step comes to
    abbrev stepped : Step → Block
    stepped (Err e) = refused_at e.reason e.column n
    stepped (Ok None) = read_as p k (u + with_newline l)
    stepped (Ok (Some (q, j))) = plus q j (u + with_newline l) (rest (ltb 0 q))

    -- a judged line, which adds i rows and m comments
    judged : {A : Type 0} (i m q j : ℕ) (s : Bool) (a : Answer A) → p + i ≡ q → k + m ≡ j → s ≡ ltb 0 q → plus p k u (on_line n a (plus i m (with_newline l) (rest s))) ≡ stepped (counted a q j)
    judged i m q j s (ok x) d e f = plus_plus p k u i m (with_newline l) (rest s) ∙ rw (d, e, f)
    judged i m q j s (refusal number column) d e f = refl

    kind_told : (κ : Kind) → told κ ≡ stepped (step_of read κ p k l)
    kind_told closing = let d : p + 0 ≡ p = omega arith in let e : k + 0 ≡ k = omega arith in rw (d, e)
    kind_told comment = judged 0 1 p (k + 1) (ltb 0 p) (read_comment (ltb 0 p) l) (omega arith) refl refl
    kind_told row = judged 1 0 (p + 1) k true (read l) refl (omega arith) (sym (lt-ltb 0 (p + 1) (omega arith)))

  -- ---- the lines from a place on

  none_capped : (size p k u n : ℕ) (s : Bool) (ls : List (List ℕ)) → ls ≡ [] → size ≤ u → at_most size (plus p k u (read_lines read n s ls)) ≡ read_as p k size
  unfolding read_lines
  none_capped size p k u n s ls e h =
      let a : p + 0 ≡ p = omega arith in
      let c : k + 0 ≡ k = omega arith in
      let d : u + 0 ≡ u = omega arith in
      rw (e, a, c, d, capped size u h)

  module _ (b : List ℕ) (at : ℕ) (h : at < length b) where
    next_capped : (line_end b at < length b) ⊎ (length b ≤ line_end b at) → (p k n : ℕ) (s : Bool)
        → at_most (length b) (plus p k (line_end b at + 1) (read_lines read n s (lines_of (drop (next_of b at) b)))) ≡ at_most (length b) (plus p k (next_of b at) (read_lines read n s (lines_of (drop (next_of b at) b))))
    next_capped (inl q) p k n s = rw (past_newline_lem b (line_end b at) q)
    next_capped (inr q) p k n s =
        let e : next_of b at ≡ line_end b at = past_end b (line_end b at) q in
        let none : lines_of (drop (next_of b at) b) ≡ [] = lines_none b (next_of b at) (omega (arith, e, q)) in
        none_capped (length b) p k (line_end b at + 1) n s (lines_of (drop (next_of b at) b)) none (omega (arith, q))
        ∙ sym (none_capped (length b) p k (next_of b at) n s (lines_of (drop (next_of b at) b)) none (omega (arith, e, q)))

  -- ---- a turn at a place: line `line`, after p row lines and k comments

  pub turn_end : (b : List ℕ) (at line p k : ℕ) (s : Bool) → at ≤ length b → length b ≤ at → at_most (length b) (plus p k at (read_lines read line s (lines_of (drop at b)))) ≡ read_as p k at
  turn_end b at line p k s h g =
      let e : length b ≡ at = omega (arith, h, g) in
      none_capped (length b) p k at line s (lines_of (drop at b)) (lines_none b at g) g ∙ ap (read_as p k) e

  module _ (b : List ℕ) (at : ℕ) (h : at < length b) (line p k : ℕ) where
    told_here : plus p k at (read_lines read line (ltb 0 p) (lines_of (drop at b))) ≡ told line at p k (line_of b at) (λ s. read_lines read (suc line) s (lines_of (drop (next_of b at) b))) (kind_of (line_of b at))
    unfolding read_lines
    told_here = rw (lines_past b at h)

    abbrev pub turned : Step → Block
    turned (Err e) = refused_at e.reason e.column line
    turned (Ok None) = read_as p k (next_of b at)
    turned (Ok (Some (q, j))) = at_most (length b) (plus q j (next_of b at) (read_lines read (line + 1) (ltb 0 q) (lines_of (drop (next_of b at) b))))

    pub turn : (s : Step) → step_of read (kind_of (line_of b at)) p k (line_of b at) ≡ s → at_most (length b) (plus p k at (read_lines read line (ltb 0 p) (lines_of (drop at b)))) ≡ turned s
    turn s e = ap (at_most (length b)) (told_here ∙ kind_told line at p k (line_of b at) rest (kind_of (line_of b at)) ∙ ap (stepped line at p k (line_of b at) rest) e) ∙ by_step s
      where
        rest : Bool → Block
        rest s = read_lines read (suc line) s (lines_of (drop (next_of b at) b))

        by_step : (s : Step) → at_most (length b) (stepped line at p k (line_of b at) rest s) ≡ turned s
        by_step (Err e) = refl
        by_step (Ok None) = ap (λ (u : ℕ). at_most (length b) (read_as p k u)) (after_line b at h) ∙ ap (read_as p k) (used_next b at h (lt_or_le (line_end b at) (length b)))
        by_step (Ok (Some (q, j))) =
            let m : suc line ≡ line + 1 = omega arith in
            ap (λ (u : ℕ). at_most (length b) (plus q j u (rest (ltb 0 q)))) (after_line b at h)
            ∙ next_capped b at h (lt_or_le (line_end b at) (length b)) q j (suc line) (ltb 0 q)
            ∙ ap (λ (i : ℕ). at_most (length b) (plus q j (next_of b at) (read_lines read i (ltb 0 q) (lines_of (drop (next_of b at) b))))) m

  -- ---- the first line

  pub block_long : (b : List ℕ) → 65536 < length b → read_block_by header read b ≡ refused_at wrong_length 0 0
  unfolding read_block_by
  block_long b h = rw (lt-ltb 65536 (length b) h)

  module _ (b : List ℕ) (low : length b ≤ 65536) where
    block_headed : read_block_by header read b ≡ at_most (length b) (read_headed header read (lines_of b))
    unfolding read_block_by
    block_headed = rw (le-ltb 65536 (length b) low)

    pub block_none : length b ≤ 0 → read_block_by header read b ≡ refused_at out_of_place 0 1
    unfolding read_headed
    block_none h = block_headed ∙ ap (λ (ls : List (List ℕ)). at_most (length b) (read_headed header read ls)) (lines_none b 0 h)

    module _ (h : 0 < length b) where
      first_read : read_block_by header read b ≡ at_most (length b) (pick (is_header header (line_of b 0)) (plus 0 0 (with_newline (line_of b 0)) (read_lines read 2 false (lines_of (drop (next_of b 0) b)))) (refused_at out_of_place 0 1))
      unfolding read_headed
      first_read = block_headed ∙ ap (λ (ls : List (List ℕ)). at_most (length b) (read_headed header read ls)) (lines_past b 0 h)

      pub block_other : is_header header (line_of b 0) ≡ false → read_block_by header read b ≡ refused_at out_of_place 0 1
      block_other e = first_read ∙ rw e

      pub block_lines : is_header header (line_of b 0) ≡ true → read_block_by header read b ≡ at_most (length b) (plus 0 0 (next_of b 0) (read_lines read 2 false (lines_of (drop (next_of b 0) b))))
      block_lines e =
          let w : with_newline (line_of b 0) ≡ line_end b 0 + 1 = omega (arith, after_line b 0 h) in
          first_read ∙ rw (e, w) (next_capped b 0 h (lt_or_le (line_end b 0) (length b)) 0 0 2 false)

  -- ---- the loop over the lines from a place on: at a place, with the next line's number and the counts so far

  pub record Reading (b : List ℕ) (from at line p k : ℕ) : Type 0 where
    pub inside : at ≤ length b
    pub lines : line ≤ at + 2
    pub rows : p ≤ at
    pub comments : k ≤ at
    pub same : at_most (length b) (plus 0 0 from (read_lines read 2 false (lines_of (drop from b)))) ≡ at_most (length b) (plus p k at (read_lines read line (ltb 0 p) (lines_of (drop at b))))

  abbrev rows_in : Step → ℕ
  rows_in (Ok (Some (q, j))) = q
  rows_in (Ok None) = 0
  rows_in (Err e) = 0

  abbrev comments_in : Step → ℕ
  comments_in (Ok (Some (q, j))) = j
  comments_in (Ok None) = 0
  comments_in (Err e) = 0

  counted_low : {A : Type 0} (a : Answer A) (p k q j : ℕ) → counted a p k ≡ Ok (Some (q, j)) → (q ≡ p) × (j ≡ k)
  counted_low (ok x) p k q j h = (sym (ap rows_in h), sym (ap comments_in h))
  counted_low (refusal m c) p k q j h = let z : ◌≡◌ {A = ℕ} 0 1 = cc in let y : ⊥ = omega arith in absurd y

  step_low : (κ : Kind) (p k : ℕ) (l : List ℕ) (q j : ℕ) → step_of read κ p k l ≡ Ok (Some (q, j)) → (q ≤ p + 1) × (j ≤ k + 1)
  step_low closing p k l q j h = let z : ◌≡◌ {A = ℕ} 0 1 = cc in let y : ⊥ = omega arith in absurd y
  step_low comment p k l q j h = let w = counted_low (read_comment (ltb 0 p) l) p (k + 1) q j h in (omega (arith, w.0), omega (arith, w.1))
  step_low row p k l q j h = let w = counted_low (read l) (p + 1) k q j h in (omega (arith, w.0), omega (arith, w.1))

  module _ {b : List ℕ} {from at line p k : ℕ} (r : Reading b from at line p k) where
    abbrev whole : Block
    whole = at_most (length b) (plus 0 0 from (read_lines read 2 false (lines_of (drop from b))))

    pub reading_end : length b ≤ at → read_as p k at ≡ whole
    reading_end h = sym (r.same ∙ turn_end b at line p k (ltb 0 p) r.inside h)

    module _ {start end next : ℕ} (f : FoundAt b at start end next) where
      abbrev line_here : List ℕ
      line_here = take (end - start) (drop start b)

      step_here : (s : Step) → s ≡ step_of read (kind_of line_here) p k line_here → step_of read (kind_of (line_of b at)) p k (line_of b at) ≡ s
      step_here s e = sym (e ∙ ap (λ (l : List ℕ). step_of read (kind_of l) p k l) (line_is f))

      module _ {s : Step} (e : s ≡ step_of read (kind_of line_here) p k line_here) where
        pub reading_refused : (e : Refusal) → s ≡ Err e → refused_at e.reason e.column line ≡ whole
        reading_refused x h = sym (r.same ∙ turn b at f.inside line p k (Err x) (step_here s e ∙ h))

        pub reading_closing : s ≡ Ok None → read_as p k next ≡ whole
        reading_closing h = ap (read_as p k) f.after ∙ sym (r.same ∙ turn b at f.inside line p k (Ok None) (step_here s e ∙ h))

        pub reading_next : (q j : ℕ) → s ≡ Ok (Some (q, j)) → Reading b from next (line + 1) q j
        reading_next q j h =
            let w = next_after f in
            let v = step_low (kind_of (line_of b at)) p k (line_of b at) q j (step_here s e ∙ h) in
            let a = r.lines in
            let c = r.rows in
            let d = r.comments in
            record {
              inside = w.1;
              lines = omega (arith, a, w.0);
              rows = omega (arith, c, v.0, w.0);
              comments = omega (arith, d, v.1, w.0);
              same =
                  r.same ∙ turn b at f.inside line p k (Ok (Some (q, j))) (step_here s e ∙ h)
                  ∙ ap (λ (x : ℕ). at_most (length b) (plus q j x (read_lines read (line + 1) (ltb 0 q) (lines_of (drop x b))))) (sym f.after);
            }

  -- ---- the first line, as the code comes to it

  module _ (b : List ℕ) (low : length b ≤ 65536) {start end next : ℕ} (f : FoundAt b 0 start end next) {t : Bool} (e : t ≡ is_header header (take (end - start) (drop start b))) where
    header_here : (u : Bool) → t ≡ u → is_header header (line_of b 0) ≡ u
    header_here u h = sym (ap (is_header header) (line_is f)) ∙ sym e ∙ h

    pub first_other : t ≡ false → refused_at out_of_place 0 1 ≡ read_block_by header read b
    first_other h = sym (block_other b low f.inside (header_here false h))

    pub first_lines : t ≡ true → at_most (length b) (plus 0 0 next (read_lines read 2 false (lines_of (drop next b)))) ≡ read_block_by header read b
    first_lines h =
        ap (λ (x : ℕ). at_most (length b) (plus 0 0 x (read_lines read 2 false (lines_of (drop x b))))) f.after ∙ sym (block_lines b low f.inside (header_here true h))
