-- Laws of the line at a place: the place after it and the lines from there on; what the reader of lines answers.
use Prim.Native.Nat.{ℕ, ◌+◌, ◌-◌, ◌≤◌, ◌<◌}
use mathlib.Core.Path.{◌≡◌, sym, ap, ◌∙◌}
use mathlib.Core.List.{List, ◌∷◌}
use mathlib.Core.Logic.{◌⊎◌, inl, inr}
use native.Mathlib.Omega.{arith}
use lib.Dec.{ltb}
use lib.ListN.{length, take, drop, length-drop}
use lib.Seq.{length-take-le}
use borrow.Author.Tests.{le-leb, lt-leb, lt-ltb, le-ltb}
use Rattle.columns.specs.Answer.{pick}
use Rattle.formats.specs.Lines.{lines_of, line_end}
use Rattle.formats.specs.Block.{with_newline}
use Rattle.formats.specs.BlockReader.{line_of, next_of, past_newline, line_at}
use Rattle.formats.proofs.laws.Lines.{lt_or_le, lines_next, lines_none, line_end_from, line_end_to}
use Rattle.formats.specs.declared.block_reader.Line.{Line}
use Rattle.std.specs.Prelude.{Option, None, Some}

-- ---- the place after a line

pub past_newline_lem : (b : List ℕ) (e : ℕ) → e < length b → past_newline b e ≡ e + 1
past_newline_lem b e h = rw (lt-ltb e (length b) h)

pub past_end : (b : List ℕ) (e : ℕ) → length b ≤ e → past_newline b e ≡ e
past_end b e h = rw (le-ltb e (length b) h)

module _ (b : List ℕ) (at : ℕ) (h : at < length b) where
  line_length : length (line_of b at) ≡ line_end b at - at
  line_length = length-take-le (line_end b at - at) (drop at b) (omega (arith, length-drop at b, line_end_to b at (omega (arith, h)), line_end_from b at))

  -- the place after the line, counted with its newline
  pub after_line : at + with_newline (line_of b at) ≡ line_end b at + 1
  after_line = omega (arith, line_length, line_end_from b at)

  next_lines : (line_end b at < length b) ⊎ (length b ≤ line_end b at) → lines_of (drop (line_end b at + 1) b) ≡ lines_of (drop (next_of b at) b)
  next_lines (inl p) = ap (λ (x : ℕ). lines_of (drop x b)) (sym (past_newline_lem b (line_end b at) p))
  next_lines (inr p) = lines_none b (line_end b at + 1) (omega (arith, p)) ∙ sym (lines_none b (line_end b at) p) ∙ ap (λ (x : ℕ). lines_of (drop x b)) (sym (past_end b (line_end b at) p))

  pub lines_past : lines_of (drop at b) ≡ line_of b at ∷ lines_of (drop (next_of b at) b)
  lines_past = lines_next b at h ∙ ap (λ (ls : List (List ℕ)). line_of b at ∷ ls) (next_lines (lt_or_le (line_end b at) (length b)))

  next_in : (line_end b at < length b) ⊎ (length b ≤ line_end b at) → (at < next_of b at) × (next_of b at ≤ length b)
  next_in (inl p) = (omega (arith, past_newline_lem b (line_end b at) p, p, line_end_from b at), omega (arith, past_newline_lem b (line_end b at) p, p))
  next_in (inr p) = (omega (arith, past_end b (line_end b at) p, p, h), omega (arith, past_end b (line_end b at) p, line_end_to b at (omega (arith, h))))

  pub next_range : (at < next_of b at) × (next_of b at ≤ length b)
  next_range = next_in (lt_or_le (line_end b at) (length b))

  -- the newline that a last line lacks is not counted
  pub used_next : (line_end b at < length b) ⊎ (length b ≤ line_end b at) → pick (ltb (length b) (line_end b at + 1)) (length b) (line_end b at + 1) ≡ next_of b at
  used_next (inl p) = rw (le-ltb (length b) (line_end b at + 1) (omega (arith, p)), past_newline_lem b (line_end b at) p)
  used_next (inr p) = rw (lt-ltb (length b) (line_end b at + 1) (omega (arith, p)), past_end b (line_end b at) p) (omega (arith, p, line_end_to b at (omega (arith, h))))

-- ---- what the reader of lines answers

pub record FoundAt (b : List ℕ) (at start end next : ℕ) : Type 0 where
  pub inside : at < length b
  pub starts : start ≡ at
  pub ends : end ≡ line_end b at
  pub after : next ≡ next_of b at

found_by : (b : List ℕ) (at : ℕ) (f : Line) → (at < length b) ⊎ (length b ≤ at) → Some f ≡ line_at b at → FoundAt b at f.start f.end f.next
found_by b at f (inl p) e =
    let s : Some f ≡ Some (record { start = at; end = line_end b at; next = next_of b at }) = e ∙ rw (lt-leb (length b) at p) in
    let q : f ≡ record { start = at; end = line_end b at; next = next_of b at } = cc in
    record { inside = p; starts = rw q; ends = rw q; after = rw q }
found_by b at f (inr p) e =
    let n : Some f ≡ None = e ∙ rw (le-leb (length b) at p) in
    let z : ◌≡◌ {A = ℕ} 0 1 = cc in let y : ⊥ = omega arith in absurd y

-- a line is found within the block
pub found_at : (b : List ℕ) (at : ℕ) {f : Line} → Some f ≡ line_at b at → FoundAt b at f.start f.end f.next
found_at b at {f} = found_by b at f (lt_or_le at (length b))

end_by : (b : List ℕ) (at : ℕ) → (at < length b) ⊎ (length b ≤ at) → None ≡ line_at b at → length b ≤ at
end_by b at (inl p) e =
    let n : ◌≡◌ {A = Option Line} None (Some (record { start = at; end = line_end b at; next = next_of b at })) = e ∙ rw (lt-leb (length b) at p) in
    let z : ◌≡◌ {A = ℕ} 0 1 = cc in let y : ⊥ = omega arith in absurd y
end_by b at (inr p) e = p

-- none is found at its end
pub end_at : (b : List ℕ) (at : ℕ) → None ≡ line_at b at → length b ≤ at
end_at b at = end_by b at (lt_or_le at (length b))

module _ {b : List ℕ} {at start end next : ℕ} (f : FoundAt b at start end next) where
  pub line_is : take (end - start) (drop start b) ≡ line_of b at
  line_is = rw (f.starts, f.ends)

  pub next_after : (at < next) × (next ≤ length b)
  next_after = let r = next_range b at f.inside in (omega (arith, f.after, r.0), omega (arith, f.after, r.1))
