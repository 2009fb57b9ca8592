-- Laws of a desk: lines by their ends, how many are refused, a loop's turn over the ends, and what two desks leave.
use Prim.Native.Nat.{ℕ, suc, ◌+◌, ◌-◌, ◌≤◌, ◌<◌}
use mathlib.Core.Path.{◌≡◌, refl, sym, ◌∙◌, ap, ap₂}
use mathlib.Core.Logic.{inl, inr}
use mathlib.Core.Bool.{Bool, true, false}
use Rattle.std.specs.Prelude.{is_err}
use mathlib.Core.List.{List, [], ◌∷◌, ◌++◌, append_assoc}
use native.Mathlib.Omega.{arith}
use native.Mathlib.Numerals.{add-one}
use lib.Dec.{ltb, leb}
use lib.ListN.{length, take, drop, get_or, length-append}
use lib.Seq.{take_at, drop_at, drop-cons, drop-length}
use borrow.Author.Tests.{ltb-false, leb-true, le-ltb, le-leb}
use Rattle.columns.specs.Answer.{pick}
use Rattle.catalogue.specs.Answers.{Call}
use Rattle.catalogue.specs.declared.desk.Tally.{Tally}
use Rattle.catalogue.specs.Section.{flat}
use Rattle.catalogue.specs.Lists.{SameLines, Settled}
use Rattle.catalogue.specs.Room.{call_of, room_after, feed}
use Rattle.catalogue.specs.Ordered.{Ordered}
use Rattle.catalogue.specs.Demand.{zeroed}
use Rattle.catalogue.specs.Desk.{end_in, lines_from, lines_at, ends_from, refusals, Fed, Desks}
use Rattle.catalogue.proofs.laws.assoc.Tests.{pick_by}
use Rattle.catalogue.proofs.laws.room.Untouched.{room_idle, call_idle}
use Rattle.catalogue.proofs.laws.demand.Feed.{feed_idle}
use Rattle.catalogue.proofs.laws.demand.Demand.{demand_3}

-- ---- an end

module _ (n start end : ℕ) where
  -- it lies between the line's start and the last byte
  pub end_within : start ≤ n → (start ≤ end_in n start end) × (end_in n start end ≤ n)
  unfolding end_in
  end_within h =
      pick_by (λ (e : ℕ). (start ≤ e) × (e ≤ n)) (ltb end start) start (pick (leb end n) end n) (λ t. (omega arith, h))
      (λ t.
      pick_by (λ (e : ℕ). (start ≤ e) × (e ≤ n)) (leb end n) end n (λ u. (ltb-false end start t, leb-true end n u)) (λ u. (h, omega arith)))

  -- one that lies there is itself
  pub end_plain : start ≤ end → end ≤ n → end_in n start end ≡ end
  unfolding end_in
  end_plain h g = rw (le-ltb end start h, le-leb end n g)

-- ---- the lines

pub lines_length : (s : List ℕ) (start : ℕ) (es : List ℕ) → length (lines_from s start es) ≡ length es
unfolding lines_from
lines_length s start [] = refl
lines_length s start (e ∷ es) = ap suc (lines_length s (end_in (length s) start e) es)

-- every list of lines is the one that its bytes and its ends give
lines_past : (p : List ℕ) (n : ℕ) → length p ≡ n → (ls : List (List ℕ)) → lines_from (p ++ flat ls) n (ends_from n ls) ≡ ls
unfolding lines_from ends_from flat
lines_past p n h [] = refl
lines_past p n h (l ∷ ls) =
    let e : end_in (length (p ++ (l ++ flat ls))) n (n + length l) ≡ n + length l =
    end_plain (length (p ++ (l ++ flat ls))) n (n + length l) (omega arith) (simp length-append (omega arith)) in
    let m : n + length l - n ≡ length l = omega arith in
    let first : take (n + length l - n) (drop n (p ++ (l ++ flat ls))) ≡ l =
    ap₂ take m (drop_at p (l ++ flat ls) n h) ∙ take_at l (flat ls) (length l) refl in
    let rest : lines_from (p ++ (l ++ flat ls)) (n + length l) (ends_from (n + length l) ls) ≡ ls =
    rw (← append_assoc) (lines_past (p ++ l) (n + length l) (simp length-append (omega arith)) ls) in
    rw e (ap₂ (λ (x : List ℕ) (xs : List (List ℕ)). x ∷ xs) first rest)

pub lines_all : (ls : List (List ℕ)) → lines_at (flat ls) (ends_from 0 ls) ≡ ls
lines_all ls = lines_past [] 0 refl ls

-- ---- how many are refused

pub refusals_more : (room l : List ℕ) (ls : List (List ℕ)) (k : ℕ)
    → k + refusals room (l ∷ ls) ≡ pick (is_err (call_of room l)) (suc k) k + refusals (room_after room l) ls
unfolding refusals
refusals_more room l ls k = go (is_err (call_of room l))
  where
    go : (t : Bool) → k + pick t (suc (refusals (room_after room l) ls)) (refusals (room_after room l) ls) ≡ pick t (suc k) k + refusals (room_after room l) ls
    go true = omega arith
    go false = refl

-- all, where the room is too short or not in order
pub refusals_idle : (room : List ℕ) → (Ordered room → ⊥) → (ls : List (List ℕ)) → refusals room ls ≡ length ls
unfolding refusals
refusals_idle room out [] = refl
refusals_idle room out (l ∷ ls) =
    let h : is_err (call_of room l) ≡ true = elim (call_idle room out l) [ inl e ↦ rw e | inr e ↦ rw e ] in
    rw (h, room_idle room out l) (ap suc (refusals_idle room out ls))

-- ---- a loop over the ends

-- before the i-th end: what is left to take gives what the whole gives
pub record Feeding (before s es room : List ℕ) (start i refused : ℕ) : Type 0 where
  pub inside : start ≤ length s
  pub passed : i ≤ length es
  pub few : refused ≤ i
  pub as_long : length room ≡ length before
  pub room_left : feed room (lines_from s start (drop i es)) ≡ feed before (lines_at s es)
  pub refused_left : refused + refusals room (lines_from s start (drop i es)) ≡ refusals before (lines_at s es)

pub feeding_starts : (room s es : List ℕ) → Feeding room s es room 0 0 0
feeding_starts room s es =
    record { inside = omega arith; passed = omega arith; few = omega arith; as_long = refl; room_left = refl; refused_left = omega arith }

module _ {before s es room : List ℕ} {start i refused : ℕ} (F : Feeding before s es room start i refused) where
  pub feeding_within : {end : ℕ} → end ≡ end_in (length s) start (get_or es i 0) → (start ≤ end) × (end ≤ length s)
  feeding_within {end} e = rw e (end_within (length s) start (get_or es i 0) F.inside)

  pub feeding_turns : i < length es → {end : ℕ} → end ≡ end_in (length s) start (get_or es i 0) → {t : Call} → t ≡ call_of room (take (end - start) (drop start s))
      → {after : List ℕ} → after ≡ room_after room (take (end - start) (drop start s)) → length after ≡ length room
      → {more : ℕ} → more ≡ pick (is_err t) (suc refused) refused
      → Feeding before s es after end (i + 1) more
  unfolding feed lines_from
  feeding_turns h {end} e {t} n {after} a w {more} m =
      let r = feeding_within e in
      let ls : lines_from s start (drop i es) ≡ take (end - start) (drop start s) ∷ lines_from s end (drop (i + 1) es) = rw (e, add-one, drop-cons es i 0 h) in
      record {
        inside = omega arith;
        passed = omega arith;
        few = rw m (pick_by (λ (k : ℕ). k ≤ i + 1) (is_err t) (suc refused) refused (λ t. omega arith) (λ t. omega arith));
        as_long = w ∙ F.as_long;
        room_left = rw a (rw ls at F.room_left);
        refused_left = rw (m, n, a, ← refusals_more) (rw ls at F.refused_left);
      }

  pub feeding_ends : length es ≤ i → Fed before room (lines_at s es) (record { lines = length es; refused = refused })
  unfolding feed lines_from refusals
  feeding_ends h =
      let n : i ≡ length es = omega (arith, F.passed) in
      let e : drop i es ≡ [] = rw n (drop-length es) in
      let r : room ≡ feed before (lines_at s es) = rw e at F.room_left in
      let k : refused ≡ refusals before (lines_at s es) = omega (arith, rw e at F.refused_left) in
      let m : length es ≡ length (lines_at s es) = sym (lines_length s 0 es) in
      record { room_is = r; lines_are = m; refused_are = k; idle = λ out. (r ∙ feed_idle before out (lines_at s es), k ∙ refusals_idle before out (lines_at s es) ∙ sym m) }

-- ---- two desks

pub desks : {first second a b : List ℕ} {ls ms : List (List ℕ)} {t u : Tally} → Fed first a ls t → Fed second b ms u
    → Desks first second ls ms a b (record { first = t; second = u })
desks {first} {second} {a} {b} {ls} {ms} f g = record {
  first_fed = f;
  second_fed = g;
  agree =
      λ (p q : List ℕ) (x : first ≡ zeroed p) (y : second ≡ zeroed q) (e : SameLines ls ms) (s : Settled ls).
      let d = demand_3 ls ms p q e s in (
        d.0,
        f.room_is ∙ ap (λ (r : List ℕ). feed r ls) x ∙ d.1.first,
        g.room_is ∙ ap (λ (r : List ℕ). feed r ms) y ∙ d.1.second,
        d.1.catalogue,
      );
}
