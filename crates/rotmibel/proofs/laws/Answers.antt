-- From a reply to the one number that is returned.
use mathlib.Core.Path.{◌≡◌, sym, ap, ◌∙◌, subst}
use mathlib.Core.List.{List}
use mathlib.Core.Bool.{Bool, true, false}
use Prim.Native.Nat.{ℕ, ◌+◌, ◌*◌, ◌/◌, ◌%◌, ◌≤◌, ◌<◌}
use native.Mathlib.Omega.{arith}
use lib.Dec.{eqb}
use borrow.Author.Tests.{eq-eqb, ne_eqb}
use Rattle.columns.specs.Answer.{pick, Answer, ok, refusal}
use Rattle.columns.proofs.laws.Bounds.{column_of}
use Rattle.std.specs.Prelude.{Ok, Err}
use Rattle.formats.specs.Record.{Reply, reply_of, Replied}
use Rattle.formats.specs.BlockWriting.{from_place, RepliedFrom}
use Rattle.formats.specs.Block.{Block}
use Rattle.formats.specs.declared.block.Counts.{Counts}
use Rattle.formats.specs.declared.LineRefusal.{LineRefusal}
use Rattle.formats.proofs.laws.BlockBounds.{Small, SmallRead, SmallLine, first_small, next_small}
use Rattle.formats.specs.BlockWalk.{first_line, next_line}
use Rattle.formats.specs.declared.block_walk.BlockLine.{BlockLine}
use Rattle.formats.proofs.laws.CubeRecordBack.{size_of}
use Rattle.rotmibel.specs.Answers.{number_in, IsSmall, Answered, place_in, HasLowColumn, AnsweredFrom, line_number, line_in, IsSmallLine, met_by, met_line, run_answer, AnsweredRun, met_card}
use Rattle.formats.specs.Cards.{cards}
use Rattle.formats.specs.Run.{Run, RunRead}
use Rattle.formats.specs.RunWalk.{first_told, next_told}
use Rattle.formats.proofs.laws.RunBounds.{SmallRun}
use Rattle.formats.proofs.laws.Cards.{card_walk_first, card_walk_next}

pub answered : {a : Answer (List ℕ)} {r : Reply} {from to : List ℕ} (n : ℕ) → n ≡ number_in r → Replied a r from to → Answered a n from to
answered n e w = record { answer = e ∙ ap number_in w.answer; bytes = w.bytes }

-- a reply is small where the answer's bytes and column are few
pub few : {a : Answer (List ℕ)} {r : Reply} {from to : List ℕ} → Replied a r from to → size_of a < 1099511627776 → column_of a < 65536 → IsSmall r
few {a} {r} {from} {to} w h k = rw w.answer (by_answer a h k)
  where
    by_answer : (b : Answer (List ℕ)) → size_of b < 1099511627776 → column_of b < 65536 → IsSmall (reply_of b)
    by_answer (ok ys) p q = (p, q)
    by_answer (refusal m j) p q = (p, q)

-- ---- calls from a place

pub answered_from : {at : ℕ} {a : Answer (List ℕ)} {r : Reply} {from to : List ℕ} (n : ℕ) → n ≡ place_in r → RepliedFrom at a r from to → AnsweredFrom at a n from to
answered_from n e w = record { answer = e ∙ ap place_in w.answer; bytes = w.bytes }

pub low_from : {at : ℕ} {a : Answer (List ℕ)} {r : Reply} {from to : List ℕ} → RepliedFrom at a r from to → column_of a < 65536 → HasLowColumn r
low_from {at} {a} {r} {from} {to} w k = rw w.answer (by_answer a k)
  where
    by_answer : (b : Answer (List ℕ)) → column_of b < 65536 → HasLowColumn (from_place at (reply_of b))
    by_answer (ok ys) q = q
    by_answer (refusal m j) q = q

-- ---- the block's numbers fit their parts

pub read_number : (x : Block) (c : Counts) → x ≡ Ok c → Small x → SmallRead c.rows c.comments c.used
read_number x c e w = subst Small e w

pub refused_number : (x : Block) (r : LineRefusal) → x ≡ Err r → Small x → (r.column < 65536) × (r.line ≤ 65538)
refused_number x r e w = subst Small e w

pub line_small : (x y : BlockLine) → x ≡ y → SmallLine y → IsSmallLine x
line_small x y e w = let s : SmallLine x = subst SmallLine (sym e) w in (s.number, (s.end, s.next))

-- a line of a walk
module _ (first : BlockLine) (next : BlockLine → BlockLine) (before : ℕ) where
  met_small : SmallLine first → ((x : BlockLine) → SmallLine (next x)) → SmallLine (met_by first next before)
  met_small p q = by_test (eqb before 0)
    where
      by_test : (t : Bool) → SmallLine (pick t first (next (line_in before)))
      by_test true = p
      by_test false = q (line_in before)

  pub met_first : before ≡ 0 → first ≡ met_by first next before
  met_first e = sym (rw (eq-eqb before 0 e))

  pub met_next : (before ≡ 0 → ⊥) → next (line_in before) ≡ met_by first next before
  met_next n = sym (rw (ne_eqb before 0 n))

pub block_line_small : (header b : List ℕ) (before : ℕ) → SmallLine (met_line header b before)
block_line_small header b before = met_small (first_line header b) (next_line b) before (first_small header b) (next_small b)

pub card_line_small : (b : List ℕ) (before : ℕ) → SmallLine (met_card b before)
card_line_small b before = met_small (first_told cards b) (next_told cards b) before (card_walk_first b) (card_walk_next b)

-- ---- the numbers of a run of cards fit their parts

pub run_read_number : (x : Run) (e : ℕ) → x ≡ Ok e → SmallRun x → e < 65536
run_read_number x e q w = subst SmallRun q w

pub run_refused_number : (x : Run) (r : LineRefusal) → x ≡ Err r → SmallRun x → (r.column < 65536) × (r.line ≤ 65537)
run_refused_number x r q w = subst SmallRun q w

pub answered_run : {b : List ℕ} {x : Run} {from to : List ℕ} (n : ℕ) (r : Run) → RunRead cards b x from to → x ≡ r → n ≡ run_answer r → AnsweredRun b n from to
answered_run n r w e q = record { answer = q ∙ ap run_answer (sym e ∙ w.answer); bytes = w.bytes }

-- ---- a number that is handed back tells of the line that was answered

low_part : (r q : ℕ) → r < 256 → (r + 256 * q) % 256 ≡ r
low_part r q h = omega arith

high_part : (r q : ℕ) → r < 256 → (r + 256 * q) / 256 ≡ q
high_part r q h = omega arith

middle_part : (p q : ℕ) → p < 65536 → (p + 65536 * q) % 65536 ≡ p
middle_part p q h = omega arith

above_part : (r q : ℕ) → r < 16777216 → (r + 16777216 * q) / 16777216 ≡ q
above_part r q h = omega arith

end_part : (e n : ℕ) → e < 1048576 → (e + 1048576 * n) % 1048576 ≡ e
end_part e n h = omega arith

next_part : (r n : ℕ) → r < 17592186044416 → (r + 17592186044416 * n) / 17592186044416 ≡ n
next_part r n h = omega arith

line_back : (x : BlockLine) → SmallLine x → line_in (line_number x) ≡ x
line_back x s =
    let e : x.end < 1048576 = omega (arith, s.end) in
    let a : line_number x ≡ x.kind + 256 * (x.number + 65536 * (x.end + 1048576 * x.next)) = omega arith in
    let b : line_number x ≡ (x.kind + 256 * x.number) + 16777216 * (x.end + 1048576 * x.next) = omega arith in
    let c : line_number x ≡ (x.kind + 256 * x.number + 16777216 * x.end) + 17592186044416 * x.next = omega arith in
    let kind : line_number x % 256 ≡ x.kind = rw a (low_part x.kind (x.number + 65536 * (x.end + 1048576 * x.next)) s.kind) in
    let number : line_number x / 256 % 65536 ≡ x.number = rw (a, high_part x.kind (x.number + 65536 * (x.end + 1048576 * x.next)) s.kind) (middle_part x.number (x.end + 1048576 * x.next) s.number) in
    let end : line_number x / 16777216 % 1048576 ≡ x.end = rw (b, above_part (x.kind + 256 * x.number) (x.end + 1048576 * x.next) (omega (arith, s.kind, s.number))) (end_part x.end x.next e) in
    let next : line_number x / 17592186044416 ≡ x.next = rw (c, next_part (x.kind + 256 * x.number + 16777216 * x.end) x.next (omega (arith, s.kind, s.number, e))) in
    rw (kind, number, end, next)

-- so a walk by the numbers is the walk of the block, or of the run
pub handed_back : (first : BlockLine) (next : BlockLine → BlockLine) (x : BlockLine) → SmallLine x → 1 ≤ x.kind → met_by first next (line_number x) ≡ next x
handed_back first next x s h = sym (met_next first next (line_number x) (λ z. omega (arith, z, h))) ∙ ap next (line_back x s)
