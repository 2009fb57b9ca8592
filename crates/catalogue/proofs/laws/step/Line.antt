-- Laws of a line's pair and version, and of a deletion's bytes.
use Prim.Native.Nat.{ℕ, ◌+◌, ◌≤◌, ◌<◌}
use mathlib.Core.Path.{◌≡◌, refl, sym, ◌∙◌, ap, subst}
use mathlib.Core.Bool.{Bool, true, false}
use mathlib.Core.List.{List, [], ◌∷◌, ◌++◌}
use native.Mathlib.Omega.{arith}
use lib.Dec.{eqb}
use lib.ListN.{length, take, drop, get_or, length-append, length-take, length-drop}
use lib.Seq.{take_at, get_or_at, drop-drop, take-take, take-add, drop-append_seam, drop-cons, length-take-le}
use borrow.Author.Tests.{le-leb, eq-eqb}
use Rattle.columns.specs.Answer.{pick, Answer, ok, refusal}
use Rattle.columns.specs.Bytes.{inside, barred}
use Rattle.columns.proofs.laws.Clear.{Clear, clear_take, clear_drop, clear_append, clear_none, none_clear}
use Rattle.formats.specs.Cube.{Message, read_line}
use Rattle.formats.proofs.laws.CubeFields.{line_fields}
use Rattle.columns.proofs.laws.Word.{clear_bytes}
use Rattle.catalogue.specs.Line.{event, delete, blank, refused, kind_of, kind, Acceptable, pair, version, key_of, key, deletion, deletion_key, deletion_version}
use Rattle.catalogue.specs.Good.{deletion_ok}
use Rattle.catalogue.proofs.laws.section.Types.{key_parts}
use Rattle.columns.proofs.laws.Clear as clear
use Rattle.formats.specs.Cube as cube

-- ---- an acceptable line

-- a line that is long enough to have a pair and a version, whose bytes are allowed there
pub record Whole (l : List ℕ) : Type 0 where
  pub long : 13 ≤ length l
  pub clear : Clear true (take 11 (drop 2 l))

-- a part of clear bytes
clear_part : (bars : Bool) (k m n : ℕ) (l : List ℕ) → k + m ≤ n → Clear bars (take n l) → Clear bars (take m (drop k l))
clear_part bars k m n l h c =
    let a : Clear bars (take (k + m) l) = subst (Clear bars) (take-take (k + m) n l h) (clear_take (k + m) (take n l) c) in
    let b : Clear bars (take k l ++ take m (drop k l)) = subst (Clear bars) (take-add k m l) a in
    subst (Clear bars) (drop-append_seam (take k l) (take m (drop k l))) (clear_drop (length (take k l)) (take k l ++ take m (drop k l)) b)

module _ (l : List ℕ) (w : Whole l) where
  pub pair_clear : Clear true (pair l)
  unfolding pair
  pair_clear =
      clear_append (subst (λ (s : List ℕ). Clear true (take 2 s)) (drop-drop 8 2 l) (clear_part true 8 2 11 (drop 2 l) (omega arith) w.clear))
      (clear_part true 0 8 11 (drop 2 l) (omega arith) w.clear)

  version_clear : Clear true (version l ∷ [])
  unfolding version
  version_clear =
      let e : take 1 (drop 12 l) ≡ get_or l 12 0 ∷ [] = ap (take 1) (drop-cons l 12 0 (omega (arith, w.long))) in
      subst (Clear true) e (subst (λ (s : List ℕ). Clear true (take 1 s)) (drop-drop 10 2 l) (clear_part true 10 1 11 (drop 2 l) (omega arith) w.clear))

inside_names : (i : ℕ) → 3 ≤ i → i < 3 + 11 → inside 3 13 i ≡ true
inside_names i a b = let k : i ≤ 13 = omega arith in rw (le-leb 3 i a, le-leb i 13 k)

-- an acceptable line was read
read_of : (l : List ℕ) (a : Answer Message) → read_line l ≡ a → (kind_of a ≡ refused → ⊥) → (m : Message) × (read_line l ≡ ok m)
read_of l (ok m) e h = (m, e)
read_of l (refusal n k) e h = absurd (h refl)

pub whole : (l : List ℕ) → Acceptable l → Whole l
unfolding kind
whole l h =
    let r = read_of l (read_line l) refl h in
    let f = line_fields l r.0 r.1 in
    let n : length (take 11 (drop 2 l)) ≡ 11 = length-take-le 11 (drop 2 l) (omega (arith, f.long, length-drop 2 l)) in
    record { long = f.long; clear = none_clear 3 13 true 3 (take 11 (drop 2 l)) (omega arith) (λ i a b. inside_names i a (omega (arith, n))) f.clear }

blank_or_delete : (t : Bool) → pick t blank delete ≡ event → ⊥
blank_or_delete true e = let z : ◌≡◌ {A = ℕ} 0 1 = cc in omega arith
blank_or_delete false e = let z : ◌≡◌ {A = ℕ} 0 1 = cc in omega arith

pub event_length : (l : List ℕ) → kind l ≡ event → length l ≡ 80
unfolding kind
event_length l h = by_read (read_line l) refl h
  where
    by_read : (a : Answer Message) → read_line l ≡ a → kind_of a ≡ event → length l ≡ 80
    by_read (ok (cube.event ns t)) e k = (line_fields l (cube.event ns t) e).shape
    by_read (ok (cube.delete names t)) e k = absurd (blank_or_delete (eqb (get_or names 10 0) 32) k)
    by_read (ok (cube.link names ty ad tx)) e k = let z : ◌≡◌ {A = ℕ} 0 1 = cc in absurd (omega arith)
    by_read (refusal n j) e k = let z : ◌≡◌ {A = ℕ} 0 1 = cc in absurd (omega arith)

pub event_ok : (l : List ℕ) → kind l ≡ event → Acceptable l
event_ok l e r = let z : ◌≡◌ {A = ℕ} 0 1 = cc in omega arith

pub delete_ok : (l : List ℕ) → kind l ≡ delete → Acceptable l
delete_ok l e r = let z : ◌≡◌ {A = ℕ} 0 1 = cc in omega arith

pub blank_ok : (l : List ℕ) → kind l ≡ blank → Acceptable l
blank_ok l e r = let z : ◌≡◌ {A = ℕ} 0 1 = cc in omega arith

-- ---- a deletion

pub pair_length : (l : List ℕ) → 13 ≤ length l → length (pair l) ≡ 10
unfolding pair
pair_length l h = simp (length-append, length-take, length-drop) (omega arith)

module _ (l : List ℕ) (v : ℕ) (long : 13 ≤ length l) where
  pub deletion_key_lem : deletion_key (deletion l v) ≡ key l
  unfolding deletion deletion_key key
  deletion_key_lem = ap (λ (p : List ℕ). key_of p []) (take_at (pair l) (v ∷ []) 10 (pair_length l long))

  pub deletion_version_lem : deletion_version (deletion l v) ≡ v
  unfolding deletion deletion_version
  deletion_version_lem = get_or_at (pair l) v [] 0 10 (pair_length l long)

  pub deletion_length : length (deletion l v) ≡ 11
  unfolding deletion
  deletion_length = simp length-append (omega (arith, pair_length l long))

deletion_clear : (l m : List ℕ) → Whole l → Whole m → Clear true (deletion l (version m))
unfolding deletion
deletion_clear l m u w = clear_append (pair_clear l u) (version_clear m w)

module _ (l m : List ℕ) (a : Acceptable l) (b : Acceptable m) where
  -- a deletion is of allowed bytes
  pub deletion_ok_lem : deletion_ok (deletion l (version m)) ≡ true
  unfolding deletion_ok
  deletion_ok_lem =
      let n : length (deletion l (version m)) ≡ 11 = deletion_length l (version m) (whole l a).long in
      let c : barred 1 11 1 (deletion l (version m)) ≡ 0 = clear_none 1 11 true 1 (λ i p q. inside_all i p (omega (arith, n))) (deletion_clear l m (whole l a) (whole m b)) in
      simp (eq-eqb (length (deletion l (version m))) 11 n, eq-eqb (barred 1 11 1 (deletion l (version m))) 0 c)
    where
      inside_all : (i : ℕ) → 1 ≤ i → i ≤ 11 → inside 1 11 i ≡ true
      inside_all i p q = rw (le-leb 1 i p, le-leb i 11 q)

  pub key_inj : key l ≡ key m → pair l ≡ pair m
  unfolding key
  key_inj e =
      let u = whole l a in
      let w = whole m b in
      (key_parts (pair l) (pair m) [] [] (pair_length l u.long ∙ sym (pair_length m w.long)) (omega arith) (omega arith) (clear_bytes (pair_clear l u)) (clear_bytes (pair_clear m w)) clear.none clear.none e).0

  pub deletion_eq : (v : ℕ) → key l ≡ key m → deletion l v ≡ deletion m v
  unfolding deletion
  deletion_eq v e = rw (key_inj e)
