-- Laws of a link's triple and version, and of its entry's bytes.
use Prim.Native.Nat.{ℕ, ◌+◌, ◌*◌, ◌-◌, ◌≤◌}
use mathlib.Core.Path.{◌≡◌, refl, sym, ◌∙◌, ap, ap₂, subst}
use mathlib.Core.Bool.{Bool, true, false}
use mathlib.Core.List.{List, ◌++◌}
use native.Mathlib.Omega.{arith}
use lib.ListN.{length, take, drop, get_or, replicate, length-append, length-replicate, length-drop, get_or-append}
use lib.Seq.{take_at, take_all, drop_at, take-append-le, drop-append-le}
use Rattle.columns.specs.Answer.{pick, Answer, ok, refusal}
use lib.Dec.{eqb}
use Rattle.columns.proofs.laws.Clear.{Clear, clear_take, clear_drop}
use Rattle.formats.specs.Link.{word, type_of}
use Rattle.formats.proofs.laws.Lines.{upto_front, upto_take}
use Rattle.formats.proofs.laws.Link.{type_word, type_append}
use Rattle.formats.proofs.laws.LinkFields.{LinkFields, link_fields}
use Rattle.formats.specs.Cube.{Message, read_line}
use Rattle.columns.specs.Bytes.{same_bytes}
use Rattle.columns.proofs.laws.Bytes.{same_is, same_self}
use Rattle.columns.proofs.laws.Word.{clear_bytes}
use Rattle.catalogue.specs.Line.{Kind, event, delete, blank, link, refused, kind_of, kind, Acceptable, pair, key_of, type_at, link_type, triple, triple_key, wide_version, link_entry, link_line, link_key, link_version}
use Rattle.catalogue.specs.Good.{is_link, link_ok}
use Rattle.formats.specs.Cube as cube
use Rattle.catalogue.proofs.laws.assoc.Tests.{and_both}
use Rattle.catalogue.proofs.laws.section.Types.{type_short, key_parts}
use Rattle.catalogue.proofs.laws.step.Line.{whole, pair_length, pair_clear}

-- a line is a link or not
pub data Link? (t : Kind) : Type 0 where
  yes : t ≡ link → Link? t
  no : (t ≡ link → ⊥) → Link? t

pub link? : (t : Kind) → Link? t
link? event = no (λ (e : event ≡ link). let z : ◌≡◌ {A = ℕ} 0 1 = cc in omega arith)
link? delete = no (λ (e : delete ≡ link). let z : ◌≡◌ {A = ℕ} 0 1 = cc in omega arith)
link? blank = no (λ (e : blank ≡ link). let z : ◌≡◌ {A = ℕ} 0 1 = cc in omega arith)
link? link = yes refl
link? refused = no (λ (e : refused ≡ link). let z : ◌≡◌ {A = ℕ} 0 1 = cc in omega arith)

pub link_ok_lem : (l : List ℕ) → kind l ≡ link → Acceptable l
link_ok_lem l e r = let z : ◌≡◌ {A = ℕ} 0 1 = cc in omega arith

-- what is read of an acceptable LI line
pub record WholeLink (l : List ℕ) : Type 0 where
  pub long : 20 ≤ length l
  pub short : length l ≤ 255
  pub type_clear : Clear false (link_type l)
  -- the type ends inside the line
  pub ended : (z : List ℕ) → link_type (l ++ z) ≡ link_type l

-- what was read of it
link_of_read : (l : List ℕ) (a : Answer Message) → read_line l ≡ a → kind_of a ≡ link → LinkFields l
link_of_read l (ok (cube.link names ty ad tx)) e k = link_fields l names ty ad tx e
link_of_read l (ok (cube.event ns t)) e k = let z : ◌≡◌ {A = ℕ} 0 1 = cc in absurd (omega arith)
link_of_read l (ok (cube.delete names t)) e k = by_test (eqb (get_or names 10 0) 32) k
  where
    by_test : (t : Bool) → pick t blank delete ≡ link → LinkFields l
    by_test true q = let z : ◌≡◌ {A = ℕ} 0 1 = cc in absurd (omega arith)
    by_test false q = let z : ◌≡◌ {A = ℕ} 0 1 = cc in absurd (omega arith)
link_of_read l (refusal n j) e k = let z : ◌≡◌ {A = ℕ} 0 1 = cc in absurd (omega arith)

-- of any line it is the first 16 bytes of the type that is read
type_front : (l : List ℕ) → link_type l ≡ take 16 (type_of l)
unfolding link_type type_at
type_front l = upto_front 32 16 (drop 15 l) ∙ ap (take 16) (type_word l)

module _ (l : List ℕ) (e : kind l ≡ link) where
  fields : LinkFields l
  unfolding kind
  fields = link_of_read l (read_line l) refl e

  -- a link's type is the type that was read of it
  pub link_type_lem : link_type l ≡ type_of l
  link_type_lem = type_front l ∙ take_all 16 (type_of l) fields.type_fits

  type_text : Clear false (type_of l)
  type_text = subst (Clear false) (upto_take 32 (drop 15 l) ∙ type_word l) (clear_take (length (word (drop 15 l))) (drop 15 l) (clear_drop 15 l fields.clear))

  pub link_whole : WholeLink l
  link_whole =
      let f = fields in
      record {
        long = f.long;
        short = f.short;
        type_clear = subst (Clear false) (sym link_type_lem) type_text;
        ended = λ (z : List ℕ). type_front (l ++ z) ∙ ap (take 16) (type_append l z (omega (arith, f.type_ends))) ∙ sym (type_front l);
      }

-- ---- a triple

module _ (l m : List ℕ) (a : kind l ≡ link) (b : kind m ≡ link) where
  pub triple_inj : triple_key l ≡ triple_key m → triple l ≡ triple m
  unfolding triple_key triple link_type
  triple_inj e =
      let u = whole l (link_ok_lem l a) in
      let w = whole m (link_ok_lem m b) in
      let p = key_parts (pair l) (pair m) (type_at 15 l) (type_at 15 m) (pair_length l u.long ∙ sym (pair_length m w.long)) (type_short 15 l) (type_short 15 m)
      (clear_bytes (pair_clear l u)) (clear_bytes (pair_clear m w)) (link_whole l a).type_clear (link_whole m b).type_clear e in
      ap₂ (λ (x y : List ℕ). x ++ y) p.0 p.1

-- the key of a triple's bytes
pub key_of_triple : List ℕ → ℕ
key_of_triple x = key_of (take 10 x) (drop 10 x)

pub triple_keyed : (l : List ℕ) → kind l ≡ link → triple_key l ≡ key_of_triple (triple l)
unfolding key_of_triple triple_key triple
triple_keyed l e =
    let n = pair_length l (whole l (link_ok_lem l e)).long in
    sym (ap₂ key_of (take_at (pair l) (link_type l) 10 n) (drop_at (pair l) (link_type l) 10 n))

-- ---- an entry

-- its line, cut out where its first byte says
pub line_cut : (e : List ℕ) {end : ℕ} → end ≡ 1 + get_or e 0 0 → take (end - 1) (drop 1 e) ≡ link_line e
unfolding link_line
line_cut e {end} p = let k : end - 1 ≡ get_or e 0 0 = omega arith in ap (λ (m : ℕ). take m (drop 1 e)) k

module _ (l : List ℕ) (w : WholeLink l) where
  abbrev rest : List ℕ
  rest = replicate (255 - length l) 0

  pub entry_length : length (link_entry l) ≡ 256
  unfolding link_entry
  entry_length = simp (length-append, length-replicate) (omega (arith, w.short))

  pub entry_line : link_line (link_entry l) ≡ l
  unfolding link_entry link_line
  entry_line = take_at l rest (length l) refl

  pair_front : pair (l ++ rest) ≡ pair l
  unfolding pair
  pair_front =
      ap₂ (λ (x y : List ℕ). x ++ y)
      (ap (take 2) (drop-append-le 10 l rest (omega (arith, w.long))) ∙ take-append-le 2 (drop 10 l) rest (omega (arith, w.long, length-drop 10 l)))
      (ap (take 8) (drop-append-le 2 l rest (omega (arith, w.long))) ∙ take-append-le 8 (drop 2 l) rest (omega (arith, w.long, length-drop 2 l)))

  pub entry_key : link_key (link_entry l) ≡ triple_key l
  unfolding link_entry link_key triple_key
  entry_key = ap₂ key_of pair_front (w.ended rest)

  pub entry_version : link_version (link_entry l) ≡ wide_version l
  unfolding link_entry link_version wide_version
  entry_version =
      ap₂ (λ (x y : ℕ). x * 256 + y) (get_or-append l rest 0 12 (omega (arith, w.long))) (get_or-append l rest 0 13 (omega (arith, w.long)))

-- an entry is as it should be where it is that of an acceptable LI line
link_of_lem : (t : Kind) → is_link t ≡ true → t ≡ link
unfolding is_link
link_of_lem event h = let z : ◌≡◌ {A = ℕ} 0 1 = cc in absurd (omega arith)
link_of_lem delete h = let z : ◌≡◌ {A = ℕ} 0 1 = cc in absurd (omega arith)
link_of_lem blank h = let z : ◌≡◌ {A = ℕ} 0 1 = cc in absurd (omega arith)
link_of_lem link h = refl
link_of_lem refused h = let z : ◌≡◌ {A = ℕ} 0 1 = cc in absurd (omega arith)

pub entry_ok : (l : List ℕ) → kind l ≡ link → link_ok (link_entry l) ≡ true
unfolding link_ok is_link
entry_ok l e = rw (entry_line l (link_whole l e), e) (same_self (link_entry l))

pub ok_entry : (e : List ℕ) → link_ok e ≡ true → (kind (link_line e) ≡ link) × (link_entry (link_line e) ≡ e)
unfolding link_ok
ok_entry e h =
    let r = and_both (is_link (kind (link_line e))) (same_bytes (link_entry (link_line e)) e) h in
    (link_of_lem (kind (link_line e)) r.0, same_is (link_entry (link_line e)) e r.1)

pub ok_wide : (e : List ℕ) → link_ok e ≡ true → length e ≡ 256
ok_wide e h = let r = ok_entry e h in ap length (sym r.1) ∙ entry_length (link_line e) (link_whole (link_line e) r.0)

-- equal entries are those of equal lines
pub entry_inj : (l m : List ℕ) → kind l ≡ link → kind m ≡ link → link_entry l ≡ link_entry m → l ≡ m
entry_inj l m a b e = sym (entry_line l (link_whole l a)) ∙ ap link_line e ∙ entry_line m (link_whole m b)
