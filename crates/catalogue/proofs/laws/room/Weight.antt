-- The entries of a room as the order check reads them: a deletion's bytes, a held line's weight, and the walk over the held lines.
use Rattle.std.proofs.Common.{Result, Option as Maybe, Some, None}
use Prim.Native.Nat.{ℕ, zero, suc, ◌+◌, ◌-◌, ◌≤◌, ◌<◌}
use mathlib.Core.Path.{◌≡◌, refl, sym, ◌∙◌, ap, ap₂}
use mathlib.Core.Bool.{Bool, true, false, ◌&&◌}
use mathlib.Core.List.{List, [], ◌∷◌, ◌++◌}
use mathlib.Core.Option.{Option, none, some}
use native.Mathlib.Numerals.{add-one}
use native.Mathlib.Omega.{arith}
use Rattle.catalogue.proofs.laws.assoc.Tests.{picked, unpicked}
use borrow.Author.Tests.{eq-eqb}
use lib.Dec.{ltb, eqb}
use lib.ListN.{length, take, drop, get_or, replicate, length-drop, take-append-drop, drop_of_length-le}
use lib.Seq.{drop-cons, take_all, length-take-le}
use Rattle.columns.specs.Answer.{pick, Answer, ok, refusal}
use Rattle.columns.specs.Bytes.{barred, same_bytes}
use Rattle.formats.specs.Cube.{Message, read_line}
use Rattle.formats.specs.Judge.{is_event_answer, is_event_line, is_link_answer, is_link_line}
use Rattle.formats.proofs.laws.Judge.{event_line_is, link_line_is}
use Rattle.catalogue.specs.declared.section.Section.{Section}
use Rattle.catalogue.specs.Line.{delete, blank, kind_of, kind, version, key, deletion_key, deletion_version, link_entry, link_line}
use Rattle.catalogue.specs.Assoc.{find, below, AscFrom}
use Rattle.catalogue.specs.Catalogue.{only_held}
use Rattle.catalogue.specs.Good.{every, is_event, above_deletion, held_ok, deletion_ok, is_link, link_ok}
use Rattle.catalogue.specs.Zeros.{all_zero}
use Rattle.catalogue.specs.Entries.{key_of_entry, entry_of, Sought}
use Rattle.catalogue.proofs.laws.section.Search.{asc_at, below_grows, every_more, every_stop, every_end}
use Rattle.catalogue.proofs.laws.section.Seek.{sought_find, sought_as}
use Rattle.catalogue.proofs.laws.step.Link.{line_cut}
use Rattle.catalogue.proofs.laws.step.Names.{only_cons, only_none, only_some}
use Rattle.catalogue.proofs.laws.room.Zeros.{zero_rest}
use Rattle.formats.specs.Cube as cube

-- ---- a line judged: whether it is an E line, whether it is a link

answers : (a : Answer Message) → (is_event_answer a ≡ is_event (kind_of a)) × (is_link_answer a ≡ is_link (kind_of a))
unfolding is_event is_link
answers (ok (cube.event ns t)) = (refl, refl)
answers (ok (cube.delete names t)) = by_test (eqb (get_or names 10 0) 32)
  where
    by_test : (t : Bool) → (false ≡ is_event (pick t blank delete)) × (false ≡ is_link (pick t blank delete))
    by_test true = (refl, refl)
    by_test false = (refl, refl)
answers (ok (cube.link names ty ad tx)) = (refl, refl)
answers (refusal n k) = (refl, refl)

event_line : (l : List ℕ) → is_event_line l ≡ is_event (kind l)
unfolding kind
event_line l = event_line_is l ∙ (answers (read_line l)).0

link_line_lem : (l : List ℕ) → is_link_line l ≡ is_link (kind l)
unfolding kind
link_line_lem l = link_line_is l ∙ (answers (read_line l)).1

-- ---- a deletion's bytes, judged where they stand

pub deletion_judged : (d : List ℕ) → length d ≡ 11 → {k : ℕ} → k ≡ barred 1 11 1 d → deletion_ok d ≡ eqb k 0
unfolding deletion_ok
deletion_judged d size judged = rw (eq-eqb (length d) 11 size, ← judged)

-- ---- a link's entry, judged where it stands

-- the line that its first byte says, and zeros after it
module _ (e : List ℕ) (n : length e ≡ 256) (b : get_or e 0 0 < 256) where
  abbrev size : ℕ
  size = get_or e 0 0

  line_long : length (take size (drop 1 e)) ≡ size
  line_long = length-take-le size (drop 1 e) (simp length-drop (omega arith))

  front : (size ∷ take size (drop 1 e)) ++ drop (suc size) e ≡ e
  front = go e n
    where
      go : (x : List ℕ) → length x ≡ 256 → (get_or x 0 0 ∷ take (get_or x 0 0) (drop 1 x)) ++ drop (suc (get_or x 0 0)) x ≡ x
      go [] h = absurd (omega arith)
      go (y ∷ ys) h = ap (λ (l : List ℕ). y ∷ l) (take-append-drop y ys)

  layout : same_bytes (link_entry (link_line e)) e ≡ all_zero (drop (suc size) e)
  unfolding link_entry link_line
  layout =
      let x : List ℕ = size ∷ take size (drop 1 e) in
      let l : length x ≡ suc size = ap suc line_long in
      let k : 255 - length (take size (drop 1 e)) ≡ length e - length x = omega (arith, line_long) in
      let f : x ++ drop (length x) e ≡ e = ap (λ (m : ℕ). x ++ drop m e) l ∙ front in
      ap₂ (λ (m j : ℕ). same_bytes (m ∷ (take size (drop 1 e) ++ replicate j 0)) e) line_long k ∙ zero_rest x e f ∙ ap (λ (m : ℕ). all_zero (drop m e)) l

  module _ {end : ℕ} (p : end ≡ 1 + size) where
    pub link_judged : {z : Bool} → z ≡ all_zero (take (length e - end) (drop end e)) → is_link_line (take (end - 1) (drop 1 e)) ≡ true → z ≡ link_ok e
    unfolding link_ok
    link_judged q t =
        let s : end ≡ suc size = omega arith in
        let a : take (length e - end) (drop end e) ≡ drop (suc size) e = take_all (length e - end) (drop end e) (simp length-drop (omega arith)) ∙ ap (λ (m : ℕ). drop m e) s in
        q ∙ ap all_zero a ∙ sym (ap (λ (l : List ℕ). is_link (kind l) && same_bytes (link_entry (link_line e)) e) (sym (line_cut e p)) ∙ rw (← link_line_lem (take (end - 1) (drop 1 e)), t) layout)

    pub link_misread : is_link_line (take (end - 1) (drop 1 e)) ≡ false → false ≡ link_ok e
    unfolding link_ok
    link_misread t = sym (ap (λ (l : List ℕ). is_link (kind l) && same_bytes (link_entry (link_line e)) e) (sym (line_cut e p)) ∙ rw (← link_line_lem (take (end - 1) (drop 1 e)), t))

-- ---- a held line's weight: none where it is refused, else what it counts

abbrev pub weight_of : List (List ℕ) → List ℕ → Maybe ℕ
weight_of D x = pick (held_ok D x) (Some (length (only_held D (x ∷ [])))) None

-- that of an E line, by its pair's deletion
abbrev pub weight_by : Option (List ℕ) → ℕ → Maybe ℕ
weight_by none v = Some 1
weight_by (some d) v = pick (ltb (get_or d 10 0) v) (Some 0) None

weighed : (D : List (List ℕ)) (x : List ℕ) → is_event_line x ≡ true → (o : Option (List ℕ)) → find deletion_key (key x) D ≡ o → weight_of D x ≡ weight_by o (get_or x 12 0)
unfolding held_ok above_deletion version deletion_version only_held
weighed D x e none f = rw (sym (event_line x) ∙ e, only_none D x [] f, f)
weighed D x e (some d) f = rw (sym (event_line x) ∙ e, only_some D x [] d f, f)

module _ (held deletions : Section) (kh : key_of_entry held ≡ key) (kd : key_of_entry deletions ≡ deletion_key) (H D : List (List ℕ)) where
  pub deletion_asc_keyed : AscFrom deletion_key 0 D → AscFrom (key_of_entry deletions) 0 D
  deletion_asc_keyed a = rw kd a

  module _ (i : ℕ) {k : ℕ} (keyed : k ≡ key_of_entry held (get_or H i [])) where
    key_is : k ≡ key (get_or H i [])
    key_is = keyed ∙ ap (λ (f : List ℕ → ℕ). f (get_or H i [])) kh

    -- the line's place among the deletions, as the code has it
    pub place_keyed : below (key_of_entry deletions) k D ≡ below deletion_key (key (get_or H i [])) D
    place_keyed = ap₂ (λ (f : List ℕ → ℕ) (n : ℕ). below f n D) kd key_is

    -- its weight, by what the search said
    pub held_weighed : AscFrom deletion_key 0 D → is_event_line (get_or H i []) ≡ true → (r : Result ℕ ℕ) → Sought (key_of_entry deletions) k D r
        → weight_of D (get_or H i []) ≡ weight_by (entry_of D r) (get_or (get_or H i []) 12 0)
    held_weighed asc e r q =
        weighed D (get_or H i []) e (entry_of D r)
        (sought_find deletion_key (key (get_or H i [])) D asc r
        (sought_as (key_of_entry deletions) deletion_key k (key (get_or H i [])) D D r kd key_is refl q))

pub weight_refused : (D : List (List ℕ)) (x : List ℕ) → is_event_line x ≡ false → weight_of D x ≡ None
unfolding held_ok
weight_refused D x e = rw (sym (event_line x) ∙ e)

-- ---- the walk over the held lines

-- the next key of an ascending list is above
asc_next : (key : List ℕ → ℕ) (xs : List (List ℕ)) (b i : ℕ) → AscFrom key b xs → suc i < length xs → key (get_or xs i []) < key (get_or xs (suc i) [])
asc_next key [] b i a h = absurd (omega arith)
asc_next key (x ∷ xs) b zero a h = asc_at key xs (suc (key x)) 0 a.1 (omega arith)
asc_next key (x ∷ xs) b (suc i) a h = asc_next key xs (suc (key x)) i a.1 (omega arith)

-- the first i held lines are fine, k of them have no deletion, and the first j deletions are before the next line's key
pub record Walk (D H : List (List ℕ)) (k i j : ℕ) : Type 0 where
  pub within : i ≤ length H
  pub few : k ≤ i
  pub fine : every (held_ok D) H ≡ every (held_ok D) (drop i H)
  pub counted : k + length (only_held D (drop i H)) ≡ length (only_held D H)
  pub passed : i < length H → j ≤ below deletion_key (key (get_or H i [])) D

pub walk_start : (D H : List (List ℕ)) → Walk D H 0 0 0
walk_start D H = record { within = omega arith; few = omega arith; fine = refl; counted = omega arith; passed = λ (h : 0 < length H). omega arith }

module _ {D H : List (List ℕ)} {k i j : ℕ} (w : Walk D H k i j) where
  pub walk_end : length H ≤ i → Some k ≡ pick (every (held_ok D) H) (Some (length (only_held D H))) None
  unfolding only_held
  walk_end h =
      let e : k ≡ length (only_held D H) = omega (arith, simp (drop_of_length-le H {i = i} h) at w.counted) in
      ap (λ (n : ℕ). Some n) e ∙ sym (rw (w.fine ∙ every_end (held_ok D) H i h))

  module _ (h : i < length H) where
    pub walk_stop : None ≡ weight_of D (get_or H i []) → None ≡ pick (every (held_ok D) H) (Some (length (only_held D H))) None
    walk_stop weight =
        let f : held_ok D (get_or H i []) ≡ false = unpicked (held_ok D (get_or H i [])) None weight (λ u v. cc) in
        sym (rw (w.fine ∙ every_stop (held_ok D) H i h f))

    pub walk_more : AscFrom key 0 H → {t : ℕ} → Some t ≡ weight_of D (get_or H i []) → t ≤ 1 → {n : ℕ} → n ≡ below deletion_key (key (get_or H i [])) D → Walk D H (k + t) (i + 1) n
    walk_more asc {t} weight low e =
        let f : (held_ok D (get_or H i []) ≡ true) × (Some t ≡ Some (length (only_held D (get_or H i [] ∷ [])))) = picked (held_ok D (get_or H i [])) weight (λ u. cc) in
        let g : t ≡ length (only_held D (get_or H i [] ∷ [])) = cc (f.1) in
        let d : drop i H ≡ get_or H i [] ∷ drop (i + 1) H = rw (add-one, drop-cons H i [] h) in
        record {
          within = omega arith;
          few = omega (arith, w.few);
          fine = w.fine ∙ every_more (held_ok D) H i h f.0;
          counted = omega (arith, w.counted, g, ap (λ (l : List (List ℕ)). length (only_held D l)) d, only_cons D (get_or H i []) (drop (i + 1) H));
          passed = λ (g : i + 1 < length H). omega (arith, below_grows deletion_key D (key (get_or H i [])) (key (get_or H (i + 1) [])) (rw add-one (omega (arith, asc_next key H 0 i asc (omega arith)))));
        }
