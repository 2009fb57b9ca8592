-- The look-up by halving: a law for each of its answers, and what holds of it for any contents and in order.
use Prim.Native.Nat.{ℕ, zero, suc, ◌+◌, ◌*◌, ◌-◌, ◌^◌, ◌≤◌, ◌<◌, zero-le}
use mathlib.Core.Path.{◌≡◌, refl, sym, ◌∙◌, ap, ap₂, subst}
use mathlib.Core.Bool.{Bool, true, false}
use mathlib.Core.List.{List, [], ◌∷◌, ◌++◌}
use native.Mathlib.Omega.{arith}
use borrow.Author.Tests.{lt-ltb, le-ltb, eq-eqb, ne_eqb, ltb-true, ltb-false, eqb-true, eqb-false}
use lib.Dec.{ltb, eqb}
use lib.ListN.{length, take, drop, get_or, length-append}
use Rattle.columns.specs.Answer.{too_short, wrong_length}
use Rattle.columns.proofs.laws.Word.{Bytes}
use Rattle.catalogue.specs.declared.Searched.{Searched}
use Rattle.catalogue.specs.declared.section.Section.{Section}
use Rattle.std.specs.Prelude.{Option, Some, None, Result, Ok, Err}
use Rattle.columns.specs.declared.Reason.{Reason}
use Rattle.catalogue.specs.Answers.{not_in_order}
use Rattle.catalogue.specs.Line.{pair, key_of, key}
use Rattle.catalogue.specs.Section.{number}
use Rattle.catalogue.specs.Room.{room_size, contents}
use Rattle.catalogue.specs.Ordered.{Ordered}
use Rattle.catalogue.specs.Entries.{entries_of, key_of_entry, Inside}
use Rattle.catalogue.specs.Places.{held_in}
use Rattle.catalogue.specs.LookUp.{look_place, look_up, looked_in}
use Rattle.catalogue.specs.Halving.{middle, examine, halving, key_at, halve_in, SameAt, binary_digits, Stopped}
use Rattle.catalogue.specs.QuickLookUp.{held_count, quick_look_up, place_in, examined_in, FewExamined, held_key, ReadsNothingElse, AllBytes, ShowsThePair, AsFullLookUp, Searchable}
use Rattle.catalogue.proofs.laws.assoc.Tri.{le, gt, le?, eq, ne, eq?}
use Rattle.catalogue.proofs.laws.section.Rows.{entry_is, entry_length}
use Rattle.catalogue.proofs.laws.section.Types.{bytes_append, pair_of_key}
use Rattle.catalogue.proofs.laws.section.Halving.{met, missed, came, same_places, halve_few, half_fits, stop_empty, stop_met, stop_after, stop_before, halve_find}
use Rattle.catalogue.proofs.laws.step.Line.{pair_length}
use Rattle.catalogue.proofs.laws.room.Encode.{room_size_lem}
use Rattle.catalogue.proofs.laws.room.View.{view_good}
use Rattle.catalogue.proofs.laws.room.Places.{held_key_lem, held_rows, rows_counted, held_lies, few}
use Rattle.catalogue.proofs.laws.room.LookUp.{look_source, look_identifier, look_pair}

-- the count of the held lines, in order or not
pub held_number : (r : List ℕ) → length (contents r).held ≡ held_count r
unfolding number
held_number r = sym (rows_counted r)

pub held_total : (r : List ℕ) → (held_in r).count ≡ held_count r
unfolding number
held_total r = refl

-- ---- a turn of the code's search

module _ {r : List ℕ} {first end l : ℕ} (w : Searchable r first end l) where
  pub search_empty : (k : ℕ) → end ≤ first → Stopped (halving (held_key r) k (end - first) first end) 512 l l
  search_empty k h = stop_empty (held_key r) k l first end h

  module _ (h : first < end) where
    fits : (0 < l) × (end - (middle first end + 1) < 2 ^ (l - 1)) × (middle first end - first < 2 ^ (l - 1))
    fits = half_fits l first end h w.enough

    pub one_left : 0 < l
    one_left = fits.0

    -- the middle is a held line, and either half can be searched with one less
    pub middle_held : {of : Section} → of ≡ held_in r → Inside of r × (middle first end < of.count)
    unfolding number
    middle_held e = rw e (w.inside, omega (arith, w.within))

    pub half_after : Searchable r (middle first end + 1) end (l - 1)
    half_after = record { inside = w.inside; within = w.within; low = w.low; enough = fits.1 }

    pub half_before : Searchable r first (middle first end) (l - 1)
    half_before = record { inside = w.inside; within = omega (arith, w.within); low = omega (arith, w.low); enough = fits.2 }

    -- the key at the middle as the code reads it, and what it comes to
    module _ {of : Section} (e : of ≡ held_in r) {n : ℕ} (q : n ≡ key_of_entry of (get_or (entries_of of r) (middle first end) [])) where
      key_is : n ≡ held_key r (middle first end)
      key_is =
          q ∙ ap (λ (x : Section). key_of_entry x (get_or (entries_of x r) (middle first end) [])) e
          ∙ ap₂ (λ (f : List ℕ → ℕ) (xs : List (List ℕ)). f (get_or xs (middle first end) [])) (held_key_lem r) (held_rows r)

      module _ (k : ℕ) {t : Bool} (p : t ≡ eqb n k) where
        pub search_met : t ≡ true → Stopped (halving (held_key r) k (end - first) first end) (middle first end) l (l - 1)
        search_met b = stop_met (held_key r) k l first end h one_left (sym key_is ∙ eqb-true n k (sym p ∙ b))

        module _ (b : t ≡ false) where
          other : held_key r (middle first end) ≡ k → ⊥
          other a = eqb-false n k (sym p ∙ b) (key_is ∙ a)

          module _ {u : Bool} (s : u ≡ ltb n k) {place left : ℕ} where
            pub search_after : u ≡ true → Stopped (halving (held_key r) k (end - (middle first end + 1)) (middle first end + 1) end) place (l - 1) left
                → Stopped (halving (held_key r) k (end - first) first end) place l left
            search_after a = stop_after (held_key r) k l first end h one_left other (omega (arith, key_is, ltb-true n k (sym s ∙ a)))

            pub search_before : u ≡ false → Stopped (halving (held_key r) k (middle first end - first) first (middle first end)) place (l - 1) left
                → Stopped (halving (held_key r) k (end - first) first end) place l left
            search_before a = stop_before (held_key r) k l first end h one_left other (omega (arith, key_is, ltb-false n k (sym s ∙ a)))

module _ (r so id : List ℕ) where
  -- ---- a law for each answer, in the order of the checks

  pub quick_short : length r < room_size → Err too_short ≡ quick_look_up r so id
  unfolding quick_look_up
  quick_short h = rw (lt-ltb (length r) room_size h)

  module _ (long : room_size ≤ length r) where
    pub quick_disorder : 512 < held_count r → Err not_in_order ≡ quick_look_up r so id
    unfolding quick_look_up
    quick_disorder h = rw (le-ltb (length r) room_size long, lt-ltb 512 (held_count r) h)

    module _ (low : held_count r ≤ 512) where
      pub quick_source : (length so ≡ 2 → ⊥) → Err wrong_length ≡ quick_look_up r so id
      unfolding quick_look_up
      quick_source n = rw (le-ltb (length r) room_size long, le-ltb 512 (held_count r) low, ne_eqb (length so) 2 n)

      module _ (two_long : length so ≡ 2) where
        pub quick_identifier : (length id ≡ 8 → ⊥) → Err wrong_length ≡ quick_look_up r so id
        unfolding quick_look_up
        quick_identifier n = rw (le-ltb (length r) room_size long, le-ltb 512 (held_count r) low, eq-eqb (length so) 2 two_long, ne_eqb (length id) 8 n)

        pub quick_pair : length id ≡ 8 → Ok (halve_in key (contents r).held (key_of (so ++ id) [])) ≡ quick_look_up r so id
        unfolding quick_look_up
        quick_pair e = rw (le-ltb (length r) room_size long, le-ltb 512 (held_count r) low, eq-eqb (length so) 2 two_long, eq-eqb (length id) 8 e)

        -- as the code comes to it, by the count and the key that it read
        pub quick_searched : length id ≡ 8 → {x : Searched} {n k : ℕ} → n ≡ held_count r → k ≡ key_of (so ++ id) [] → x ≡ halving (held_key r) k n 0 n → Ok x ≡ quick_look_up r so id
        quick_searched e c q p = ap Ok (p ∙ ap₂ (λ (k n : ℕ). halving (held_key r) k n 0 n) q (c ∙ sym (held_number r))) ∙ quick_pair e

  -- what holds of each answer holds
  by_answer : (P : Result Searched Reason → Type 0) → ((n : Reason) → P (Err n))
      → (room_size ≤ length r → held_count r ≤ 512 → length so ≡ 2 → length id ≡ 8 → P (Ok (halve_in key (contents r).held (key_of (so ++ id) []))))
      → P (quick_look_up r so id)
  by_answer P refused found =
      elim (le? room_size (length r)) [
        | gt h ↦ subst P (quick_short h) (refused too_short)
        | le h ↦
            elim (le? (held_count r) 512) [
              | gt c ↦ subst P (quick_disorder h c) (refused not_in_order)
              | le c ↦
                  elim (eq? (length so) 2) [
                    | ne s ↦ subst P (quick_source h c s) (refused wrong_length)
                    | eq s ↦
                        elim (eq? (length id) 8) [
                          | ne i ↦ subst P (quick_identifier h c s i) (refused wrong_length)
                          | eq i ↦ subst P (quick_pair h c s i) (found h c s i)
                        ]
                  ]
            ]
      ]

-- ---- no more entries than the held count has binary digits

pub few_examined : FewExamined
few_examined r so id =
    by_answer r so id (λ (x : Result Searched Reason). examined_in x ≤ binary_digits (held_count r)) (λ n. zero-le)
    (λ h c s i.
    subst (λ (n : ℕ). (halve_in key (contents r).held (key_of (so ++ id) [])).examined ≤ binary_digits n) (held_number r)
    (halve_few (key_at key (contents r).held) (key_of (so ++ id) []) (length (contents r).held) (omega (arith, held_number r))))

-- an answer, with the bound
pub answered : (r so id : List ℕ) {x : Result Searched Reason} → x ≡ quick_look_up r so id → (x ≡ quick_look_up r so id) × (examined_in x ≤ binary_digits (held_count r))
answered r so id e = (e, subst (λ (y : Result Searched Reason). examined_in y ≤ binary_digits (held_count r)) (sym e) (few_examined r so id))

-- the place of an answer is that of a held line, or 0
pub quick_low : (r so id : List ℕ) → look_place (place_in (quick_look_up r so id)) ≤ 512
quick_low r so id =
    by_answer r so id (λ (x : Result Searched Reason). look_place (place_in x) ≤ 512) (λ n. zero-le)
    (λ h c s i.
    elim (came (held_key r) (key_of (so ++ id) []) (length (contents r).held) 0 (length (contents r).held)) [
      | met j n f t a ↦ rw n (omega (arith, held_number r))
      | missed n ↦ rw n (omega arith)
    ])

-- ---- nothing else is read

pub reads_nothing_else : ReadsNothingElse
unfolding quick_look_up
reads_nothing_else r o so id h l e s =
    let n : length (contents r).held ≡ length (contents o).held = held_number r ∙ e ∙ sym (held_number o) in
    let k : ℕ = key_of (so ++ id) [] in
    let same : halve_in key (contents r).held k ≡ halve_in key (contents o).held k =
    same_places k (held_key r) (held_key o) (length (contents r).held) 0 (length (contents r).held)
    (subst (λ (m : ℕ). SameAt (held_key r) (held_key o) (examine (held_key r) k m 0 m)) (sym (held_number r)) s)
    ∙ ap (λ (m : ℕ). halving (held_key o) k m 0 m) n in
    rw (le-ltb (length r) room_size h, le-ltb (length o) room_size l, e, same)

-- ---- a place that is answered shows the pair

place_same : {m j : ℕ} → ◌≡◌ {A = Result (Option ℕ) Reason} (Ok (Some m)) (Ok (Some j)) → m ≡ j
place_same {m} {j} e = ap look_place e

all_bytes : (s : List ℕ) → AllBytes s → Bytes s
all_bytes [] h = tt
all_bytes (x ∷ s) h = (h 0, all_bytes s (λ (i : ℕ). h (suc i)))

bytes_take : (n : ℕ) (s : List ℕ) → Bytes s → Bytes (take n s)
bytes_take zero s h = tt
bytes_take (suc n) [] h = tt
bytes_take (suc n) (x ∷ s) h = (h.0, bytes_take n s h.1)

bytes_drop : (n : ℕ) (s : List ℕ) → Bytes s → Bytes (drop n s)
bytes_drop zero s h = h
bytes_drop (suc n) [] h = tt
bytes_drop (suc n) (x ∷ s) h = bytes_drop n s h.1

pair_bytes : (l : List ℕ) → Bytes l → Bytes (pair l)
unfolding pair
pair_bytes l h = bytes_append (take 2 (drop 10 l)) (take 8 (drop 2 l)) (bytes_take 2 (drop 10 l) (bytes_drop 10 l h)) (bytes_take 8 (drop 2 l) (bytes_drop 2 l h))

module _ (r : List ℕ) (long : room_size ≤ length r) (low : held_count r ≤ 512) where
  pub low_inside : Inside (held_in r) r
  unfolding number
  low_inside = held_lies r (omega (arith, room_size_lem))

  module _ (i : ℕ) (h : i < held_count r) where
    line_is : get_or (contents r).held i [] ≡ take 80 (drop (2 + 80 * i) r)
    unfolding number
    line_is = ap (λ (xs : List (List ℕ)). get_or xs i []) (sym (held_rows r)) ∙ entry_is (held_in r) r i h

    line_bytes : Bytes r → Bytes (get_or (contents r).held i [])
    line_bytes b = subst Bytes (sym line_is) (bytes_take 80 (drop (2 + 80 * i) r) (bytes_drop (2 + 80 * i) r b))

    line_length : length (get_or (contents r).held i []) ≡ 80
    unfolding number
    line_length = ap (λ (xs : List (List ℕ)). length (get_or xs i [])) (sym (held_rows r)) ∙ entry_length (held_in r) r low_inside i h

pub shows_the_pair : ShowsThePair
unfolding key
shows_the_pair r so id b s i j =
    by_answer r so id (λ (x : Result Searched Reason). place_in x ≡ Ok (Some j) → (j < held_count r) × (pair (get_or (contents r).held j []) ≡ so ++ id))
    (λ n e. let z : ◌≡◌ {A = ℕ} 0 1 = cc in absurd (omega arith))
    (λ h c p q e.
    let xs : List (List ℕ) = (contents r).held in
    let k : ℕ = key_of (so ++ id) [] in
    elim (came (key_at key xs) k (length xs) 0 (length xs)) [
      | met m n f t a ↦
          let u : m ≡ j = place_same (rw n at e) in
          let l : j < held_count r = omega (arith, held_number r) in
          let y : List ℕ = get_or xs j [] in (
            l,
            pair_of_key (pair y) (so ++ id) (pair_length y (omega (arith, line_length r h c j l)) ∙ sym (length-append so id ∙ omega arith))
                (pair_bytes y (line_bytes r h c j l (all_bytes r b))) (bytes_append so id (all_bytes so s) (all_bytes id i)) (rw u at a),
          )
      | missed n ↦ let z : ◌≡◌ {A = ℕ} 0 1 = (let w : ◌≡◌ {A = Result (Option ℕ) Reason} (Ok None) (Ok (Some j)) = rw n at e in cc) in absurd (omega arith)
    ])

-- ---- in order it is the full look-up

module _ (r so id : List ℕ) (o : Ordered r) where
  low : held_count r ≤ 512
  unfolding number
  low = (few r o).0

  -- the full look-up's answer is that of a search, so it is the answer of the look-up by halving
  as_full : {x : Result Searched Reason} → x ≡ quick_look_up r so id → place_in x ≡ look_up r so id → place_in (quick_look_up r so id) ≡ look_up r so id
  as_full e p = subst (λ (x : Result Searched Reason). place_in x ≡ look_up r so id) e p

  full_pair : length so ≡ 2 → length id ≡ 8
      → Ok (halve_in key (contents r).held (key_of (so ++ id) [])).place ≡ look_up r so id
  unfolding looked_in
  full_pair s i = ap Ok (halve_find key (key_of (so ++ id) []) (contents r).held (view_good r o).held_ascends) ∙ look_pair r so id o s i refl

pub as_full_look_up : AsFullLookUp
as_full_look_up r so id o =
    elim (eq? (length so) 2) [
      | ne s ↦ as_full r so id o (quick_source r so id o.long (low r so id o) s) (look_source r so id o s)
      | eq s ↦
          elim (eq? (length id) 8) [
            | ne i ↦ as_full r so id o (quick_identifier r so id o.long (low r so id o) s i) (look_identifier r so id o s i)
            | eq i ↦ as_full r so id o (quick_pair r so id o.long (low r so id o) s i) (full_pair r so id o s i)
          ]
    ]
