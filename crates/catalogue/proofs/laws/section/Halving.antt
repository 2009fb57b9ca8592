-- The rule of halving, turn by turn: what it comes to, how many entries it examines, and what it finds in ascending keys.
use Prim.Native.Nat.{ℕ, zero, suc, ◌+◌, ◌-◌, ◌*◌, ◌^◌, ◌≤◌, ◌<◌, zero-le}
use mathlib.Core.Path.{◌≡◌, refl, sym, ◌∙◌, ap, subst}
use Rattle.std.specs.Prelude.{Option, Some, None, is_some}
use mathlib.Core.Bool.{true, false≢true}
use mathlib.Core.List.{List, [], ◌∷◌}
use mathlib.Core.Option.{none}
use native.Mathlib.Nat.{pow-suc}
use native.Mathlib.Omega.{arith}
use borrow.Author.Tests.{lt-ltb, le-ltb, eq-eqb, ne_eqb}
use lib.Count.{leading_length}
use lib.ListN.{length, get_or}
use Rattle.catalogue.specs.declared.Searched.{Searched}
use Rattle.catalogue.specs.Assoc.{find, below, AscFrom}
use Rattle.catalogue.specs.LookUp.{looked_by}
use Rattle.catalogue.specs.Halving.{middle, examine, looked_at, searched, searched_at, halving, key_at, halve_in, SameAt, binary_digits, place_or, Stopped}
use Rattle.catalogue.proofs.laws.assoc.Tri.{le, gt, le?, eq, ne, eq?}
use Rattle.catalogue.proofs.laws.assoc.Below.{below_less, below_not}
use Rattle.catalogue.proofs.laws.assoc.Place.{place_none, place_some}
use Rattle.catalogue.proofs.laws.section.Search.{below_low, below_high, asc_at}

-- an entry of the stretch that has the key, or none
pub data Came (at : ℕ → ℕ) (k first end : ℕ) (x : Searched) : Type 0 where
  met : (i : ℕ) → x.place ≡ Some i → first ≤ i → i < end → at i ≡ k → Came at k first end x
  missed : x.place ≡ None → Came at k first end x

-- one entry more was examined
abbrev pub more : Searched → Searched
more x = searched x.place (1 + x.examined)

module _ (at : ℕ → ℕ) (k : ℕ) where
  -- ---- an entry more

  met_at : (i : ℕ) → at i ≡ k → searched_at at k (i ∷ []) ≡ searched (Some i) 1
  unfolding looked_at
  met_at i q = rw (eq-eqb (at i) k q)

  more_at : (i : ℕ) (is : List ℕ) → (at i ≡ k → ⊥) → searched_at at k (i ∷ is) ≡ more (searched_at at k is)
  unfolding looked_at
  more_at i is q = let e : suc (length is) ≡ 1 + length is = omega arith in rw (ne_eqb (at i) k q, e)

  -- ---- one turn

  module _ (n first end : ℕ) where
    examine_none : end ≤ first → examine at k (suc n) first end ≡ []
    unfolding examine
    examine_none h = rw (le-ltb first end h)

    turn_empty : end ≤ first → halving at k (suc n) first end ≡ searched None 0
    unfolding looked_at
    turn_empty h = ap (searched_at at k) (examine_none h)

    module _ (h : first < end) where
      examine_met : at (middle first end) ≡ k → examine at k (suc n) first end ≡ middle first end ∷ []
      unfolding examine
      examine_met q = rw (lt-ltb first end h, eq-eqb (at (middle first end)) k q)

      turn_met : at (middle first end) ≡ k → halving at k (suc n) first end ≡ searched (Some (middle first end)) 1
      turn_met q = ap (searched_at at k) (examine_met q) ∙ met_at (middle first end) q

      module _ (q : at (middle first end) ≡ k → ⊥) where
        examine_after : at (middle first end) < k → examine at k (suc n) first end ≡ middle first end ∷ examine at k n (middle first end + 1) end
        unfolding examine
        examine_after l = rw (lt-ltb first end h, ne_eqb (at (middle first end)) k q, lt-ltb (at (middle first end)) k l)

        turn_after : at (middle first end) < k → halving at k (suc n) first end ≡ more (halving at k n (middle first end + 1) end)
        turn_after l = ap (searched_at at k) (examine_after l) ∙ more_at (middle first end) (examine at k n (middle first end + 1) end) q

        examine_before : k ≤ at (middle first end) → examine at k (suc n) first end ≡ middle first end ∷ examine at k n first (middle first end)
        unfolding examine
        examine_before l = rw (lt-ltb first end h, ne_eqb (at (middle first end)) k q, le-ltb (at (middle first end)) k l)

        turn_before : k ≤ at (middle first end) → halving at k (suc n) first end ≡ more (halving at k n first (middle first end))
        turn_before l = ap (searched_at at k) (examine_before l) ∙ more_at (middle first end) (examine at k n first (middle first end)) q

    -- what holds in each case of a turn holds
    by_turn : (P : Searched → Type 0) → (end ≤ first → P (searched None 0))
        → (first < end → at (middle first end) ≡ k → P (searched (Some (middle first end)) 1))
        → (first < end → (at (middle first end) ≡ k → ⊥) → at (middle first end) < k → P (more (halving at k n (middle first end + 1) end)))
        → (first < end → (at (middle first end) ≡ k → ⊥) → k ≤ at (middle first end) → P (more (halving at k n first (middle first end))))
        → P (halving at k (suc n) first end)
    by_turn P e m a b =
        elim (le? end first) [
          | le h ↦ subst P (sym (turn_empty h)) (e h)
          | gt h ↦
              elim (eq? (at (middle first end)) k) [
                | eq q ↦ subst P (sym (turn_met h q)) (m h q)
                | ne q ↦
                    elim (le? k (at (middle first end))) [
                      | le l ↦ subst P (sym (turn_before h q l)) (b h q l)
                      | gt l ↦ subst P (sym (turn_after h q l)) (a h q l)
                    ]
              ]
        ]

  -- ---- any two numbers of turns that suffice give the same

  pub turns_same : (n m first end : ℕ) → end - first ≤ n → end - first ≤ m → halving at k n first end ≡ halving at k m first end
  unfolding examine looked_at
  turns_same zero zero first end h i = refl
  turns_same zero (suc m) first end h i = sym (turn_empty m first end (omega arith))
  turns_same (suc n) zero first end h i = turn_empty n first end (omega arith)
  turns_same (suc n) (suc m) first end h i =
      by_turn n first end (λ (x : Searched). x ≡ halving at k (suc m) first end) (λ l. sym (turn_empty m first end l)) (λ l q. sym (turn_met m first end l q))
      (λ l q b. ap more (turns_same n m (middle first end + 1) end (omega arith) (omega arith)) ∙ sym (turn_after m first end l q b))
      (λ l q b. ap more (turns_same n m first (middle first end) (omega arith) (omega arith)) ∙ sym (turn_before m first end l q b))

  -- ---- the stretch by its length: what it comes to at each answer of the code

  module _ (first end : ℕ) where
    again : halving at k (end - first) first end ≡ halving at k (suc (end - first)) first end
    again = turns_same (end - first) (suc (end - first)) first end (omega arith) (omega arith)

    pub halve_empty : end ≤ first → halving at k (end - first) first end ≡ searched None 0
    halve_empty h = again ∙ turn_empty (end - first) first end h

    module _ (h : first < end) where
      pub halve_met : at (middle first end) ≡ k → halving at k (end - first) first end ≡ searched (Some (middle first end)) 1
      halve_met q = again ∙ turn_met (end - first) first end h q

      module _ (q : at (middle first end) ≡ k → ⊥) where
        pub halve_after : at (middle first end) < k
            → halving at k (end - first) first end ≡ more (halving at k (end - (middle first end + 1)) (middle first end + 1) end)
        halve_after l =
            again ∙ turn_after (end - first) first end h q l
            ∙ ap more (turns_same (end - first) (end - (middle first end + 1)) (middle first end + 1) end (omega arith) (omega arith))

        pub halve_before : k ≤ at (middle first end) → halving at k (end - first) first end ≡ more (halving at k (middle first end - first) first (middle first end))
        halve_before l =
            again ∙ turn_before (end - first) first end h q l
            ∙ ap more (turns_same (end - first) (middle first end - first) first (middle first end) (omega arith) (omega arith))

  -- ---- a stretch shorter than 2 ^ d takes at most d entries

  few : (d n first end : ℕ) → end - first < 2 ^ d → (halving at k n first end).examined ≤ d
  unfolding examine looked_at
  few d zero first end h = zero-le
  few zero (suc n) first end h = subst (λ (x : Searched). x.examined ≤ 0) (sym (turn_empty n first end (omega arith))) zero-le
  few (suc d) (suc n) first end h =
      let w : 2 ^ suc d ≡ 2 ^ d * 2 = pow-suc 2 d in
      by_turn n first end (λ (x : Searched). x.examined ≤ suc d) (λ l. zero-le) (λ l q. omega arith)
      (λ l q b. omega (arith, few d n (middle first end + 1) end (omega arith)))
      (λ l q b. omega (arith, few d n first (middle first end) (omega arith)))

  -- ---- what it comes to

  wider : {first end a b : ℕ} {x : Searched} → first ≤ a → b ≤ end → Came at k a b x → Came at k first end (more x)
  wider h i (met j n p q e) = met j n (omega arith) (omega arith) e
  wider h i (missed n) = missed n

  pub came : (n first end : ℕ) → Came at k first end (halving at k n first end)
  unfolding examine looked_at
  came zero first end = missed refl
  came (suc n) first end =
      by_turn n first end (λ (x : Searched). Came at k first end x) (λ l. missed refl) (λ l q. met (middle first end) refl (omega arith) (omega arith) q)
      (λ l q b. wider (omega arith) (omega arith) (came n (middle first end + 1) end))
      (λ l q b. wider (omega arith) (omega arith) (came n first (middle first end)))

-- ---- the places examined decide

module _ (k : ℕ) where
  -- keys that are the same at those places give the same
  pub same_places : (at to : ℕ → ℕ) (n first end : ℕ) → SameAt at to (examine at k n first end) → halving at k n first end ≡ halving to k n first end
  unfolding examine looked_at
  same_places at to zero first end s = refl
  same_places at to (suc n) first end s =
      elim (le? end first) [
        | le h ↦ turn_empty at k n first end h ∙ sym (turn_empty to k n first end h)
        | gt h ↦
            elim (eq? (at (middle first end)) k) [
              | eq q ↦
                  let t = subst (SameAt at to) (examine_met at k n first end h q) s in
                  turn_met at k n first end h q ∙ sym (turn_met to k n first end h (sym t.0 ∙ q))
              | ne q ↦
                  elim (le? k (at (middle first end))) [
                    | le l ↦
                        let t = subst (SameAt at to) (examine_before at k n first end h q l) s in
                        turn_before at k n first end h q l ∙ ap more (same_places at to n first (middle first end) t.1)
                        ∙ sym (turn_before to k n first end h (λ (e : to (middle first end) ≡ k). q (t.0 ∙ e)) (omega (arith, t.0)))
                    | gt l ↦
                        let t = subst (SameAt at to) (examine_after at k n first end h q l) s in
                        turn_after at k n first end h q l ∙ ap more (same_places at to n (middle first end + 1) end t.1)
                        ∙ sym (turn_after to k n first end h (λ (e : to (middle first end) ≡ k). q (t.0 ∙ e)) (omega (arith, t.0)))
                  ]
            ]
      ]

-- ---- binary digits: a number is below 2 to the power of their number, and no fewer would do

pub digits_hold : (n : ℕ) → n < 2 ^ 64 → (n < 2 ^ binary_digits n) × (2 ^ binary_digits n ≤ 2 * n + 1)
digits_hold n h =
    let l = leading_length 64 n h in
    let e : l.0 ≡ binary_digits n = omega (arith, l.1) in
    (subst (λ (m : ℕ). n < 2 ^ m) e l.2, subst (λ (m : ℕ). 2 ^ m ≤ 2 * n + 1) e l.3)

pub halve_few : (at : ℕ → ℕ) (k n : ℕ) → n < 2 ^ 64 → (halving at k n 0 n).examined ≤ binary_digits n
halve_few at k n h = few at k (binary_digits n) n 0 n (omega (arith, (digits_hold n h).0))

-- ---- as the code comes to it: l entries may still be examined, enough for the stretch

-- a stretch that is not empty leaves one, and enough for either half
pub half_fits : (l first end : ℕ) → first < end → end - first < 2 ^ l
    → (0 < l) × (end - (middle first end + 1) < 2 ^ (l - 1)) × (middle first end - first < 2 ^ (l - 1))
half_fits zero first end h s = absurd (omega arith)
half_fits (suc l) first end h s =
    let w : 2 ^ suc l ≡ 2 ^ l * 2 = pow-suc 2 l in
    let z : suc l - 1 ≡ l = omega arith in
    (omega arith, rw z (omega arith), rw z (omega arith))

module _ (at : ℕ → ℕ) (k l first end : ℕ) where
  abbrev Stops : ℕ → ℕ → Type 0
  Stops r m = Stopped (halving at k (end - first) first end) r l m

  stops : {x : Searched} {r m : ℕ} → halving at k (end - first) first end ≡ x → Stopped x r l m → Stops r m
  stops {x} {r} {m} e s = subst (λ (y : Searched). Stopped y r l m) (sym e) s

  pub stop_empty : end ≤ first → Stops 512 l
  stop_empty h = stops (halve_empty at k first end h) (record { place_is = refl; left_is = omega arith })

  module _ (h : first < end) (left : 0 < l) where
    pub stop_met : at (middle first end) ≡ k → Stops (middle first end) (l - 1)
    stop_met q = stops (halve_met at k first end h q) (record { place_is = refl; left_is = omega arith })

    one_more : {x : Searched} {r m : ℕ} → Stopped x r (l - 1) m → Stopped (more x) r l m
    one_more s = record { place_is = s.place_is; left_is = omega (arith, s.left_is) }

    module _ (q : at (middle first end) ≡ k → ⊥) {r m : ℕ} where
      pub stop_after : at (middle first end) < k → Stopped (halving at k (end - (middle first end + 1)) (middle first end + 1) end) r (l - 1) m → Stops r m
      stop_after b s = stops (halve_after at k first end h q b) (one_more s)

      pub stop_before : k ≤ at (middle first end) → Stopped (halving at k (middle first end - first) first (middle first end)) r (l - 1) m → Stops r m
      stop_before b s = stops (halve_before at k first end h q b) (one_more s)

-- the whole stretch of at most 512
module _ (at : ℕ → ℕ) (k n : ℕ) (low : n ≤ 512) {r m l : ℕ} where
  whole : Stopped (halving at k (n - 0) 0 n) r m l → Stopped (halving at k n 0 n) r m l
  whole s = let e : n - 0 ≡ n = omega arith in subst (λ (t : ℕ). Stopped (halving at k t 0 n) r m l) e s

  pub whole_held : Stopped (halving at k (n - 0) 0 n) r m l → r < 512 → searched (Some r) (m - l) ≡ halving at k n 0 n
  whole_held s h =
      let t = whole s in
      elim (came at k n 0 n) [
        | met i e p q a ↦
            let f : r ≡ i = t.place_is ∙ ap (place_or 512) e in
            let g : m - l ≡ (halving at k n 0 n).examined = omega (arith, t.left_is) in
            rw (f, g, ← e)
        | missed e ↦ let f : r ≡ 512 = t.place_is ∙ ap (place_or 512) e in absurd (omega arith)
      ]

  pub whole_none : Stopped (halving at k (n - 0) 0 n) r m l → 512 ≤ r → searched None (m - l) ≡ halving at k n 0 n
  whole_none s h =
      let t = whole s in
      elim (came at k n 0 n) [
        | met i e p q a ↦ let f : r ≡ i = t.place_is ∙ ap (place_or 512) e in absurd (omega arith)
        | missed e ↦
            let g : m - l ≡ (halving at k n 0 n).examined = omega (arith, t.left_is) in
            ap (λ (o : Option ℕ). searched o (m - l)) (sym e) ∙ ap (searched (halving at k n 0 n).place) g
      ]

-- ---- ascending keys

module _ (key : List ℕ → ℕ) where
  -- an entry that has the key is at its place
  below_at : (xs : List (List ℕ)) (b k i : ℕ) → AscFrom key b xs → i < length xs → key (get_or xs i []) ≡ k → below key k xs ≡ i
  below_at [] b k i a h q = absurd (omega arith)
  below_at (x ∷ xs) b k zero a h q = below_not key x xs k (omega arith)
  below_at (x ∷ xs) b k (suc i) a h q =
      let p : key x < k = omega (arith, asc_at key xs (suc (key x)) i a.1 (omega arith)) in
      below_less key x xs k p ∙ ap suc (below_at xs (suc (key x)) k i a.1 (omega arith) q)

module _ (key : List ℕ → ℕ) (k : ℕ) (xs : List (List ℕ)) (asc : AscFrom key 0 xs) where
  -- the key's place stays in the stretch, so that a key that is there is met
  meets : (n first end : ℕ) → end - first ≤ n → first ≤ below key k xs → below key k xs < end → end ≤ length xs → key_at key xs (below key k xs) ≡ k
      → is_some (halving (key_at key xs) k n first end).place ≡ true
  meets zero first end h f t u e = absurd (omega arith)
  meets (suc n) first end h f t u e =
      by_turn (key_at key xs) k n first end (λ (x : Searched). is_some x.place ≡ true) (λ l. absurd (omega arith)) (λ l q. refl)
      (λ l q b. meets n (middle first end + 1) end (omega arith) (omega (arith, below_high key xs 0 k (middle first end) asc (omega arith) b)) t u e)
      (λ l q b.
      let p : below key k xs ≡ middle first end → ⊥ = λ (r : below key k xs ≡ middle first end). q (sym (ap (key_at key xs) r) ∙ e) in
      meets n first (middle first end) (omega arith) f (lower (below_low key xs k (middle first end) (omega arith) b) p) (omega arith) e)
    where
      lower : {a b : ℕ} → a ≤ b → (a ≡ b → ⊥) → a < b
      lower {a} {b} h n = elim (le? b a) [ le i ↦ absurd (n (omega arith)) | gt i ↦ i ]

  -- its answer and place are those of the key in the list
  pub halve_find : (halve_in key xs k).place ≡ looked_by (find key k xs) (below key k xs)
  halve_find =
      elim (came (key_at key xs) k (length xs) 0 (length xs)) [
        | met i n p q e ↦
            let b : below key k xs ≡ i = below_at key xs 0 k i asc q e in
            rw (n, place_some key [] xs k (omega arith) (ap (key_at key xs) b ∙ e), b)
        | missed n ↦
            let a : find key k xs ≡ none = place_none key [] xs 0 k asc (λ (h : below key k xs < length xs) (e : key (get_or xs (below key k xs) []) ≡ k).
            false≢true (sym (ap is_some n) ∙ meets (length xs) 0 (length xs) (omega arith) zero-le h (omega arith) e)) in
            rw (n, a)
      ]
