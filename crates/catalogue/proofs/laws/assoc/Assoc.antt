-- The laws of ascending lists: what is found after a store or a removal, and that two with the same findings are equal.
use Prim.Native.Nat.{ℕ, suc, ◌≤◌, ◌<◌}
use mathlib.Core.Path.{◌≡◌, refl, sym, ◌∙◌, ap, ap₂}
use mathlib.Core.List.{List, [], ◌∷◌}
use mathlib.Core.Option.{none, some}
use native.Mathlib.Omega.{arith}
use lib.ListN.{length}
use borrow.Author.Tests.{lt-ltb, le-ltb, eq-eqb, ne_eqb}
use Rattle.catalogue.specs.Assoc.{find, put, remove, AscFrom}
use Rattle.columns.proofs.laws.Tri.{less, same, more, tri}
use Rattle.catalogue.proofs.laws.assoc.Tri.{eq, ne, eq?}

module _ {E : Type 0} (key : E → ℕ) where
  pub find_here : (x : E) (xs : List E) (k : ℕ) → key x ≡ k → find key k (x ∷ xs) ≡ some x
  unfolding find
  find_here x xs k h = rw (eq-eqb (key x) k h)

  pub find_there : (x : E) (xs : List E) (k : ℕ) → (key x ≡ k → ⊥) → find key k (x ∷ xs) ≡ find key k xs
  unfolding find
  find_there x xs k h = rw (ne_eqb (key x) k h)

  pub asc_weaken : (xs : List E) {a b : ℕ} → a ≤ b → AscFrom key b xs → AscFrom key a xs
  asc_weaken [] h s = tt
  asc_weaken (x ∷ xs) h s = (omega arith, s.1)

  -- nothing is found below the bound
  pub find_below : (xs : List E) (b k : ℕ) → AscFrom key b xs → k < b → find key k xs ≡ none
  unfolding find
  find_below [] b k s h = refl
  find_below (x ∷ xs) b k s h =
      let n : key x ≡ k → ⊥ = λ (e : key x ≡ k). omega arith in
      find_there x xs k n ∙ find_below xs (suc (key x)) k s.1 (omega arith)

  -- what is found has the key
  pub find_key : (xs : List E) (k : ℕ) (e : E) → find key k xs ≡ some e → key e ≡ k
  unfolding find
  find_key [] k e h = let z : ◌≡◌ {A = ℕ} 0 1 = cc in absurd (omega arith)
  find_key (x ∷ xs) k e h =
      elim (eq? (key x) k) [
        | eq p ↦ let q : x ≡ e = cc (find_here x xs k p) in ap key (sym q) ∙ p
        | ne p ↦ find_key xs k e (sym (find_there x xs k p) ∙ h)
      ]

  -- `put`, by the three ways in which two keys compare
  pub put_less : (e x : E) (xs : List E) → key e < key x → put key e (x ∷ xs) ≡ e ∷ x ∷ xs
  unfolding put
  put_less e x xs h = rw (lt-ltb (key e) (key x) h)

  pub put_same : (e x : E) (xs : List E) → key e ≡ key x → put key e (x ∷ xs) ≡ e ∷ xs
  unfolding put
  put_same e x xs h = rw (le-ltb (key e) (key x) (omega arith), eq-eqb (key e) (key x) h)

  pub put_more : (e x : E) (xs : List E) → key x < key e → put key e (x ∷ xs) ≡ x ∷ put key e xs
  unfolding put
  put_more e x xs h =
      let n : key e ≡ key x → ⊥ = λ (q : key e ≡ key x). omega arith in
      rw (le-ltb (key e) (key x) (omega arith), ne_eqb (key e) (key x) n)

  pub find_put_same : (e : E) (xs : List E) (k : ℕ) → key e ≡ k → find key k (put key e xs) ≡ some e
  unfolding put
  find_put_same e [] k h = find_here e [] k h
  find_put_same e (x ∷ xs) k h =
      elim (tri (key e) (key x)) [
        | less p ↦ rw (put_less e x xs p) (find_here e (x ∷ xs) k h)
        | same p ↦ rw (put_same e x xs p) (find_here e xs k h)
        | more p ↦ rw (put_more e x xs p) (find_there x (put key e xs) k (λ (q : key x ≡ k). omega arith) ∙ find_put_same e xs k h)
      ]

  pub find_put_other : (e : E) (xs : List E) (k : ℕ) → (key e ≡ k → ⊥) → find key k (put key e xs) ≡ find key k xs
  unfolding put
  find_put_other e [] k h = find_there e [] k h
  find_put_other e (x ∷ xs) k h =
      elim (tri (key e) (key x)) [
        | less p ↦ rw (put_less e x xs p) (find_there e (x ∷ xs) k h)
        | same p ↦ rw (put_same e x xs p) (find_there e xs k h ∙ sym (find_there x xs k (λ (q : key x ≡ k). h (p ∙ q))))
        | more p ↦ rw (put_more e x xs p) (elim (eq? (key x) k) [
          | eq q ↦ find_here x (put key e xs) k q ∙ sym (find_here x xs k q)
          | ne q ↦ find_there x (put key e xs) k q ∙ find_put_other e xs k h ∙ sym (find_there x xs k q)
        ])
      ]

  pub put_asc : (e : E) (xs : List E) (b : ℕ) → b ≤ key e → AscFrom key b xs → AscFrom key b (put key e xs)
  unfolding put
  put_asc e [] b h s = (h, tt)
  put_asc e (x ∷ xs) b h s =
      elim (tri (key e) (key x)) [
        | less p ↦ rw (put_less e x xs p) (h, (p, s.1))
        | same p ↦ rw (put_same e x xs p) (h, asc_weaken xs (omega arith) s.1)
        | more p ↦ rw (put_more e x xs p) (s.0, put_asc e xs (suc (key x)) p s.1)
      ]

  -- at most one entry more; none where there is one with the key
  pub put_length : (e : E) (xs : List E) → length (put key e xs) ≤ suc (length xs)
  unfolding put
  put_length e [] = omega arith
  put_length e (x ∷ xs) =
      elim (tri (key e) (key x)) [
        | less p ↦ rw (put_less e x xs p) (omega arith)
        | same p ↦ rw (put_same e x xs p) (omega arith)
        | more p ↦ rw (put_more e x xs p) (omega (arith, put_length e xs))
      ]

  pub put_length_found : (e : E) (xs : List E) (b : ℕ) (y : E) → AscFrom key b xs → find key (key e) xs ≡ some y → length (put key e xs) ≡ length xs
  unfolding find
  put_length_found e [] b y s f = let z : ◌≡◌ {A = ℕ} 0 1 = cc in absurd (omega arith)
  put_length_found e (x ∷ xs) b y s f =
      elim (tri (key e) (key x)) [
        | less p ↦ let z : ◌≡◌ {A = ℕ} 0 1 = cc (find_below (x ∷ xs) (key x) (key e) (omega arith, s.1) p) in absurd (omega arith)
        | same p ↦ rw (put_same e x xs p) refl
        | more p ↦
            let n : key x ≡ key e → ⊥ = λ (q : key x ≡ key e). omega arith in
            rw (put_more e x xs p) (ap suc (put_length_found e xs (suc (key x)) y s.1 (sym (find_there x xs (key e) n) ∙ f)))
      ]

  pub remove_here : (x : E) (xs : List E) (k : ℕ) → key x ≡ k → remove key k (x ∷ xs) ≡ remove key k xs
  unfolding remove
  remove_here x xs k h = rw (eq-eqb (key x) k h)

  pub remove_there : (x : E) (xs : List E) (k : ℕ) → (key x ≡ k → ⊥) → remove key k (x ∷ xs) ≡ x ∷ remove key k xs
  unfolding remove
  remove_there x xs k h = rw (ne_eqb (key x) k h)

  pub find_remove_same : (k : ℕ) (xs : List E) → find key k (remove key k xs) ≡ none
  unfolding find remove
  find_remove_same k [] = refl
  find_remove_same k (x ∷ xs) =
      elim (eq? (key x) k) [
        | eq p ↦ rw (remove_here x xs k p) (find_remove_same k xs)
        | ne p ↦ rw (remove_there x xs k p) (find_there x (remove key k xs) k p ∙ find_remove_same k xs)
      ]

  pub find_remove_other : (j k : ℕ) (xs : List E) → (j ≡ k → ⊥) → find key k (remove key j xs) ≡ find key k xs
  unfolding remove
  find_remove_other j k [] h = refl
  find_remove_other j k (x ∷ xs) h =
      elim (eq? (key x) j) [
        | eq p ↦ rw (remove_here x xs j p) (find_remove_other j k xs h ∙ sym (find_there x xs k (λ (q : key x ≡ k). h (sym p ∙ q))))
        | ne p ↦ rw (remove_there x xs j p) (elim (eq? (key x) k) [
          | eq q ↦ find_here x (remove key j xs) k q ∙ sym (find_here x xs k q)
          | ne q ↦ find_there x (remove key j xs) k q ∙ find_remove_other j k xs h ∙ sym (find_there x xs k q)
        ])
      ]

  pub remove_asc : (k : ℕ) (xs : List E) (b : ℕ) → AscFrom key b xs → AscFrom key b (remove key k xs)
  unfolding remove
  remove_asc k [] b s = tt
  remove_asc k (x ∷ xs) b s =
      elim (eq? (key x) k) [
        | eq p ↦ rw (remove_here x xs k p) (asc_weaken (remove key k xs) (omega arith) (remove_asc k xs (suc (key x)) s.1))
        | ne p ↦ rw (remove_there x xs k p) (s.0, remove_asc k xs (suc (key x)) s.1)
      ]

  -- two ascending lists in which the same is found are equal
  pub ext : (xs ys : List E) (b : ℕ) → AscFrom key b xs → AscFrom key b ys → ((k : ℕ) → find key k xs ≡ find key k ys) → xs ≡ ys
  unfolding find
  ext [] [] b s t f = refl
  ext [] (y ∷ ys) b s t f = let z : ◌≡◌ {A = ℕ} 0 1 = cc (find_here y ys (key y) refl, f (key y)) in absurd (omega arith)
  ext (x ∷ xs) [] b s t f = let z : ◌≡◌ {A = ℕ} 0 1 = cc (find_here x xs (key x) refl, f (key x)) in absurd (omega arith)
  ext (x ∷ xs) (y ∷ ys) b s t f =
      elim (tri (key x) (key y)) [
        | less p ↦
            let z : ◌≡◌ {A = ℕ} 0 1 = cc (find_here x xs (key x) refl, f (key x), find_below (y ∷ ys) (key y) (key x) (omega arith, t.1) p) in
            absurd (omega arith)
        | same p ↦
            let q : x ≡ y = cc (find_here x xs (key x) refl, f (key x), find_here y ys (key x) (sym p)) in
            let tails : (k : ℕ) → find key k xs ≡ find key k ys =
            λ (k : ℕ). elim (eq? (key x) k) [
              | eq r ↦ find_below xs (suc (key x)) k s.1 (omega arith) ∙ sym (find_below ys (suc (key y)) k t.1 (omega arith))
              | ne r ↦ sym (find_there x xs k r) ∙ f k ∙ find_there y ys k (λ (u : key y ≡ k). r (p ∙ u))
            ] in
            ap₂ (λ (a : E) (l : List E). a ∷ l) q (ext xs ys (suc (key x)) s.1 (asc_weaken ys (omega arith) t.1) tails)
        | more p ↦
            let z : ◌≡◌ {A = ℕ} 0 1 = cc (find_here y ys (key y) refl, f (key y), find_below (x ∷ xs) (key x) (key y) (omega arith, s.1) p) in
            absurd (omega arith)
      ]
