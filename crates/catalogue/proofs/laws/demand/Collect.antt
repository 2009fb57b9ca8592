-- The keys of lines, ascending, and what is collected by them.
use Prim.Native.Nat.{ℕ, suc, ◌≤◌, zero-le}
use mathlib.Core.Path.{◌≡◌, refl, sym, ◌∙◌, ap, subst}
use mathlib.Core.Logic.{inl, inr}
use mathlib.Core.List.Memᴰ
use mathlib.Core.List.{List, [], ◌∷◌}
use mathlib.Core.Option.{Option, none, some}
use native.Mathlib.Omega.{arith}
use Rattle.catalogue.specs.Assoc.{find, AscFrom}
use Rattle.catalogue.specs.Line.{Kind, key_by}
use Rattle.catalogue.specs.FromSet.{Of}
use Rattle.catalogue.specs.Lists.{Occurs}
use Rattle.catalogue.specs.Last.{keys, collect_at, collect}
use Rattle.catalogue.proofs.laws.assoc.Tri.{eq, ne, eq?}
use Rattle.catalogue.proofs.laws.assoc.Assoc.{asc_weaken, find_here, find_there, find_below, find_put_same, find_put_other, put_asc}

-- collecting by ascending keys: what is found is what was to be collected
module _ (key : List ℕ → ℕ) (f : ℕ → Option (List ℕ)) (keyed : (k : ℕ) (e : List ℕ) → f k ≡ some e → key e ≡ k) where
  at_asc : (k : ℕ) (b : ℕ) (o : Option (List ℕ)) (xs : List (List ℕ)) → f k ≡ o → b ≤ k → AscFrom key (suc k) xs → AscFrom key b (collect_at o xs)
  unfolding collect_at
  at_asc k b none xs e h s = asc_weaken key xs (omega arith) s
  at_asc k b (some x) xs e h s = let q = keyed k x e in (omega arith, asc_weaken key xs (omega arith) s)

  pub collect_asc : (ks : List ℕ) (b : ℕ) → AscFrom (λ (k : ℕ). k) b ks → AscFrom key b (collect f ks)
  unfolding collect
  collect_asc [] b s = tt
  collect_asc (k ∷ ks) b s = at_asc k b (f k) (collect f ks) refl s.0 (collect_asc ks (suc k) s.1)

  at_same : (k : ℕ) (o : Option (List ℕ)) (xs : List (List ℕ)) → f k ≡ o → AscFrom key (suc k) xs → find key k (collect_at o xs) ≡ o
  unfolding collect_at
  at_same k none xs e s = find_below key xs (suc k) k s (omega arith)
  at_same k (some x) xs e s = find_here key x xs k (keyed k x e)

  at_other : (k j : ℕ) (o : Option (List ℕ)) (xs : List (List ℕ)) → f k ≡ o → (k ≡ j → ⊥) → find key j (collect_at o xs) ≡ find key j xs
  unfolding collect_at
  at_other k j none xs e n = refl
  at_other k j (some x) xs e n = find_there key x xs j (λ (q : key x ≡ j). n (sym (keyed k x e) ∙ q))

  -- where each key with something to collect is listed
  collect_find : (ks : List ℕ) (b j : ℕ) → AscFrom (λ (k : ℕ). k) b ks → find (λ (k : ℕ). k) j ks ≡ some j → find key j (collect f ks) ≡ f j
  unfolding collect find
  collect_find [] b j s m = let z : ◌≡◌ {A = ℕ} 0 1 = cc in absurd (omega arith)
  collect_find (k ∷ ks) b j s m =
      elim (eq? k j) [
        | eq q ↦ subst (λ (u : ℕ). find key u (collect_at (f k) (collect f ks)) ≡ f u) q (at_same k (f k) (collect f ks) refl (collect_asc ks (suc k) s.1))
        | ne q ↦ at_other k j (f k) (collect f ks) refl q ∙ collect_find ks (suc k) j s.1 (sym (find_there (λ (u : ℕ). u) k ks j q) ∙ m)
      ]

  collect_miss : (ks : List ℕ) (j : ℕ) → f j ≡ none → find key j (collect f ks) ≡ none
  unfolding collect find collect_at
  collect_miss [] j m = refl
  collect_miss (k ∷ ks) j m =
      elim (eq? k j) [
        | eq q ↦ ap (λ (o : Option (List ℕ)). find key j (collect_at o (collect f ks))) (ap f q ∙ m) ∙ collect_miss ks j m
        | ne q ↦ at_other k j (f k) (collect f ks) refl q ∙ collect_miss ks j m
      ]

  -- what is found is what was to be collected
  pub collected : (ks : List ℕ) (j : ℕ) → AscFrom (λ (k : ℕ). k) 0 ks → ((e : List ℕ) → f j ≡ some e → find (λ (k : ℕ). k) j ks ≡ some j) → find key j (collect f ks) ≡ f j
  collected ks j s m = go (f j) refl
    where
      go : (o : Option (List ℕ)) → f j ≡ o → find key j (collect f ks) ≡ f j
      go none e = collect_miss ks j e ∙ sym e
      go (some x) e = collect_find ks 0 j s (m x e)

pub keys_asc : (t : Kind) (ls : List (List ℕ)) → AscFrom (λ (k : ℕ). k) 0 (keys t ls)
unfolding keys
keys_asc t [] = tt
keys_asc t (l ∷ ls) = put_asc (λ (k : ℕ). k) (key_by t l) (keys t ls) 0 zero-le (keys_asc t ls)

module _ (t : Kind) where
  keys_listed : (ls : List (List ℕ)) (x : List ℕ) → Occurs ls x → find (λ (k : ℕ). k) (key_by t x) (keys t ls) ≡ some (key_by t x)
  unfolding keys
  keys_listed [] x m = absurd (Memᴰ.not-nil m)
  keys_listed (l ∷ ls) x m =
      elim (Memᴰ.cases_cons m) [
        | inl e ↦ find_put_same (λ (k : ℕ). k) (key_by t l) (keys t ls) (key_by t x) (ap (key_by t) (sym e)) ∙ ap some (ap (key_by t) (sym e))
        | inr n ↦ elim (eq? (key_by t l) (key_by t x)) [
          | eq q ↦ find_put_same (λ (k : ℕ). k) (key_by t l) (keys t ls) (key_by t x) q ∙ ap some q
          | ne q ↦ find_put_other (λ (k : ℕ). k) (key_by t l) (keys t ls) (key_by t x) q ∙ keys_listed ls x n
        ]
      ]

  pub of_listed : (ls : List (List ℕ)) {k : ℕ} {x : List ℕ} → Of (Occurs ls) t k x → find (λ (j : ℕ). j) k (keys t ls) ≡ some k
  of_listed ls {x = x} o = subst (λ (j : ℕ). find (λ (i : ℕ). i) j (keys t ls) ≡ some j) o.is_key (keys_listed ls x o.inside)
