-- How many pairs are named after a line is taken: as many as before, or one more for a pair that is new.
use Prim.Native.Nat.{ℕ, suc}
use mathlib.Core.Path.{◌≡◌, sym, ◌∙◌, subst}
use mathlib.Core.Logic.{◌⊎◌, inl, inr}
use mathlib.Core.List.{List}
use mathlib.Core.Option.{Option, none}
use native.Mathlib.Omega.{arith}
use Rattle.catalogue.specs.declared.Effect.{Effect}
use Rattle.catalogue.specs.Answers.{Call, Deed}
use Rattle.catalogue.specs.declared.decide.Deed.TheVariants.{Leave, Hold, Note, Wipe, Link}
use Rattle.catalogue.specs.Assoc.{find}
use Rattle.catalogue.specs.Line.{key, deletion_key}
use Rattle.catalogue.specs.Catalogue.{Catalogue, named}
use Rattle.catalogue.specs.Taking.{done, deed_of, step}
use Rattle.catalogue.proofs.laws.assoc.Tri.{eq, ne, eq?}
use Rattle.catalogue.proofs.laws.step.Names.{Names, names, names_length, names_mem, named_below, named_one_more, named_no_more}
use Rattle.catalogue.proofs.laws.step.Good.{Good}
use Rattle.catalogue.proofs.laws.step.Fair.{deed_fair}
use Rattle.catalogue.proofs.laws.step.Done.{held_after, deletion_after, done_held, done_held_other, done_deletion, done_deletion_other}
use Rattle.catalogue.proofs.laws.step.Keep.{step_good}

-- a deed that changes a pair
abbrev pub Changes : Deed → Type 0
Changes (Leave n) = ⊥
Changes (Hold n) = Unit {0}
Changes (Note v) = Unit {0}
Changes (Wipe v) = Unit {0}
Changes (Link n) = ⊥

-- it leaves an entry of the pair
after_named : (e : Deed) (l : List ℕ) (d h : Option (List ℕ)) → Changes e ⊎ (d ≡ none → h ≡ none → ⊥) → deletion_after e l d ≡ none → held_after e l h ≡ none → ⊥
after_named (Leave n) l d h u p q = elim u [ inl f ↦ f | inr f ↦ f p q ]
after_named (Hold n) l d h u p q = let z : ◌≡◌ {A = ℕ} 0 1 = cc in omega arith
after_named (Note v) l d h u p q = let z : ◌≡◌ {A = ℕ} 0 1 = cc in omega arith
after_named (Wipe v) l d h u p q = let z : ◌≡◌ {A = ℕ} 0 1 = cc in omega arith
after_named (Link n) l d h u p q = elim u [ inl f ↦ f | inr f ↦ f p q ]

module _ (c : Catalogue) (l : List ℕ) where
  pub named_leave : (n : Call) → deed_of c l ≡ Leave n → named (step c l).after ≡ named c
  unfolding step done
  named_leave n e = rw e

  -- links do not count
  pub named_link : (n : Effect) → deed_of c l ≡ Link n → named (step c l).after ≡ named c
  unfolding step done named
  named_link n e = rw e

  step_named : Changes (deed_of c l) ⊎ Names c (key l) → Names (step c l).after (key l)
  unfolding step
  step_named u p q =
      let f = deed_fair c l in
      after_named (deed_of c l) l (find deletion_key (key l) c.deletions) (find key (key l) c.held) u
      (sym (done_deletion c l (deed_of c l) f) ∙ p) (sym (done_held c l (deed_of c l)) ∙ q)

  module _ (z : ℕ) (n : key l ≡ z → ⊥) where
    names_before : Names (step c l).after z → Names c z
    unfolding step
    names_before u p q = u (done_deletion_other c l (deed_of c l) (deed_fair c l) z n ∙ p) (done_held_other c l (deed_of c l) z n ∙ q)

    names_after : Names c z → Names (step c l).after z
    unfolding step
    names_after u p q = u (sym (done_deletion_other c l (deed_of c l) (deed_fair c l) z n) ∙ p) (sym (done_held_other c l (deed_of c l) z n) ∙ q)

  module _ (G : Good c) where
    pub named_known : Names c (key l) → named (step c l).after ≡ named c
    named_known u =
        let G' = step_good c G l in
        omega (
          arith,
          named_no_more c (step c l).after G'.held_ascends G'.deletion_ascends (key l) names_before (λ (w : Names (step c l).after (key l)). u),
          named_no_more (step c l).after c G.held_ascends G.deletion_ascends (key l) names_after (λ (w : Names c (key l)). step_named (inr u)),
        )

    pub named_new : find deletion_key (key l) c.deletions ≡ none → find key (key l) c.held ≡ none → Changes (deed_of c l) → named (step c l).after ≡ suc (named c)
    named_new p q u =
        let G' = step_good c G l in
        let d : Catalogue = (step c l).after in
        omega (
          arith,
          names_length d,
          named_one_more c d G'.held_ascends G'.deletion_ascends (key l) names_before,
          named_below c G.held_ascends G.deletion_ascends (names d) (λ (z : ℕ) (w : Names c z). names_mem d z (elim (eq? (key l) z) [
            | eq e ↦ subst (Names d) e (step_named (inl u))
            | ne n ↦ names_after z n w
          ])) (key l) (names_mem d (key l) (step_named (inl u))) p q,
        )
