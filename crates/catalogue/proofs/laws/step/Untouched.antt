-- The answers that leave the catalogue as it was, and the sections that a line leaves.
use Rattle.std.specs.Prelude.{ℕ, Ok}
use mathlib.Core.Path.{◌≡◌, refl, subst}
use mathlib.Core.Logic.{◌⊎◌, inl, inr}
use mathlib.Core.List.{List}
use Rattle.catalogue.specs.declared.Effect.{Effect}
use Rattle.catalogue.specs.declared.Effect.TheVariants.{Stored, Replaced}
use Rattle.catalogue.specs.Answers.{Deed}
use Rattle.catalogue.specs.declared.decide.Deed.TheVariants.{Leave, Hold, Note, Wipe, Link}
use Rattle.catalogue.specs.Catalogue.{Catalogue}
use Rattle.catalogue.specs.Taking.{done, deed_of, step}
use Rattle.catalogue.specs.Untouched.{ChangesNothing, Apart}
use Rattle.catalogue.proofs.laws.step.Fair.{Fair, deed_fair}
use Rattle.catalogue.proofs.laws.step.Done.{done_apart, done_links}

stores : (e : Effect) → (e ≡ Stored) ⊎ (e ≡ Replaced) → ChangesNothing (Ok e) → ⊥
stores e (inl p) u = subst (λ (x : Effect). ChangesNothing (Ok x)) p u
stores e (inr p) u = subst (λ (x : Effect). ChangesNothing (Ok x)) p u

module _ (c : Catalogue) (l : List ℕ) where
  done_untouched : (e : Deed) → Fair c l e → ChangesNothing (done e c l).answer → (done e c l).after ≡ c
  unfolding done
  done_untouched (Leave n) f u = refl
  done_untouched (Hold n) f u = absurd (stores n f.answers u)
  done_untouched (Link n) f u = absurd (stores n f.answers u)
  done_untouched (Note v) f u = absurd u
  done_untouched (Wipe v) f u = absurd u

  pub step_untouched : ChangesNothing (step c l).answer → (step c l).after ≡ c
  unfolding step
  step_untouched u = done_untouched (deed_of c l) (deed_fair c l) u

pub apart : Apart
unfolding step
apart c l = (done_apart c l (deed_of c l) (deed_fair c l), done_links c l (deed_of c l) (deed_fair c l))
