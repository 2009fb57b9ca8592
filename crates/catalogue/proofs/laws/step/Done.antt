-- A deed done: what is found of the line's pair after it, and that nothing else has changed.
use Prim.Native.Nat.{ℕ, ◌≤◌, zero-le}
use mathlib.Core.Path.{◌≡◌, refl, sym, ◌∙◌}
use mathlib.Core.List.{List}
use mathlib.Core.Option.{Option, none, some}
use native.Mathlib.Omega.{arith}
use lib.ListN.{length}
use Rattle.catalogue.specs.Answers.{Deed}
use Rattle.catalogue.specs.declared.decide.Deed.TheVariants.{Leave, Hold, Note, Wipe, Link}
use Rattle.catalogue.specs.Assoc.{find, put, AscFrom}
use Rattle.catalogue.specs.Line.{link, kind, key, deletion, deletion_key, triple_key, link_entry, link_key}
use Rattle.catalogue.specs.Catalogue.{Catalogue}
use Rattle.catalogue.specs.Taking.{done}
use Rattle.catalogue.proofs.laws.assoc.Assoc.{find_put_same, find_put_other, find_remove_same, find_remove_other, put_asc, remove_asc}
use Rattle.catalogue.proofs.laws.step.Line.{whole, deletion_key_lem}
use Rattle.catalogue.proofs.laws.step.Link.{link_whole, entry_key}
use Rattle.catalogue.proofs.laws.step.Fair.{Fair}

-- the pair's held line after a deed, and its deletion
abbrev pub held_after : Deed → List ℕ → Option (List ℕ) → Option (List ℕ)
held_after (Leave n) l h = h
held_after (Hold n) l h = some l
held_after (Note v) l h = h
held_after (Wipe v) l h = none
held_after (Link n) l h = h

abbrev pub deletion_after : Deed → List ℕ → Option (List ℕ) → Option (List ℕ)
deletion_after (Leave n) l d = d
deletion_after (Hold n) l d = d
deletion_after (Note v) l d = some (deletion l v)
deletion_after (Wipe v) l d = some (deletion l v)
deletion_after (Link n) l d = d

-- and its triple's link
abbrev pub link_after : Deed → List ℕ → Option (List ℕ) → Option (List ℕ)
link_after (Leave n) l k = k
link_after (Hold n) l k = k
link_after (Note v) l k = k
link_after (Wipe v) l k = k
link_after (Link n) l k = some (link_entry l)

-- a link leaves its pair, any other line its triple
pub after_apart : (l : List ℕ) (e : Deed) (c : Catalogue) → Fair c l e → kind l ≡ link → (h d : Option (List ℕ)) → (held_after e l h ≡ h) × (deletion_after e l d ≡ d)
after_apart l (Leave n) c f p h d = (refl, refl)
after_apart l (Hold n) c f p h d = let q = f.is_event_lem in let z : ◌≡◌ {A = ℕ} 0 1 = cc in absurd (omega arith)
after_apart l (Note v) c f p h d = absurd (f.about_pair p)
after_apart l (Wipe v) c f p h d = absurd (f.about_pair p)
after_apart l (Link n) c f p h d = (refl, refl)

pub after_links : (l : List ℕ) (e : Deed) (c : Catalogue) → Fair c l e → (kind l ≡ link → ⊥) → (k : Option (List ℕ)) → link_after e l k ≡ k
after_links l (Leave n) c f p k = refl
after_links l (Hold n) c f p k = refl
after_links l (Note v) c f p k = refl
after_links l (Wipe v) c f p k = refl
after_links l (Link n) c f p k = absurd (p f.is_link_lem)

module _ (c : Catalogue) (l : List ℕ) where
  pub done_held : (e : Deed) → find key (key l) (done e c l).after.held ≡ held_after e l (find key (key l) c.held)
  unfolding done
  done_held (Leave n) = refl
  done_held (Hold n) = find_put_same key l c.held (key l) refl
  done_held (Note v) = refl
  done_held (Wipe v) = find_remove_same key (key l) c.held
  done_held (Link n) = refl

  pub done_held_other : (e : Deed) (k : ℕ) → (key l ≡ k → ⊥) → find key k (done e c l).after.held ≡ find key k c.held
  unfolding done
  done_held_other (Leave n) k q = refl
  done_held_other (Hold n) k q = find_put_other key l c.held k q
  done_held_other (Note v) k q = refl
  done_held_other (Wipe v) k q = find_remove_other key (key l) k c.held q
  done_held_other (Link n) k q = refl

  pub done_held_ascends : (e : Deed) → AscFrom key 0 c.held → AscFrom key 0 (done e c l).after.held
  unfolding done
  done_held_ascends (Leave n) s = s
  done_held_ascends (Hold n) s = put_asc key l c.held 0 zero-le s
  done_held_ascends (Note v) s = s
  done_held_ascends (Wipe v) s = remove_asc key (key l) c.held 0 s
  done_held_ascends (Link n) s = s

  -- a deletion that is put has the line's key
  module _ (v : ℕ) (long : 13 ≤ length l) where
    noted_same : find deletion_key (key l) (put deletion_key (deletion l v) c.deletions) ≡ some (deletion l v)
    noted_same = find_put_same deletion_key (deletion l v) c.deletions (key l) (deletion_key_lem l v long)

    noted_other : (k : ℕ) → (key l ≡ k → ⊥) → find deletion_key k (put deletion_key (deletion l v) c.deletions) ≡ find deletion_key k c.deletions
    noted_other k q = find_put_other deletion_key (deletion l v) c.deletions k (λ (u : deletion_key (deletion l v) ≡ k). q (sym (deletion_key_lem l v long) ∙ u))

  pub done_deletion : (e : Deed) → Fair c l e → find deletion_key (key l) (done e c l).after.deletions ≡ deletion_after e l (find deletion_key (key l) c.deletions)
  unfolding done
  done_deletion (Leave n) f = refl
  done_deletion (Hold n) f = refl
  done_deletion (Note v) f = noted_same v (whole l f.acceptable).long
  done_deletion (Wipe v) f = noted_same v (whole l f.acceptable).long
  done_deletion (Link n) f = refl

  pub done_deletion_other : (e : Deed) → Fair c l e → (k : ℕ) → (key l ≡ k → ⊥) → find deletion_key k (done e c l).after.deletions ≡ find deletion_key k c.deletions
  unfolding done
  done_deletion_other (Leave n) f k q = refl
  done_deletion_other (Hold n) f k q = refl
  done_deletion_other (Note v) f k q = noted_other v (whole l f.acceptable).long k q
  done_deletion_other (Wipe v) f k q = noted_other v (whole l f.acceptable).long k q
  done_deletion_other (Link n) f k q = refl

  pub done_deletion_ascends : (e : Deed) → AscFrom deletion_key 0 c.deletions → AscFrom deletion_key 0 (done e c l).after.deletions
  unfolding done
  done_deletion_ascends (Leave n) s = s
  done_deletion_ascends (Hold n) s = s
  done_deletion_ascends (Note v) s = put_asc deletion_key (deletion l v) c.deletions 0 zero-le s
  done_deletion_ascends (Wipe v) s = put_asc deletion_key (deletion l v) c.deletions 0 zero-le s
  done_deletion_ascends (Link n) s = s

  pub done_link : (e : Deed) → Fair c l e → find link_key (triple_key l) (done e c l).after.links ≡ link_after e l (find link_key (triple_key l) c.links)
  unfolding done
  done_link (Leave n) f = refl
  done_link (Hold n) f = refl
  done_link (Note v) f = refl
  done_link (Wipe v) f = refl
  done_link (Link n) f = find_put_same link_key (link_entry l) c.links (triple_key l) (entry_key l (link_whole l f.is_link_lem))

  pub done_link_other : (e : Deed) → Fair c l e → (k : ℕ) → (triple_key l ≡ k → ⊥) → find link_key k (done e c l).after.links ≡ find link_key k c.links
  unfolding done
  done_link_other (Leave n) f k q = refl
  done_link_other (Hold n) f k q = refl
  done_link_other (Note v) f k q = refl
  done_link_other (Wipe v) f k q = refl
  done_link_other (Link n) f k q =
      find_put_other link_key (link_entry l) c.links k (λ (u : link_key (link_entry l) ≡ k). q (sym (entry_key l (link_whole l f.is_link_lem)) ∙ u))

  pub done_link_ascends : (e : Deed) → AscFrom link_key 0 c.links → AscFrom link_key 0 (done e c l).after.links
  unfolding done
  done_link_ascends (Leave n) s = s
  done_link_ascends (Hold n) s = s
  done_link_ascends (Note v) s = s
  done_link_ascends (Wipe v) s = s
  done_link_ascends (Link n) s = put_asc link_key (link_entry l) c.links 0 zero-le s

  -- a link leaves the rest, any other line the links
  pub done_apart : (e : Deed) → Fair c l e → kind l ≡ link → ((done e c l).after.held ≡ c.held) × ((done e c l).after.deletions ≡ c.deletions)
  unfolding done
  done_apart (Leave n) f p = (refl, refl)
  done_apart (Hold n) f p = let q = f.is_event_lem in let z : ◌≡◌ {A = ℕ} 0 1 = cc in absurd (omega arith)
  done_apart (Note v) f p = absurd (f.about_pair p)
  done_apart (Wipe v) f p = absurd (f.about_pair p)
  done_apart (Link n) f p = (refl, refl)

  pub done_links : (e : Deed) → Fair c l e → (kind l ≡ link → ⊥) → (done e c l).after.links ≡ c.links
  unfolding done
  done_links (Leave n) f p = refl
  done_links (Hold n) f p = refl
  done_links (Note v) f p = refl
  done_links (Wipe v) f p = refl
  done_links (Link n) f p = absurd (p f.is_link_lem)
