-- A catalogue that follows a list: found in it is what the list's last highest E, DE and LI lines say. One does after each line, and the
-- computed one does.
use Prim.Native.Nat.{ℕ, ◌≤◌, ◌<◌}
use mathlib.Core.Path.{◌≡◌, refl, sym, ◌∙◌, ap, ap₂, subst}
use mathlib.Core.Logic.{inl, inr}
use mathlib.Core.List.Memᴰ
use mathlib.Core.List.{List, [], ◌∷◌, ◌++◌, append_assoc, append-nil, map, Memᴰ}
use mathlib.Core.Option.{Option, none, some}
use native.Mathlib.Omega.{arith}
use lib.ListN.{length, length-map}
use Rattle.catalogue.specs.Assoc.{find, AscFrom}
use Rattle.catalogue.specs.Line.{Kind, event, delete, blank, link, refused, kind, Acceptable, version, key_of, key, deletion, deletion_key, triple_key, link_entry, link_key, key_by}
use Rattle.catalogue.specs.Catalogue.{Catalogue, empty, named}
use Rattle.catalogue.specs.Taking.{decide, done, over_link, link_deed, deed_of, step, run}
use Rattle.catalogue.specs.Findings.{notice_kind}
use Rattle.catalogue.specs.Answers.{Deed}
use Rattle.catalogue.specs.declared.decide.Notice.{Notice}
use Rattle.catalogue.specs.declared.decide.Notice.TheVariants.{Event, Delete}
use Rattle.catalogue.specs.FromSet.{Of}
use Rattle.catalogue.specs.Lists.{Occurs, Bounded}
use Rattle.catalogue.specs.Last.{last_highest, deletion_for, held_for, link_for, keys, last_catalogue}
use Rattle.catalogue.proofs.laws.assoc.Tri.{eq, ne, eq?}
use Rattle.catalogue.proofs.laws.assoc.Assoc.{ext}
use Rattle.catalogue.proofs.laws.assoc.Members.{fewer}
use Rattle.catalogue.proofs.laws.step.Line.{whole, event_ok, delete_ok, deletion_key_lem}
use Rattle.catalogue.proofs.laws.step.Link.{link_whole, entry_key, key_of_triple, triple_keyed, yes, no, link?}
use Rattle.catalogue.proofs.laws.step.Names.{Names, named_room}
use Rattle.catalogue.proofs.laws.step.Decide.{limited_open, limited_link_open, deed_of_lem, deed_link, deed_refused}
use Rattle.catalogue.proofs.laws.step.Fair.{deed_fair}
use Rattle.catalogue.proofs.laws.step.Done.{held_after, deletion_after, link_after, after_apart, after_links, done_held, done_held_other, done_held_ascends, done_deletion, done_deletion_other, done_deletion_ascends, done_link, done_link_other, done_link_ascends}
use Rattle.catalogue.proofs.laws.demand.Collect.{collect_asc, collected, keys_asc, of_listed}
use Rattle.catalogue.proofs.laws.demand.Highest.{highest_snoc, highest_snoc_other, HighestIs, highest_is, highest_found}
use Rattle.catalogue.proofs.laws.demand.Pair.{held_nothing, held_chosen, deletion_chosen, held_deletion, Own, PairAfter, event_pair, delete_pair, OwnLink, link_chosen, link_after_lem}

-- two catalogues in which the same is found are equal
pub found_ext : (c d : Catalogue) → AscFrom key 0 c.held → AscFrom key 0 d.held → AscFrom deletion_key 0 c.deletions → AscFrom deletion_key 0 d.deletions
    → AscFrom link_key 0 c.links → AscFrom link_key 0 d.links
    → ((k : ℕ) → find key k c.held ≡ find key k d.held) → ((k : ℕ) → find deletion_key k c.deletions ≡ find deletion_key k d.deletions)
    → ((k : ℕ) → find link_key k c.links ≡ find link_key k d.links) → c ≡ d
found_ext c d s t u w x y f g m =
    let h : c.held ≡ d.held = ext key c.held d.held 0 s t f in
    let e : c.deletions ≡ d.deletions = ext deletion_key c.deletions d.deletions 0 u w g in
    let n : c.links ≡ d.links = ext link_key c.links d.links 0 x y m in
    λ i. record { held = h i; deletions = e i; links = n i }

pub record Follows (ls : List (List ℕ)) (c : Catalogue) : Type 0 where
  pub held_ascends : AscFrom key 0 c.held
  pub deletion_ascends : AscFrom deletion_key 0 c.deletions
  pub link_ascends : AscFrom link_key 0 c.links
  pub held_found : (k : ℕ) → find key k c.held ≡ held_for (last_highest event k ls) (last_highest delete k ls)
  pub deletion_found : (k : ℕ) → find deletion_key k c.deletions ≡ deletion_for (last_highest delete k ls)
  pub link_found : (k : ℕ) → find link_key k c.links ≡ link_for (last_highest link k ls)

pub follows_one : (ls : List (List ℕ)) (c d : Catalogue) → Follows ls c → Follows ls d → c ≡ d
follows_one ls c d F G =
    found_ext c d F.held_ascends G.held_ascends F.deletion_ascends G.deletion_ascends F.link_ascends G.link_ascends
    (λ (k : ℕ). F.held_found k ∙ sym (G.held_found k)) (λ (k : ℕ). F.deletion_found k ∙ sym (G.deletion_found k)) (λ (k : ℕ). F.link_found k ∙ sym (G.link_found k))

-- ---- one more line

own_of : (ls : List (List ℕ)) (k : ℕ) (o : Option (List ℕ)) → HighestIs ls delete k o → Own k o
own_of ls k none h = tt
own_of ls k (some y) h = (delete_ok y h.0.is_kind, h.0.is_key)

own_highest : (ls : List (List ℕ)) (k : ℕ) → Own k (last_highest delete k ls)
own_highest ls k = own_of ls k (last_highest delete k ls) (highest_is ls delete k)

own_link : (ls : List (List ℕ)) (k : ℕ) (o : Option (List ℕ)) → HighestIs ls link k o → OwnLink o
own_link ls k none h = tt
own_link ls k (some x) h = h.0.is_kind

-- the pair of an acceptable E or DE line finds room where it is new, the triple of a link too
abbrev pub FindsRoom : Catalogue → List ℕ → Type 0
FindsRoom c l = Acceptable l → (kind l ≡ link → ⊥) → find deletion_key (key l) c.deletions ≡ none → find key (key l) c.held ≡ none → named c < 512

abbrev pub FindsLinkRoom : Catalogue → List ℕ → Type 0
FindsLinkRoom c l = kind l ≡ link → find link_key (triple_key l) c.links ≡ none → length c.links < 64

-- a line of another kind is not among those of kind t
not_of : (l : List ℕ) (s t : Kind) → kind l ≡ s → (s ≡ t → ⊥) → (k : ℕ) → kind l ≡ t → key_by t l ≡ k → ⊥
not_of l s t p n k q r = n (sym p ∙ q)

event_delete : event ≡ delete → ⊥
event_delete e = let z : ◌≡◌ {A = ℕ} 0 1 = cc in omega arith

link_event : link ≡ event → ⊥
link_event e = let z : ◌≡◌ {A = ℕ} 0 1 = cc in omega arith

link_delete : link ≡ delete → ⊥
link_delete e = let z : ◌≡◌ {A = ℕ} 0 1 = cc in omega arith

refused_event : refused ≡ event → ⊥
refused_event e = let z : ◌≡◌ {A = ℕ} 0 1 = cc in omega arith

refused_delete : refused ≡ delete → ⊥
refused_delete e = let z : ◌≡◌ {A = ℕ} 0 1 = cc in omega arith

module _ (ls : List (List ℕ)) (c : Catalogue) (F : Follows ls c) (l : List ℕ) where
  deed_decided : FindsRoom c l → (t : Notice) → kind l ≡ notice_kind t → Acceptable l → (kind l ≡ link → ⊥)
      → deed_of c l ≡ decide t l (deletion_for (last_highest delete (key l) ls)) (held_for (last_highest event (key l) ls) (last_highest delete (key l) ls))
  deed_decided f t p a n =
      let d : Option (List ℕ) = deletion_for (last_highest delete (key l) ls) in
      let h : Option (List ℕ) = held_for (last_highest event (key l) ls) (last_highest delete (key l) ls) in
      deed_of_lem c l t d h p (F.deletion_found (key l)) (F.held_found (key l))
      ∙ limited_open (named c) (decide t l d h) d h (λ (x : d ≡ none) (y : h ≡ none). f a n (F.deletion_found (key l) ∙ x) (F.held_found (key l) ∙ y))

  -- nothing of the pair changes where the line is no E or DE line
  pair_stays : (t : Kind) → kind l ≡ t → (t ≡ event → ⊥) → (t ≡ delete → ⊥)
      → (held_after (deed_of c l) l (held_for (last_highest event (key l) ls) (last_highest delete (key l) ls)) ≡ held_for (last_highest event (key l) ls) (last_highest delete (key l) ls))
      × (deletion_after (deed_of c l) l (deletion_for (last_highest delete (key l) ls)) ≡ deletion_for (last_highest delete (key l) ls))
      → PairAfter l (deed_of c l) (last_highest event (key l) ls) (last_highest delete (key l) ls)
      (last_highest event (key l) (ls ++ (l ∷ []))) (last_highest delete (key l) (ls ++ (l ∷ [])))
  pair_stays t p m n h = rw (highest_snoc_other event (key l) l (not_of l t event p m (key l)) ls, highest_snoc_other delete (key l) l (not_of l t delete p n (key l)) ls) h

  pair_after : (kind l ≡ blank → ⊥) → FindsRoom c l → (t : Kind) → kind l ≡ t
      → PairAfter l (deed_of c l) (last_highest event (key l) ls) (last_highest delete (key l) ls)
      (last_highest event (key l) (ls ++ (l ∷ []))) (last_highest delete (key l) (ls ++ (l ∷ [])))
  pair_after b f event p =
      rw (deed_decided f Event p (event_ok l p) (λ (q : kind l ≡ link). link_event (sym q ∙ p)), highest_snoc event (key l) l p refl ls, highest_snoc_other delete (key l) l (not_of l event delete p event_delete (key l)) ls)
      (event_pair l (last_highest event (key l) ls) (last_highest delete (key l) ls) (own_highest ls (key l)))
  pair_after b f delete p =
      rw (deed_decided f Delete p (delete_ok l p) (λ (q : kind l ≡ link). link_delete (sym q ∙ p)), highest_snoc delete (key l) l p refl ls, highest_snoc_other event (key l) l (not_of l delete event p (λ (e : delete ≡ event). event_delete (sym e)) (key l)) ls)
      (delete_pair l (last_highest event (key l) ls) (delete_ok l p) (last_highest delete (key l) ls) (own_highest ls (key l)))
  pair_after b f blank p = absurd (b p)
  pair_after b f link p = pair_stays link p link_event link_delete (after_apart l (deed_of c l) c (deed_fair c l) p _ _)
  pair_after b f refused p = pair_stays refused p refused_event refused_delete (rw (deed_refused c l p) (refl, refl))

  -- the triple after the line
  triple_after : FindsLinkRoom c l → (t : Kind) → kind l ≡ t
      → link_after (deed_of c l) l (link_for (last_highest link (triple_key l) ls)) ≡ link_for (last_highest link (triple_key l) (ls ++ (l ∷ [])))
  unfolding link_deed
  triple_after f t p = elim (link? t) [
    | yes e ↦
        let q : kind l ≡ link = p ∙ e in
        let o : Option (List ℕ) = last_highest link (triple_key l) ls in
        let d : deed_of c l ≡ over_link (link_entry l) (link_for o) =
        deed_link c l q ∙ rw (F.link_found (triple_key l)) (limited_link_open (length c.links) (over_link (link_entry l) (link_for o)) (link_for o) (λ (x : link_for o ≡ none). f q (F.link_found (triple_key l) ∙ x))) in
        ap (λ (e : Deed). link_after e l (link_for o)) d ∙ link_after_lem l q o (own_link ls (triple_key l) o (highest_is ls link (triple_key l)))
        ∙ sym (ap link_for (highest_snoc link (triple_key l) l q refl ls))
    | no n ↦
        after_links l (deed_of c l) c (deed_fair c l) (λ (q : kind l ≡ link). n (sym p ∙ q)) (link_for (last_highest link (triple_key l) ls))
        ∙ sym (ap link_for (highest_snoc_other link (triple_key l) l (not_of l t link p n (triple_key l)) ls))
  ]

  pub follows_step : (kind l ≡ blank → ⊥) → FindsRoom c l → FindsLinkRoom c l → Follows (ls ++ (l ∷ [])) (step c l).after
  unfolding step
  follows_step b f g =
      let after = pair_after b f (kind l) refl in
      let held_at_lem : find key (key l) (done (deed_of c l) c l).after.held ≡ held_for (last_highest event (key l) (ls ++ (l ∷ []))) (last_highest delete (key l) (ls ++ (l ∷ []))) =
      done_held c l (deed_of c l) ∙ ap (held_after (deed_of c l) l) (F.held_found (key l)) ∙ after.0 in
      let deletion_at : find deletion_key (key l) (done (deed_of c l) c l).after.deletions ≡ deletion_for (last_highest delete (key l) (ls ++ (l ∷ []))) =
      done_deletion c l (deed_of c l) (deed_fair c l) ∙ ap (deletion_after (deed_of c l) l) (F.deletion_found (key l)) ∙ after.1 in
      let link_at : find link_key (triple_key l) (done (deed_of c l) c l).after.links ≡ link_for (last_highest link (triple_key l) (ls ++ (l ∷ []))) =
      done_link c l (deed_of c l) (deed_fair c l) ∙ ap (link_after (deed_of c l) l) (F.link_found (triple_key l)) ∙ triple_after g (kind l) refl in
      record {
        held_ascends = done_held_ascends c l (deed_of c l) F.held_ascends;
        deletion_ascends = done_deletion_ascends c l (deed_of c l) F.deletion_ascends;
        link_ascends = done_link_ascends c l (deed_of c l) F.link_ascends;
        held_found = λ (k : ℕ). elim (eq? (key l) k) [
          | eq e ↦
              subst (λ (j : ℕ). find key j (done (deed_of c l) c l).after.held ≡ held_for (last_highest event j (ls ++ (l ∷ []))) (last_highest delete j (ls ++ (l ∷ [])))) e held_at_lem
          | ne n ↦
              done_held_other c l (deed_of c l) k n ∙ F.held_found k
              ∙ sym (ap₂ held_for (highest_snoc_other event k l (λ (a : kind l ≡ event). n) ls) (highest_snoc_other delete k l (λ (a : kind l ≡ delete). n) ls))
        ];
        deletion_found = λ (k : ℕ). elim (eq? (key l) k) [
          | eq e ↦ subst (λ (j : ℕ). find deletion_key j (done (deed_of c l) c l).after.deletions ≡ deletion_for (last_highest delete j (ls ++ (l ∷ [])))) e deletion_at
          | ne n ↦
              done_deletion_other c l (deed_of c l) (deed_fair c l) k n ∙ F.deletion_found k
              ∙ sym (ap deletion_for (highest_snoc_other delete k l (λ (a : kind l ≡ delete). n) ls))
        ];
        link_found = λ (k : ℕ). elim (eq? (triple_key l) k) [
          | eq e ↦ subst (λ (j : ℕ). find link_key j (done (deed_of c l) c l).after.links ≡ link_for (last_highest link j (ls ++ (l ∷ [])))) e link_at
          | ne n ↦
              done_link_other c l (deed_of c l) (deed_fair c l) k n ∙ F.link_found k
              ∙ sym (ap link_for (highest_snoc_other link k l (λ (a : kind l ≡ link). n) ls))
        ];
      }

-- ---- a list

pub empty_follows : Follows [] empty
unfolding find last_highest held_for deletion_for link_for
empty_follows = record {
  held_ascends = tt;
  deletion_ascends = tt;
  link_ascends = tt;
  held_found = λ (k : ℕ). refl;
  deletion_found = λ (k : ℕ). refl;
  link_found = λ (k : ℕ). refl;
}

-- a pair that is named is that of an acceptable E or DE line, a link that of an LI line
follows_named : (ls : List (List ℕ)) (c : Catalogue) → Follows ls c → (k : ℕ) → Names c k → (x : List ℕ) × Occurs ls x × Acceptable x × (kind x ≡ link → ⊥) × (key x ≡ k)
unfolding deletion_for
follows_named ls c F k n = go (last_highest event k ls) refl (last_highest delete k ls) refl
  where
    go : (e : Option (List ℕ)) → last_highest event k ls ≡ e → (d : Option (List ℕ)) → last_highest delete k ls ≡ d
        → (x : List ℕ) × Occurs ls x × Acceptable x × (kind x ≡ link → ⊥) × (key x ≡ k)
    go e p (some y) q =
        let o = highest_found ls delete k y q in
        (y, o.inside, delete_ok y o.is_kind, λ (r : kind y ≡ link). link_delete (sym r ∙ o.is_kind), o.is_key)
    go (some x) p none q =
        let o = highest_found ls event k x p in
        (x, o.inside, event_ok x o.is_kind, λ (r : kind x ≡ link). link_event (sym r ∙ o.is_kind), o.is_key)
    go none p none q = absurd (n (F.deletion_found k ∙ ap deletion_for q) (F.held_found k ∙ ap₂ held_for p q ∙ held_nothing none))

follows_linked : (ls : List (List ℕ)) (c : Catalogue) → Follows ls c → (k : ℕ) (e : List ℕ) → find link_key k c.links ≡ some e → (x : List ℕ) × Of (Occurs ls) link k x
follows_linked ls c F k e q = let r = link_chosen (last_highest link k ls) e (sym (F.link_found k) ∙ q) in (r.0, highest_found ls link k r.0 r.1)

-- the keys of a list's pairs are among ks, those of its triples among ts
pub record Within (ks ts : List ℕ) (ls : List (List ℕ)) : Type 0 where
  pub pair_in : (x : List ℕ) → Occurs ls x → Acceptable x → (kind x ≡ link → ⊥) → Memᴰ (key x) ks
  pub triple_in : (x : List ℕ) → Occurs ls x → kind x ≡ link → Memᴰ (triple_key x) ts

within_more : (ks ts : List ℕ) (ls : List (List ℕ)) (l : List ℕ) (ms : List (List ℕ)) → Within ks ts ls → Within ks ts (l ∷ ms) → Within ks ts (ls ++ (l ∷ []))
within_more ks ts ls l ms f g = record {
  pair_in = λ (x : List ℕ) (m : Occurs (ls ++ (l ∷ [])) x). elim (Memᴰ.append_cases ls m) [
    | inl u ↦ f.pair_in x u
    | inr u ↦ g.pair_in x (Memᴰ.head (Memᴰ.eq_of_singleton u))
  ];
  triple_in = λ (x : List ℕ) (m : Occurs (ls ++ (l ∷ [])) x). elim (Memᴰ.append_cases ls m) [
    | inl u ↦ f.triple_in x u
    | inr u ↦ g.triple_in x (Memᴰ.head (Memᴰ.eq_of_singleton u))
  ];
}

module _ (ks ts : List ℕ) (few : length ks ≤ 512) (few_links : length ts ≤ 64) where
  run_from : (ms ls : List (List ℕ)) (c : Catalogue) → Follows ls c → Within ks ts ls → Within ks ts ms → ((x : List ℕ) → Occurs ms x → kind x ≡ blank → ⊥)
      → Follows (ls ++ ms) (run c ms)
  unfolding run
  run_from [] ls c F f g b = rw append-nil F
  run_from (l ∷ ms) ls c F f g b =
      let within : (z : ℕ) → Names c z → Memᴰ z ks =
      λ (z : ℕ) (n : Names c z). let r = follows_named ls c F z n in Memᴰ.cast (sym r.4) (f.pair_in r.0 r.1 r.2 r.3) in
      let linked : (z : ℕ) (e : List ℕ) → find link_key z c.links ≡ some e → Memᴰ z ts =
      λ (z : ℕ) (e : List ℕ) (q : find link_key z c.links ≡ some e). let r = follows_linked ls c F z e q in Memᴰ.cast (sym r.1.is_key) (f.triple_in r.0 r.1.inside r.1.is_kind) in
      let here : Occurs (l ∷ ms) l = Memᴰ.head refl in
      let G : Follows (ls ++ (l ∷ [])) (step c l).after =
      follows_step ls c F l (b l here)
      (λ (a : Acceptable l) (n : kind l ≡ link → ⊥). named_room c F.held_ascends F.deletion_ascends ks within few (key l) (g.pair_in l here a n))
      (λ (p : kind l ≡ link) (q : find link_key (triple_key l) c.links ≡ none). omega (arith, fewer link_key c.links 0 F.link_ascends ts linked (triple_key l) (g.triple_in l here p) q)) in
      subst (λ (xs : List (List ℕ)). Follows xs (run (step c l).after ms)) (append_assoc ls (l ∷ []) ms)
      (run_from ms (ls ++ (l ∷ [])) (step c l).after G (within_more ks ts ls l ms f g)
      (record { pair_in = λ (x : List ℕ) (m : Occurs ms x). g.pair_in x (Memᴰ.tail m); triple_in = λ (x : List ℕ) (m : Occurs ms x). g.triple_in x (Memᴰ.tail m) })
      (λ (x : List ℕ) (m : Occurs ms x). b x (Memᴰ.tail m)))

pub run_follows : (ls : List (List ℕ)) → Bounded ls → Follows ls (run empty ls)
unfolding key
run_follows ls s =
    run_from (map (λ (p : List ℕ). key_of p []) s.pairs) (map key_of_triple s.triples) (simp length-map s.few) (simp length-map s.few_triples) ls [] empty empty_follows
    (record { pair_in = λ (x : List ℕ) (m : Occurs [] x). absurd (Memᴰ.not-nil m); triple_in = λ (x : List ℕ) (m : Occurs [] x). absurd (Memᴰ.not-nil m) })
    (record {
      pair_in = λ (x : List ℕ) (m : Occurs ls x) (a : Acceptable x) (n : kind x ≡ link → ⊥). Memᴰ.map (λ (p : List ℕ). key_of p []) (s.named_there x m a n);
      triple_in = λ (x : List ℕ) (m : Occurs ls x) (p : kind x ≡ link). Memᴰ.cast (triple_keyed x p) (Memᴰ.map key_of_triple (s.triple_there x m p));
    }) s.no_blank

-- ---- the computed catalogue

module _ (ls : List (List ℕ)) where
  -- what stands for a key in each section
  abbrev held_at : ℕ → Option (List ℕ)
  held_at k = held_for (last_highest event k ls) (last_highest delete k ls)

  abbrev deleted_at : ℕ → Option (List ℕ)
  deleted_at k = deletion_for (last_highest delete k ls)

  held_of : (k : ℕ) (x : List ℕ) → held_at k ≡ some x → Of (Occurs ls) event k x
  held_of k x q = highest_found ls event k x (held_chosen (last_highest event k ls) (last_highest delete k ls) x q)

  held_key_lem : (k : ℕ) (x : List ℕ) → held_at k ≡ some x → key x ≡ k
  held_key_lem k x q = (held_of k x q).is_key

  deleted_of : (k : ℕ) (x : List ℕ) → deleted_at k ≡ some x → (y : List ℕ) × Of (Occurs ls) delete k y × (x ≡ deletion y (version y))
  deleted_of k x q = let r = deletion_chosen (last_highest delete k ls) x q in (r.0, highest_found ls delete k r.0 r.1, r.2)

  abbrev linked_at : ℕ → Option (List ℕ)
  linked_at k = link_for (last_highest link k ls)

  linked_of : (k : ℕ) (e : List ℕ) → linked_at k ≡ some e → (x : List ℕ) × Of (Occurs ls) link k x × (e ≡ link_entry x)
  linked_of k e q = let r = link_chosen (last_highest link k ls) e q in (r.0, highest_found ls link k r.0 r.1, r.2)

  linked_key : (k : ℕ) (e : List ℕ) → linked_at k ≡ some e → link_key e ≡ k
  linked_key k e q = let r = linked_of k e q in ap link_key r.2 ∙ entry_key r.0 (link_whole r.0 r.1.is_kind) ∙ r.1.is_key

  deleted_key : (k : ℕ) (x : List ℕ) → deleted_at k ≡ some x → deletion_key x ≡ k
  deleted_key k x q =
      let r = deleted_of k x q in
      ap deletion_key r.2 ∙ deletion_key_lem r.0 (version r.0) (whole r.0 (delete_ok r.0 r.1.is_kind)).long ∙ r.1.is_key

  pub last_follows : Follows ls (last_catalogue ls)
  unfolding last_catalogue
  last_follows = record {
    held_ascends = collect_asc key held_at held_key_lem (keys event ls) 0 (keys_asc event ls);
    deletion_ascends = collect_asc deletion_key deleted_at deleted_key (keys delete ls) 0 (keys_asc delete ls);
    link_ascends = collect_asc link_key linked_at linked_key (keys link ls) 0 (keys_asc link ls);
    held_found = λ (k : ℕ). collected key held_at held_key_lem (keys event ls) k (keys_asc event ls) (λ (x : List ℕ) (q : held_at k ≡ some x). of_listed event ls (held_of k x q));
    deletion_found =
        λ (k : ℕ). collected deletion_key deleted_at deleted_key (keys delete ls) k (keys_asc delete ls) (λ (x : List ℕ) (q : deleted_at k ≡ some x). of_listed delete ls (deleted_of k x q).1);
    link_found = λ (k : ℕ). collected link_key linked_at linked_key (keys link ls) k (keys_asc link ls) (λ (e : List ℕ) (q : linked_at k ≡ some e). of_listed link ls (linked_of k e q).1);
  }

-- the catalogue after a list is the computed one
pub run_last : (ls : List (List ℕ)) → Bounded ls → run empty ls ≡ last_catalogue ls
run_last ls s = follows_one ls (run empty ls) (last_catalogue ls) (run_follows ls s) (last_follows ls)

-- ---- two lists whose last highest E and LI lines and whose highest deletes' deletions agree

module _ (ls ms : List (List ℕ)) (f : (k : ℕ) → last_highest event k ls ≡ last_highest event k ms)
    (g : (k : ℕ) → deletion_for (last_highest delete k ls) ≡ deletion_for (last_highest delete k ms)) (h : (k : ℕ) → last_highest link k ls ≡ last_highest link k ms) where
  pub follows_agree : (c : Catalogue) → Follows ls c → Follows ms c
  follows_agree c F = record {
    held_ascends = F.held_ascends;
    deletion_ascends = F.deletion_ascends;
    link_ascends = F.link_ascends;
    held_found =
        λ (k : ℕ). F.held_found k
        ∙ ap (λ (o : Option (List ℕ)). held_for o (last_highest delete k ls)) (f k)
        ∙ held_deletion k (last_highest event k ms) (last_highest delete k ls) (last_highest delete k ms) (own_highest ls k) (own_highest ms k) (g k);
    deletion_found = λ (k : ℕ). F.deletion_found k ∙ g k;
    link_found = λ (k : ℕ). F.link_found k ∙ ap link_for (h k);
  }

  pub last_agree : Bounded ls → Bounded ms → run empty ls ≡ run empty ms
  last_agree s t = follows_one ms (run empty ls) (run empty ms) (follows_agree (run empty ls) (run_follows ls s)) (run_follows ms t)
