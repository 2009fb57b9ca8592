-- The order check: a law for each of its answers.
use Rattle.std.proofs.Common.{Option, Some, None}
use Prim.Native.Nat.{ℕ, ◌+◌, ◌-◌, ◌≤◌, ◌<◌}
use mathlib.Core.Path.{◌≡◌, refl, sym, ◌∙◌, ap, subst}
use mathlib.Core.Bool.{Bool, true, false, ◌&&◌}
use mathlib.Core.List.{List, ◌++◌}
use native.Mathlib.Omega.{arith}
use lib.ListN.{length, take, drop, get_or, length-drop}
use lib.Seq.{take_all, length-take-le}
use Rattle.columns.specs.Answer.{pick}
use Rattle.columns.specs.Bytes.{same_bytes}
use Rattle.catalogue.specs.declared.section.Section.{Section}
use Rattle.catalogue.specs.Line.{key, deletion_key, link_key}
use Rattle.catalogue.specs.Assoc.{AscFrom}
use Rattle.catalogue.specs.Section.{laid, said}
use Rattle.catalogue.specs.Catalogue.{Catalogue, empty, parts, only_held, named}
use Rattle.catalogue.specs.Good.{ascends, every, held_ok, deletion_ok, link_ok, good}
use Rattle.catalogue.specs.Room.{room_of, room_size, encode, contents, is_in_order}
use Rattle.catalogue.specs.Ordered.{Ordered}
use Rattle.catalogue.specs.Entries.{entries_of, key_of_entry, Inside}
use Rattle.catalogue.specs.Places.{end_of, held_in, deletions_in, links_in}
use Rattle.catalogue.specs.Keys.{two}
use Rattle.catalogue.specs.Zeros.{all_zero}
use Rattle.catalogue.proofs.laws.assoc.Tests.{and_both, pick_by, picked, unpicked, asc_of}
use Rattle.catalogue.proofs.laws.section.Rows.{entries_length}
use Rattle.catalogue.proofs.laws.section.Laid.{used, laid_length, laid_said}
use Rattle.catalogue.proofs.laws.step.Good.{Tests, tests_of, tests_good, good_of, good_fits}
use Rattle.catalogue.proofs.laws.room.Encode.{room_size_lem}
use Rattle.catalogue.proofs.laws.room.View.{same_contents}
use Rattle.catalogue.proofs.laws.room.Places.{held_key_lem, deletion_key_lem, link_key_lem, contents_entries, few, held_lies, deletions_lie, links_lie}
use Rattle.catalogue.proofs.laws.room.Zeros.{zero_rest}

differ : (b : Bool) → b ≡ true → b ≡ false → ⊥
differ b e f = let z : ◌≡◌ {A = ℕ} 0 1 = cc in omega arith

-- how many pairs a room in order names
abbrev pub PairsOf : List ℕ → Option ℕ → Type 0
PairsOf s o = o ≡ pick (is_in_order s) (Some (named (contents s))) None

module _ (s : List ℕ) (len : length s ≡ room_size) where
  refused : (is_in_order s ≡ true → ⊥) → PairsOf s None
  refused h = pick_by (λ (o : Option ℕ). None ≡ o) (is_in_order s) (Some (named (contents s))) None (λ e. absurd (h e)) (λ e. refl)

  as_ordered : is_in_order s ≡ true → Ordered s
  as_ordered e = record { long = omega (arith, len); fine = ap is_in_order (take_all room_size s (omega (arith, len))) ∙ e }

  pub many_held : {held : Section} → held ≡ held_in s → 512 < held.count → PairsOf s None
  many_held e h = refused (λ (o : is_in_order s ≡ true). omega (arith, (few s (as_ordered o)).0, ap (λ (x : Section). x.count) e))

  pub held_end : {held : Section} → held ≡ held_in s → held.count ≤ 512 → end_of held + 2 ≤ length s
  held_end e h = omega (arith, ap end_of e, ap (λ (x : Section). x.count) e, len, room_size_lem)

  pub deletions_end : {held deletions : Section} → held ≡ held_in s → deletions ≡ deletions_in s → held.count ≤ 512 → deletions.count ≤ 512 → end_of deletions + 2 ≤ length s
  deletions_end d e h k = omega (arith, ap end_of e, ap (λ (x : Section). x.count) d, ap (λ (x : Section). x.count) e, len, room_size_lem)

  pub many_links : {links : Section} → links ≡ links_in s → 64 < links.count → PairsOf s None
  many_links e h = refused (λ (o : is_in_order s ≡ true). omega (arith, (few s (as_ordered o)).2, ap (λ (x : Section). x.count) e))

  pub many_deletions : {deletions : Section} → deletions ≡ deletions_in s → 512 < deletions.count → PairsOf s None
  many_deletions e h = refused (λ (o : is_in_order s ≡ true). omega (arith, (few s (as_ordered o)).1, ap (λ (x : Section). x.count) e))

-- ---- the sections that the code reads, neither too long

pub record Sections (s : List ℕ) (held deletions links : Section) : Type 0 where
  pub full : length s ≡ room_size
  pub held_is : held ≡ held_in s
  pub deletions_are : deletions ≡ deletions_in s
  pub links_are : links ≡ links_in s
  pub few_held : held.count ≤ 512
  pub few_deletions : deletions.count ≤ 512
  pub few_links : links.count ≤ 64

-- the catalogue of their entries
abbrev read : List ℕ → Section → Section → Section → Catalogue
read s held deletions links = record { held = entries_of held s; deletions = entries_of deletions s; links = entries_of links s }

module _ {s : List ℕ} {held deletions links : Section} (S : Sections s held deletions links) where
  counts : (held.count ≡ two s 0) × (deletions.count ≡ two s (end_of (held_in s))) × (links.count ≡ two s (end_of (deletions_in s)))
  counts = (ap (λ (x : Section). x.count) S.held_is, ap (λ (x : Section). x.count) S.deletions_are, ap (λ (x : Section). x.count) S.links_are)

  pub links_end : end_of links ≤ 62982
  links_end = omega (arith, ap end_of S.links_are, counts.0, counts.1, counts.2, S.few_held, S.few_deletions, S.few_links)

  pub held_within : Inside held s
  held_within = rw S.held_is (held_lies s (omega (arith, counts.0, S.few_held, S.full, room_size_lem)))

  pub deletions_within : Inside deletions s
  deletions_within = rw S.deletions_are (deletions_lie s (omega (arith, counts.0, counts.1, S.few_held, S.few_deletions, S.full, room_size_lem)))

  pub links_within : Inside links s
  links_within = rw S.links_are (links_lie s (omega (arith, ap end_of S.links_are, links_end, S.full, room_size_lem)))

  contents_are : contents s ≡ read s held deletions links
  contents_are = contents_entries s ∙ sym (rw (S.held_is, S.deletions_are, S.links_are))

  tests : is_in_order s ≡ true → Tests (read s held deletions links)
  unfolding is_in_order
  tests e = tests_of (read s held deletions links) (ap good (sym contents_are) ∙ (and_both (good (contents s)) (same_bytes (encode (contents s)) s) e).0)

  -- a test that fails
  fails : {b : Bool} → (Tests (read s held deletions links) → b ≡ true) → b ≡ false → PairsOf s None
  fails {b} t e = refused s S.full (λ (o : is_in_order s ≡ true). differ b (t (tests o)) e)

  pub keyed : (key_of_entry held ≡ key) × (key_of_entry deletions ≡ deletion_key)
  keyed = (ap key_of_entry S.held_is ∙ held_key_lem s, ap key_of_entry S.deletions_are ∙ deletion_key_lem s)

  held_same : ascends (key_of_entry held) 0 (entries_of held s) ≡ ascends key 0 (entries_of held s)
  held_same = ap (λ (f : List ℕ → ℕ). ascends f 0 (entries_of held s)) keyed.0

  deletions_same : ascends (key_of_entry deletions) 0 (entries_of deletions s) ≡ ascends deletion_key 0 (entries_of deletions s)
  deletions_same = ap (λ (f : List ℕ → ℕ). ascends f 0 (entries_of deletions s)) keyed.1

  links_same : ascends (key_of_entry links) 0 (entries_of links s) ≡ ascends link_key 0 (entries_of links s)
  links_same = ap (λ (f : List ℕ → ℕ). ascends f 0 (entries_of links s)) (ap key_of_entry S.links_are ∙ link_key_lem s)

  -- what is tested of the sections by themselves
  abbrev pub tested : Bool
  tested =
      ((ascends (key_of_entry deletions) 0 (entries_of deletions s) && ascends (key_of_entry held) 0 (entries_of held s)) && every deletion_ok (entries_of deletions s))
      && (ascends (key_of_entry links) 0 (entries_of links s) && every link_ok (entries_of links s))

  pub unfit : tested ≡ false → PairsOf s None
  unfit = fails (λ (t : Tests (read s held deletions links)). rw (deletions_same, t.deletions_ascend, held_same, t.held_ascends, t.deletions_fine, links_same, t.links_ascend) t.links_fine)

  fit : tested ≡ true → (ascends deletion_key 0 (entries_of deletions s) ≡ true) × (ascends key 0 (entries_of held s) ≡ true)
      × (every deletion_ok (entries_of deletions s) ≡ true) × (ascends link_key 0 (entries_of links s) ≡ true) × (every link_ok (entries_of links s) ≡ true)
  fit e =
      let p = and_both ((ascends (key_of_entry deletions) 0 (entries_of deletions s) && ascends (key_of_entry held) 0 (entries_of held s)) && every deletion_ok (entries_of deletions s)) (ascends (key_of_entry links) 0 (entries_of links s) && every link_ok (entries_of links s)) e in
      let q = and_both (ascends (key_of_entry deletions) 0 (entries_of deletions s) && ascends (key_of_entry held) 0 (entries_of held s)) (every deletion_ok (entries_of deletions s)) p.0 in
      let r = and_both (ascends (key_of_entry deletions) 0 (entries_of deletions s)) (ascends (key_of_entry held) 0 (entries_of held s)) q.0 in
      let k = and_both (ascends (key_of_entry links) 0 (entries_of links s)) (every link_ok (entries_of links s)) p.1 in
      (sym deletions_same ∙ r.0, sym held_same ∙ r.1, q.1, sym links_same ∙ k.0, k.1)

  pub held_asc : tested ≡ true → AscFrom key 0 (entries_of held s)
  held_asc e = asc_of key 0 (entries_of held s) (fit e).1

  pub deletions_asc : tested ≡ true → AscFrom deletion_key 0 (entries_of deletions s)
  deletions_asc e = asc_of deletion_key 0 (entries_of deletions s) (fit e).0

  -- a held line that is refused
  pub held_unfit : None ≡ pick (every (held_ok (entries_of deletions s)) (entries_of held s)) (Some (length (only_held (entries_of deletions s) (entries_of held s)))) None → PairsOf s None
  held_unfit e =
      fails (λ (t : Tests (read s held deletions links)). t.held_fine)
      (unpicked (every (held_ok (entries_of deletions s)) (entries_of held s)) None e (λ u v. cc))

  -- the held lines that no deletion names, counted
  module _ {k : ℕ} (counted : Some k ≡ pick (every (held_ok (entries_of deletions s)) (entries_of held s)) (Some (length (only_held (entries_of deletions s) (entries_of held s)))) None) where
    held_all : (every (held_ok (entries_of deletions s)) (entries_of held s) ≡ true) × (k ≡ length (only_held (entries_of deletions s) (entries_of held s)))
    held_all =
        let p : (every (held_ok (entries_of deletions s)) (entries_of held s) ≡ true) × (Some k ≡ Some (length (only_held (entries_of deletions s) (entries_of held s)))) =
        picked (every (held_ok (entries_of deletions s)) (entries_of held s)) counted (λ e. cc) in
        (p.0, cc (p.1))

    pub many_named : 512 < deletions.count + k → PairsOf s None
    unfolding named
    many_named h =
        refused s S.full (λ (e : is_in_order s ≡ true). omega (arith, held_all.1, (tests e).few_named, entries_length deletions s))

    module _ (fine : tested ≡ true) (low : deletions.count + k ≤ 512) where
      good_contents : good (contents s) ≡ true
      unfolding named
      good_contents =
          ap good contents_are
          ∙ tests_good (read s held deletions links) (record {
            held_ascends = (fit fine).1;
            deletions_ascend = (fit fine).0;
            held_fine = held_all.0;
            deletions_fine = (fit fine).2;
            few_named = omega (arith, held_all.1, entries_length deletions s);
            links_ascend = (fit fine).3;
            links_fine = (fit fine).4;
            few_links = omega (arith, S.few_links, entries_length links s);
          })

      named_is : deletions.count + k ≡ named (contents s)
      unfolding named
      named_is = omega (arith, held_all.1, entries_length deletions s, ap (λ (c : Catalogue). named c) contents_are)

      laid_is : length (laid (parts (contents s))) ≡ used (parts (contents s))
      laid_is = laid_length (parts (contents s)) (good_fits (contents s) (good_of (contents s) good_contents))

      module _ (small : (i : ℕ) → get_or s i 0 < 256) {u : ℕ} (end : u ≡ end_of links) where
        used_is : length (laid (parts (contents s))) ≡ u
        used_is =
            omega (
              arith,
              laid_is,
              ap (λ (c : Catalogue). length c.held) contents_are,
              ap (λ (c : Catalogue). length c.deletions) contents_are,
              ap (λ (c : Catalogue). length c.links) contents_are,
              entries_length held s,
              entries_length deletions s,
              entries_length links s,
              counts.0,
              counts.1,
              counts.2,
              ap end_of S.links_are,
            )

        front : laid (parts (contents s)) ++ drop (length (laid (parts (contents s)))) s ≡ s
        unfolding contents said
        front =
            ap (λ (n : ℕ). laid (parts (contents s)) ++ drop n s) laid_is
            ∙ laid_said (parts empty) s small (omega (arith, laid_is, used_is, links_end, S.full, room_size_lem))

        in_order_is : is_in_order s ≡ all_zero (take (length s - u) (drop u s))
        unfolding is_in_order encode room_of
        in_order_is =
            let rest : take (length s - u) (drop u s) ≡ drop (length (laid (parts (contents s)))) s =
            take_all (length s - u) (drop u s) (simp length-drop (omega arith)) ∙ ap (λ (n : ℕ). drop n s) (sym used_is) in
            rw (good_contents, ← S.full) (zero_rest (laid (parts (contents s))) s front ∙ ap all_zero (sym rest))

        -- what is left to test is that the rest is zero
        pub named_pairs : {z : Bool} → z ≡ all_zero (take (length s - u) (drop u s)) → PairsOf s (pick z (Some (deletions.count + k)) None)
        named_pairs e = rw (e, ← in_order_is, named_is)

-- ---- the first bytes of a longer room

module _ (r : List ℕ) (long : 62982 ≤ length r) where
  front_is : take 62982 r ≡ take room_size r
  front_is = ap (λ (n : ℕ). take n r) (sym room_size_lem)

  pub front_length : length (take 62982 r) ≡ room_size
  front_length = ap length front_is ∙ length-take-le room_size r (omega (arith, room_size_lem))

  module _ {o : Option ℕ} (counted : PairsOf (take 62982 r) o) where
    front_counted : PairsOf (take room_size r) o
    front_counted = subst (λ (s : List ℕ). PairsOf s o) front_is counted

    front_picked : (o ≡ None → ⊥) → (is_in_order (take room_size r) ≡ true) × (o ≡ Some (named (contents (take room_size r))))
    front_picked e = picked (is_in_order (take room_size r)) front_counted e

    pub front_ordered : (o ≡ None → ⊥) → Ordered r
    front_ordered e = record { long = omega (arith, room_size_lem); fine = (front_picked e).0 }

    pub front_disordered : o ≡ None → is_in_order (take room_size r) ≡ false
    front_disordered e = unpicked (is_in_order (take room_size r)) None front_counted (λ f g. cc)

    -- and then the number is right
    pub front_named : {n : ℕ} → o ≡ Some n → n ≡ named (contents r)
    front_named {n} e =
        let h : o ≡ None → ⊥ = λ (q : o ≡ None). cc in
        let f : o ≡ Some (named (contents (take room_size r))) = (front_picked h).1 in
        let g : n ≡ named (contents (take room_size r)) = cc in
        g ∙ sym (ap named (same_contents r (front_ordered h)))
