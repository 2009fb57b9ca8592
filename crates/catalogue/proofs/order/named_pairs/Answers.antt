use native.Mathlib.Omega.{arith}
use mathlib.Core.Path.{sym, ◌∙◌, ap}
use Prim.Native.Nat.{ℕ}
use Rattle.catalogue.specs.declared.section.Section.{Section}
use Rattle.catalogue.proofs.laws.room.Encode.{room_size_lem}
use Rattle.catalogue.proofs.laws.room.Order.{Sections, many_held, held_end, held_within, many_deletions, deletions_end, deletions_within, many_links, links_end, links_within, keyed, held_asc, deletions_asc, unfit, held_unfit, many_named, named_pairs}
use Rattle.catalogue.proofs.order.named_pairs.Goals as goal
use Rattle.catalogue.proofs.order.named_pairs.Goals.{Else-links-gt-LINKS, else-named-le-PAIRS-via-then-named-le-PAIRS+else-zeros, else-named-le-PAIRS-via-else-named-le-PAIRS}

-- the three sections, once none is too long
sections : (c : Else-links-gt-LINKS) → Sections c.args.s.now c.held_in-held.result c.deletions_in-deletions.result c.links_in-links.result
sections c = record {
  full = c.requires;
  held_is = c.held_in-held.ensures;
  deletions_are = c.deletions_in-deletions.ensures;
  links_are = c.links_in-links.ensures;
  few_held = c.if-held-gt-PAIRS.false;
  few_deletions = c.if-deletions-gt-PAIRS.false;
  few_links = c.if-links-gt-LINKS.false;
}

pub held_in-held-requires : goal.held_in-held-requires
held_in-held-requires c =
    omega (arith, c.requires, room_size_lem)

pub returns-then-held-gt-PAIRS : goal.returns-then-held-gt-PAIRS
returns-then-held-gt-PAIRS c =
    many_held c.args.s.now c.requires c.held_in-held.ensures c.if-held-gt-PAIRS.true

pub deletions_in-deletions-requires : goal.deletions_in-deletions-requires
deletions_in-deletions-requires c =
    (c.held_in-held.ensures, held_end c.args.s.now c.requires c.held_in-held.ensures c.if-held-gt-PAIRS.false)

pub returns-then-deletions-gt-PAIRS : goal.returns-then-deletions-gt-PAIRS
returns-then-deletions-gt-PAIRS c =
    many_deletions c.args.s.now c.requires c.deletions_in-deletions.ensures c.if-deletions-gt-PAIRS.true

pub links_in-links-requires : goal.links_in-links-requires
links_in-links-requires c =
    (c.deletions_in-deletions.ensures, deletions_end c.args.s.now c.requires c.held_in-held.ensures c.deletions_in-deletions.ensures c.if-held-gt-PAIRS.false c.if-deletions-gt-PAIRS.false)

pub returns-then-links-gt-LINKS : goal.returns-then-links-gt-LINKS
returns-then-links-gt-LINKS c =
    many_links c.args.s.now c.requires c.links_in-links.ensures c.if-links-gt-LINKS.true

pub end_of-used-requires : goal.end_of-used-requires
end_of-used-requires c =
    omega (arith, links_end (sections c), c.requires, room_size_lem)

pub invariant_of-held : goal.invariant_of-held
invariant_of-held c =
    record { inside = held_within (sections (goal.at.invariant_of-held c).Else-links-gt-LINKS) }

pub invariant_of-deletions : goal.invariant_of-deletions
invariant_of-deletions c =
    record { inside = deletions_within (sections (goal.at.invariant_of-deletions c).Else-links-gt-LINKS) }

pub invariant_of-links : goal.invariant_of-links
invariant_of-links c =
    record { inside = links_within (sections (goal.at.invariant_of-links c).Else-links-gt-LINKS) }

pub returns-then-not-sections_fine : goal.returns-then-not-sections_fine
returns-then-not-sections_fine c =
    unfit (sections (goal.at.returns-then-not-sections_fine c).Else-links-gt-LINKS) (sym c.sections_fine.ensures ∙ c.if-not-sections_fine.true)

pub only_held-requires : goal.only_held-requires
only_held-requires c =
    let s = sections (goal.at.only_held-requires c).Else-links-gt-LINKS in
    let k = keyed s in
    let e = sym c.sections_fine.ensures ∙ c.if-not-sections_fine.false in
    (ap (λ (x : Section). x.size) s.held_is, k.0, ap (λ (x : Section). x.size) s.deletions_are, k.1, s.few_held, held_asc s e, deletions_asc s e)

pub returns-in_err-named : goal.returns-in_err-named
returns-in_err-named c =
    c.from_residual.ensures
    ∙ held_unfit (sections (goal.at.returns-in_err-named c).Else-links-gt-LINKS) (sym c.in_err-named.was ∙ c.only_held.ensures.0)

pub returns-then-zeros : goal.returns-then-zeros
returns-then-zeros c =
    rw c.if-zeros.true at
    (named_pairs (sections (goal.at.returns-then-zeros c).Else-links-gt-LINKS) (sym c.in_ok-named.was ∙ c.only_held.ensures.0) (sym c.sections_fine.ensures ∙ c.if-not-sections_fine.false)
    c.if-named-le-PAIRS.true (λ (i : ℕ). omega (arith, c.type_inv.s i)) c.end_of-used.ensures c.zeros.ensures)

pub returns-else-named-le-PAIRS : goal.returns-else-named-le-PAIRS
returns-else-named-le-PAIRS c =
    let s = sections (goal.at.returns-else-named-le-PAIRS c).Else-links-gt-LINKS in
    let k = sym c.in_ok-named.was ∙ c.only_held.ensures.0 in
    elim c.else-named-le-PAIRS.branch [
      | else-named-le-PAIRS-via-then-named-le-PAIRS+else-zeros w ↦
          rw w.if-zeros.false at
          (named_pairs s k (sym c.sections_fine.ensures ∙ c.if-not-sections_fine.false) w.if-named-le-PAIRS.true (λ (i : ℕ). omega (arith, c.type_inv.s i)) c.end_of-used.ensures w.zeros.ensures)
      | else-named-le-PAIRS-via-else-named-le-PAIRS w ↦ many_named s k w.if-named-le-PAIRS.false
    ]
