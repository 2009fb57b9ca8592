-- Each turn is one of the rule; the stretch grows shorter, and what may still be examined is enough for it.
use native.Mathlib.Omega.{arith}
use Rattle.catalogue.specs.Keys.{pair_key, key_number}
use Rattle.catalogue.proofs.laws.room.QuickLookUp.{one_left, middle_held, half_after, half_before, search_empty, search_met, search_after, search_before}
use Rattle.catalogue.proofs.quick_look_up.+search.Goals as goal

pub returns-then-end-first : goal.returns-then-end-first
returns-then-end-first t c =
    search_empty c.requires (key_number (pair_key c.args.source c.args.identifier)) c.if-end-first.true

pub overflow_add-middle : goal.overflow_add-middle
overflow_add-middle t c = omega (arith, c.requires.low, c.if-end-first.false)

pub overflow_sub-left : goal.overflow_sub-left
overflow_sub-left t c = omega (arith, one_left c.requires c.if-end-first.false)

pub held_in-requires : goal.held_in-requires
held_in-requires t c = omega (arith, c.requires.inside.fits)

pub invariant_of-held : goal.invariant_of-held
invariant_of-held t c =
    record { inside = (middle_held c.requires c.if-end-first.false c.held_in.ensures).0 }

pub key_of-here-requires : goal.key_of-here-requires
key_of-here-requires t c =
    omega (arith, (middle_held c.requires c.if-end-first.false c.held_in.ensures).1)

pub returns-then-equal : goal.returns-then-equal
returns-then-equal t c =
    let a = c.args in
    search_met c.requires c.if-end-first.false c.held_in.ensures c.key_of-here.ensures (key_number (pair_key a.source a.identifier)) c.equal.ensures c.if-equal.true

pub overflow_add-middle-then-before : goal.overflow_add-middle-then-before
overflow_add-middle-then-before t c = omega (arith, c.requires.low, c.if-end-first.false)

pub search-requires : goal.search-requires
search-requires t c = (omega (arith, c.if-end-first.false), half_after c.requires c.if-end-first.false)

pub returns-then-before : goal.returns-then-before
returns-then-before t c =
    let a = c.args in
    search_after c.requires c.if-end-first.false c.held_in.ensures c.key_of-here.ensures (key_number (pair_key a.source a.identifier)) c.equal.ensures c.if-equal.false c.before-2.ensures c.if-before.true c.search.ensures

pub search-requires-2 : goal.search-requires-2
search-requires-2 t c = (omega (arith, c.if-end-first.false), half_before c.requires c.if-end-first.false)

pub returns : goal.returns
returns t c =
    let a = c.args in
    search_before c.requires c.if-end-first.false c.held_in.ensures c.key_of-here.ensures (key_number (pair_key a.source a.identifier)) c.equal.ensures c.if-equal.false c.before-2.ensures c.if-before.false c.search-2.ensures
