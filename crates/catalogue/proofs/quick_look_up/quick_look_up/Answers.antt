use native.Mathlib.Omega.{arith}
use mathlib.Core.Path.{refl, ◌∙◌, ap, subst}
use Prim.Native.Nat.{ℕ, ◌≤◌}
use Rattle.catalogue.specs.declared.section.Section.{Section}
use Rattle.catalogue.specs.Halving.{binary_digits}
use Rattle.catalogue.proofs.laws.room.Encode.{room_size_lem}
use Rattle.catalogue.proofs.laws.room.LookUp.{key_pair}
use Rattle.catalogue.proofs.laws.room.QuickLookUp.{held_total, low_inside, quick_short, quick_disorder, quick_source, quick_identifier, quick_searched, answered}
use Rattle.catalogue.proofs.quick_look_up.quick_look_up.Goals as goal

pub returns-then-room-lt-ROOM : goal.returns-then-room-lt-ROOM
returns-then-room-lt-ROOM c =
    let a = c.args in
    answered a.room.now a.source.now a.identifier.now
    (quick_short a.room.now a.source.now a.identifier.now (omega (arith, room_size_lem, c.if-room-lt-ROOM.true)))

pub returns-then-count-gt-PAIRS : goal.returns-then-count-gt-PAIRS
returns-then-count-gt-PAIRS c =
    let a = c.args in
    answered a.room.now a.source.now a.identifier.now
    (quick_disorder a.room.now a.source.now a.identifier.now (omega (arith, room_size_lem, c.if-room-lt-ROOM.false)) (omega (arith, (ap (λ (x : Section). x.count) c.held_in-held.ensures ∙ held_total c.args.room.now), c.if-count-gt-PAIRS.true)))

pub returns-then-source-ne2 : goal.returns-then-source-ne2
returns-then-source-ne2 c =
    let a = c.args in
    answered a.room.now a.source.now a.identifier.now
    (quick_source a.room.now a.source.now a.identifier.now (omega (arith, room_size_lem, c.if-room-lt-ROOM.false)) (omega (arith, ap (λ (x : Section). x.count) c.held_in-held.ensures ∙ held_total c.args.room.now, c.if-count-gt-PAIRS.false)) c.if-source-ne2.true)

pub returns-then-identifier-ne8 : goal.returns-then-identifier-ne8
returns-then-identifier-ne8 c =
    let a = c.args in
    answered a.room.now a.source.now a.identifier.now
    (quick_identifier a.room.now a.source.now a.identifier.now (omega (arith, room_size_lem, c.if-room-lt-ROOM.false)) (omega (arith, ap (λ (x : Section). x.count) c.held_in-held.ensures ∙ held_total c.args.room.now, c.if-count-gt-PAIRS.false)) c.if-source-ne2.false c.if-identifier-ne8.true)

pub search_all-requires : goal.search_all-requires
search_all-requires c =
    (low_inside c.args.room.now (omega (arith, room_size_lem, c.if-room-lt-ROOM.false)) (omega (arith, ap (λ (x : Section). x.count) c.held_in-held.ensures ∙ held_total c.args.room.now, c.if-count-gt-PAIRS.false)), (ap (λ (x : Section). x.count) c.held_in-held.ensures ∙ held_total c.args.room.now), c.if-count-gt-PAIRS.false)

pub returns : goal.returns
returns c =
    let a = c.args in
    let s = c.if-source-ne2.false in
    let i = c.if-identifier-ne8.false in (
      quick_searched a.room.now a.source.now a.identifier.now (omega (arith, room_size_lem, c.if-room-lt-ROOM.false)) (omega (arith, ap (λ (x : Section). x.count) c.held_in-held.ensures ∙ held_total c.args.room.now, c.if-count-gt-PAIRS.false)) s i (ap (λ (x : Section). x.count) c.held_in-held.ensures ∙ held_total c.args.room.now)
          (key_pair a.source.now a.identifier.now s i _ c.word2.ensures.0 c.word8.ensures.0 refl refl) c.search_all.ensures.0,
      subst (λ (m : ℕ). c.search_all.result.examined ≤ binary_digits m) (ap (λ (x : Section). x.count) c.held_in-held.ensures ∙ held_total c.args.room.now) c.search_all.ensures.1,
    )
