use native.Mathlib.Omega.{arith}
use lib.ListN.{length}
use mathlib.Core.Path.{refl, ◌∙◌, ap}
use mathlib.Core.Logic.{inl, inr}
use Rattle.catalogue.specs.Findings.{notice_kind}
use Rattle.catalogue.proofs.laws.step.Line.{whole}
use Rattle.catalogue.proofs.laws.room.Places.{untyped}
use Rattle.catalogue.proofs.laws.room.Found.{notice_ok, line_key, long_enough, held_open, deletion_open, held_sought, deletion_sought}
use Rattle.catalogue.proofs.decide.look_both.Goals as goal

pub held_in-held-requires : goal.held_in-held-requires
held_in-held-requires c =
    (long_enough c.args.room.now c.requires.0).0

pub deletions_in-deletions-requires : goal.deletions_in-deletions-requires
deletions_in-deletions-requires c =
    (c.held_in-held.ensures, rw c.held_in-held.ensures (long_enough c.args.room.now c.requires.0).1)

pub key_at-key-requires : goal.key_at-key-requires
key_at-key-requires c =
    let n = (whole c.args.line.now (notice_ok c.args.line.now c.args.notice c.requires.1)).long in
    (omega arith, omega arith, untyped 31 (length c.args.line.now))

pub invariant_of-look : goal.invariant_of-look
invariant_of-look c =
    record { inside = (held_open c.args.room.now c.requires.0 c.held_in-held.ensures).0 }

pub look-in_held-requires : goal.look-in_held-requires
look-in_held-requires c =
    (held_open c.args.room.now c.requires.0 c.held_in-held.ensures).1

pub returns-then-skips : goal.returns-then-skips
returns-then-skips c =
    let s = c.skips.ensures c.if-skips.true in
    record {
      held_is = c.held_in-held.ensures;
      deletions_are = c.deletions_in-deletions.ensures;
      in_held = (held_sought c.args.room.now c.requires.0 c.held_in-held.ensures (c.key_at-key.ensures ∙ line_key c.args.line.now) c.look-in_held.result c.look-in_held.ensures);
      in_deletions = inr (c.requires.1 ∙ ap notice_kind s.0, s.1, refl);
    }

pub invariant_of-look-else-skips : goal.invariant_of-look-else-skips
invariant_of-look-else-skips c =
    record { inside = (deletion_open c.args.room.now c.requires.0 c.deletions_in-deletions.ensures).0 }

pub look-in_deletions-requires : goal.look-in_deletions-requires
look-in_deletions-requires c =
    (deletion_open c.args.room.now c.requires.0 c.deletions_in-deletions.ensures).1

pub returns-else-skips : goal.returns-else-skips
returns-else-skips c =
    let g = c.deletions_in-deletions.ensures in
    record {
      held_is = c.held_in-held.ensures;
      deletions_are = g;
      in_held = (held_sought c.args.room.now c.requires.0 c.held_in-held.ensures (c.key_at-key.ensures ∙ line_key c.args.line.now) c.look-in_held.result c.look-in_held.ensures);
      in_deletions = inl (deletion_sought c.args.room.now c.requires.0 g (c.key_at-key.ensures ∙ line_key c.args.line.now) c.look-in_deletions.result c.look-in_deletions.ensures);
    }
