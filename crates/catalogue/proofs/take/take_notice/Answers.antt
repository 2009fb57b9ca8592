use native.Mathlib.Omega.{arith}
use Rattle.catalogue.specs.Entries.{entries_of}
use Rattle.catalogue.proofs.laws.step.Line.{whole}
use Rattle.catalogue.proofs.laws.room.Found.{notice_ok, known_placed, notice_apart}
use Rattle.catalogue.proofs.laws.room.Took.{few_named, decided, took}
use Rattle.catalogue.proofs.take.take_notice.Goals as goal

pub decide-requires : goal.decide-requires
decide-requires c =
    (known_placed c.args.room.now c.requires.0 c.args.line.now c.look_both-f.result c.look_both-f.ensures, (whole c.args.line.now ((notice_ok c.args.line.now c.args.notice c.requires.2))).long)

pub carry_out-requires : goal.carry_out-requires
carry_out-requires c = (
  c.requires.0,
  c.look_both-f.ensures,
  (let f = c.look_both-f in
      decided c.requires.0 f.ensures c.args.notice c.requires.2 c.requires.1 c.decide.ensures (c.limited-deed.ensures (entries_of f.result.deletions c.args.room.now) (entries_of f.result.held c.args.room.now))),
  notice_apart c.args.line.now c.args.notice c.requires.2,
)

pub named_after-requires : goal.named_after-requires
named_after-requires c =
    omega (arith, c.requires.1, few_named c.requires.0)

pub returns : goal.returns
returns c =
    took c.requires.0 c.look_both-f.ensures ((notice_ok c.args.line.now c.args.notice c.requires.2)) ((let f = c.look_both-f in
    decided c.requires.0 f.ensures c.args.notice c.requires.2 c.requires.1 c.decide.ensures (c.limited-deed.ensures (entries_of f.result.deletions c.args.room.now) (entries_of f.result.held c.args.room.now)))) c.requires.1
    c.carry_out.ensures _ c.answer_of.ensures c.named_after.ensures
