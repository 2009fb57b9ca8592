use Rattle.take.proofs.laws.Steps.{cut_at, whole}
use Rattle.take.specs.Session.{Session, cut}
use lib.ListN.{take}
use Rattle.take.proofs.intake.Intake.take_whole.Goals as goal

pub returns : goal.returns
unfolding cut
returns g c =
    let s : Session = record { room = c.self.inside.room; line = take c.self.inside.len c.self.inside.line; number = c.self.inside.number } in
    let t = c.answer-self-inside.ensures in
    rw (← c.self.view_is) (whole s c.args.line.now c.args.out.now (rw (← c.self.view_is) at c.requires.0) (cut_at c.args.line.now 1024 c.min.ensures) t.taken t.put)
