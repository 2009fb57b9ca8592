use Rattle.catalogue.proofs.laws.demand.Desk.{desks}
use Rattle.catalogue.proofs.desk.two_desks.Goals as goal

-- Each desk is fed; the rest is demand 3.
pub returns : goal.returns
returns c =
    desks c.take_all.ensures c.take_all-2.ensures
