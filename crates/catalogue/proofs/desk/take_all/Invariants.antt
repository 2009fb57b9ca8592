use Rattle.catalogue.proofs.laws.demand.Desk.{Feeding}
use Rattle.catalogue.proofs.desk.take_all.Given as goal

-- What is left to take gives what the whole gives.
abbrev pub invariant-loop-last : goal.invariant-loop-last
invariant-loop-last l =
    Feeding l.initial.room l.bytes l.ends l.room l.start l.last-index l.refused
