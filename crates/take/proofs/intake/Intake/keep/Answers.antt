use Rattle.take.proofs.laws.Steps.{cut_at, kept_part}
use Rattle.take.specs.Session.{grown}
use native.Mathlib.Omega.{arith}
use mathlib.Core.Path.{ap}
use mathlib.Core.List.{List}
use Prim.Native.Nat.{ℕ, ◌-◌}
use lib.ListN.{length-take}
use Rattle.take.proofs.intake.Intake.keep.Goals as goal

pub returns : goal.returns
unfolding grown
returns c =
    let s = c.self.inside in
    let i = c.self.invariant in
    let k = kept_part s.line c.args.part.now s.len c.self.told.1 i.2 (cut_at c.args.part.now (1024 - s.len) c.min.ensures) c.copy_in.ensures in
    rw (← c.self.view_is) (ap (λ (l : List ℕ). record { room = s.room; line = l; number = s.number }) k, omega (arith, length-take s.len s.line, i.2))
