use Rattle.std.specs.Prelude.{◌-◌}
use Rattle.load.specs.Clauses.{Sweeping}
use Rattle.load.proofs.Locations.settled_from.Given as goal

abbrev pub invariant-loop-l : goal.invariant-loop-l
invariant-loop-l l = Sweeping l.self.standing l.at (l.l - l.at) l.all
