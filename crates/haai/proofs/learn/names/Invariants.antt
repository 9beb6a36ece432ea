use Rattle.std.specs.Prelude.{◌-◌, length}
use Rattle.haai.proofs.Gathering.{Gathering}
use Rattle.haai.proofs.learn.names.Given as goal

abbrev pub invariant-loop-a : goal.invariant-loop-a
invariant-loop-a l = Gathering l.t l.s l.a l.k

abbrev pub decreases-loop-a : goal.decreases-loop-a
decreases-loop-a l = length l.t - l.a
