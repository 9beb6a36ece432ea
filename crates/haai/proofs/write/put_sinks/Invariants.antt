use Rattle.program.specs.Command.{sink}
use Rattle.haai.proofs.Puts.{Putting}
use Rattle.haai.proofs.write.put_sinks.Given as goal

abbrev pub invariant-loop-x : goal.invariant-loop-x
invariant-loop-x l = Putting sink l.ls 0 l.n l.at l.initial.out l.out l.x
