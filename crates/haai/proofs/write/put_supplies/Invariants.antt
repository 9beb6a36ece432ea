use Rattle.program.specs.Command.{supply}
use Rattle.haai.proofs.Puts.{Putting}
use Rattle.haai.proofs.write.put_supplies.Given as goal

abbrev pub invariant-loop-x : goal.invariant-loop-x
invariant-loop-x l = Putting (λ y k. supply y k l.b) l.ls l.i l.n l.at l.initial.out l.out l.x
