use Rattle.std.specs.Prelude.{◌-◌, length}
use Rattle.haai.proofs.Passing.{Passing}
use Rattle.haai.proofs.pass.write.Given as goal

abbrev pub invariant-loop-a : goal.invariant-loop-a
invariant-loop-a l = Passing l.t l.sizes l.end l.initial.out l.s l.a l.k l.ls l.out

abbrev pub decreases-loop-a : goal.decreases-loop-a
decreases-loop-a l = length l.t - l.a
