use Rattle.load.proofs.Loops.{Running}
use Rattle.load.proofs.known.Known.scan.Given as goal

abbrev pub invariant-loop-i : goal.invariant-loop-i
invariant-loop-i l = Running l.self.program.now l.self.reactor l.locations l.s l.i
