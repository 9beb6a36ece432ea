use Rattle.std.specs.Prelude.{◌≡◌}
use Rattle.load.specs.Clauses.{state}
use Rattle.load.specs.Scan.{with_sinks}
use Rattle.load.proofs.known.Known.with_sinks.Given as goal

abbrev pub invariant-loop-x : goal.invariant-loop-x
invariant-loop-x l =
    state l.locations 0 ≡ with_sinks l.x l.self.program.now l.self.reactor (state l.initial.locations 0)
