use Rattle.std.specs.Prelude.{◌≡◌}
use Rattle.load.specs.Clauses.{state}
use Rattle.load.specs.Scan.{with_sources}
use Rattle.load.proofs.known.Known.with_sources.Given as goal

abbrev pub invariant-loop-x : goal.invariant-loop-x
invariant-loop-x l =
    state l.locations 0 ≡ with_sources l.x l.self.program.now l.self.reactor (state l.initial.locations 0)
