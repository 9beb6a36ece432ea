use Rattle.std.specs.Prelude.{◌-◌, ◌≤◌, ◌≡◌, length}
use Rattle.machine.proofs.BeforeCommand.{Going}
use Rattle.machine.proofs.accepted.Accepted.+run.Given as goal

abbrev pub invariant-loop-j : goal.invariant-loop-j
invariant-loop-j l =
    (length l.memory ≡ length l.initial.memory) × (l.h ≤ 64) × Going l.self.program.now l.self.facts.now l.readings l.h l.o l.initial.memory l.first l.at l.end l.memory l.slots.before l.n l.j

-- 65 less the depth
abbrev pub decreases-run : goal.decreases-run
decreases-run l = 65 - l.h
