use Rattle.std.specs.Prelude.{ℕ, suc, ◌-◌, ◌≤◌, ◌≡◌, List, length}
use Rattle.image.specs.Memory.{reactor, wired}
use Rattle.machine.specs.Clauses.{Left}
use Rattle.program.specs.Bytes.{commands_in}
use Rattle.remus.specs.Run.{run_of}
use Rattle.remus.specs.Steady.{Steady}
use Rattle.machine.proofs.accepted.Accepted.wire.Given as goal

abbrev pub invariant-loop-j : goal.invariant-loop-j
invariant-loop-j l =
    (length l.memory ≡ length l.initial.memory) × (l.j ≤ l.n)
    × ((rd : List ℕ) (f : ℕ) → Steady l.self.program.now rd (suc f) l.h l.initial.memory l.o → wired l.initial.memory l.o ≡ 0
    → Left l.self.program.now rd f l.h l.o (run_of (suc f) l.self.program.now rd l.h l.initial.memory l.o) (reactor l.initial.memory l.o)
    (commands_in l.self.program.now (reactor l.initial.memory l.o) - l.j) l.j l.memory)
