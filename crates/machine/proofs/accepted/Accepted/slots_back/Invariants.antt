use Rattle.std.specs.Prelude.{◌-◌, ◌≡◌, length}
use Rattle.image.specs.Memory.{reactor}
use Rattle.program.specs.Bytes.{commands_d}
use Rattle.remus.specs.Undo.{slots_back}
use Rattle.machine.proofs.accepted.Accepted.slots_back.Given as goal

abbrev pub invariant-loop-j : goal.invariant-loop-j
invariant-loop-j l =
    (length l.memory ≡ length l.initial.memory) × (reactor l.memory l.o ≡ reactor l.initial.memory l.o)
    × (slots_back l.self.program.now l.u (l.j-end - l.j) l.j l.memory l.o ≡ slots_back l.self.program.now l.u (commands_d l.self.program.now (reactor l.initial.memory l.o)) 0 l.initial.memory l.o)
