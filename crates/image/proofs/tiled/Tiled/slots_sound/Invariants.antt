use Rattle.std.specs.Prelude.{◌-◌, ◌≡◌}
use Rattle.image.specs.Memory.{reactor}
use Rattle.image.specs.Clauses.{command_sound}
use Rattle.program.specs.Bytes.{commands_d}
use Rattle.value.specs.Test.{sweep}
use Rattle.image.proofs.tiled.Tiled.slots_sound.Given as goal

abbrev pub invariant-loop-j : goal.invariant-loop-j
invariant-loop-j l =
    let p = l.self.program.now in let m = l.self.memory.now in
    sweep (command_sound p m l.table l.o) l.j (l.j-end - l.j) ≡ sweep (command_sound p m l.table l.o) 0 (commands_d p (reactor m l.o))
