use Rattle.std.specs.Prelude.{◌+◌, ◌-◌, ◌≡◌, replicate}
use Rattle.image.specs.Memory.{used}
use Rattle.image.specs.Passes.{chain_from}
use Rattle.program.specs.Bytes.{reactors}
use Rattle.image.proofs.tiled.Tiled.chain_sound.Given as goal

abbrev pub invariant-loop : goal.invariant-loop
invariant-loop l =
    chain_from l.self.program.now l.self.memory.now (l.end - l.counter + 1) l.table l.o l.s l.last l.seen l.c
    ≡ chain_from l.self.program.now l.self.memory.now (reactors l.self.program.now + 1) l.table l.o l.s (used l.self.memory.now) (replicate 64 0) l.head
