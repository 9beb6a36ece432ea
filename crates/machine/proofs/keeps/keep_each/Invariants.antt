use Rattle.std.specs.Prelude.{◌+◌, ◌-◌, ◌*◌, ◌≤◌, ◌≡◌, length}
use Rattle.image.specs.Memory.{reactor}
use Rattle.program.specs.Bytes.{commands_d}
use Rattle.program.specs.Location.{slot_at, source_count}
use Rattle.remus.specs.Cells.{keep_from, keep_one}
use Rattle.machine.proofs.keeps.keep_each.Given as goal

abbrev pub invariant-loop-j : goal.invariant-loop-j
invariant-loop-j l =
    (length l.memory ≡ length l.initial.memory) × (reactor l.memory l.o ≡ reactor l.initial.memory l.o)
    × (l.next ≡ l.o + slot_at l.program (reactor l.initial.memory l.o)
    (source_count l.program (reactor l.initial.memory l.o) + commands_d l.program (reactor l.initial.memory l.o) + l.j))
    × (l.next ≤ l.o + 1024 + 2 * l.j)
    × (keep_from l.program (l.j-end - l.j) (commands_d l.program (reactor l.initial.memory l.o) + l.j) l.memory l.o ≡ keep_one l.program l.initial.memory l.o)
