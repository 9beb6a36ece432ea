use Rattle.std.specs.Prelude.{◌-◌, ◌*◌, ◌≡◌, length}
use Rattle.image.specs.Memory.{patch}
use Rattle.remus.specs.Clear.{pairs_from, sunk}
use Rattle.machine.proofs.accepted.Accepted.write_sinks.Given as goal

abbrev pub invariant-loop-x : goal.invariant-loop-x
invariant-loop-x l =
    (length l.space ≡ length l.initial.space)
    × (patch l.space (2 * l.x) (pairs_from l.self.program.now (l.n - l.x) l.x l.memory) ≡ sunk l.self.program.now l.memory l.initial.space)
