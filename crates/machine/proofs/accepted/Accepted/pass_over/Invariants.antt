use Rattle.std.specs.Prelude.{◌-◌, ◌≡◌, length}
use Rattle.image.specs.Clauses.{Tiling, starts_on}
use Rattle.image.specs.Memory.{starts_below}
use Rattle.image.specs.Passes.{over}
use Rattle.machine.proofs.accepted.Accepted.pass_over.Given as goal

abbrev pub invariant-loop-a : goal.invariant-loop-a
invariant-loop-a g l =
    (length l.memory ≡ length l.initial.memory)
    × Tiling l.self.program.now l.memory l.u l.a
    × (over (g.C.Change.makes l.change l.self.program.now) l.memory (starts_on l.self.program.now l.memory l.u l.a) ≡ over (g.C.Change.makes l.change l.self.program.now) l.initial.memory
    (starts_below l.self.program.now l.initial.memory l.u))

abbrev pub decreases-loop-a : goal.decreases-loop-a
decreases-loop-a g l = l.u - l.a
