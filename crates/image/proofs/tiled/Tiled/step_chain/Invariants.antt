use Rattle.std.specs.Prelude.{◌-◌, ◌≡◌}
use Rattle.image.specs.Passes.{members_from, over}
use Rattle.program.specs.Bytes.{reactors}
use Rattle.image.proofs.tiled.Tiled.step_chain.Given as goal

abbrev pub invariant-loop : goal.invariant-loop
invariant-loop g l =
    over g.does l.table (members_from l.self.program.now l.self.memory.now (l.end - l.counter) l.c)
    ≡ over g.does l.initial.table (members_from l.self.program.now l.self.memory.now (reactors l.self.program.now) l.head)
