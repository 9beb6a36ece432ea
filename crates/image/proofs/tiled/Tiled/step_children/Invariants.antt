use Rattle.std.specs.Prelude.{◌-◌, ◌≡◌}
use Rattle.image.specs.Passes.{children_from, children_of, over}
use Rattle.image.proofs.tiled.Tiled.step_children.Given as goal

abbrev pub ghost-step_slot : goal.ghost-step_slot
ghost-step_slot g a = g.does

abbrev pub invariant-loop-j : goal.invariant-loop-j
invariant-loop-j g l =
    over g.does l.table (children_from l.self.program.now l.self.memory.now (l.j-end - l.j) l.j l.o)
    ≡ over g.does l.initial.table (children_of l.self.program.now l.self.memory.now l.o)
