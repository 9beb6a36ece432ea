use Rattle.image.specs.Passes.{deepen}
use Rattle.image.proofs.tiled.Tiled.deepen_children.Given as goal

abbrev pub ghost-step_children : goal.ghost-step_children
ghost-step_children a = deepen a.o
