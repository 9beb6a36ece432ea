use Rattle.image.specs.Passes.{name}
use Rattle.image.proofs.tiled.Tiled.name_children.Given as goal

abbrev pub ghost-step_children : goal.ghost-step_children
ghost-step_children a = name
