use Rattle.image.specs.Passes.{deepen}
use Rattle.image.proofs.children.deepen.Goals as goal

pub returns : goal.returns
unfolding deepen
returns c = cc
