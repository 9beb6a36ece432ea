use Rattle.image.specs.Memory.{with_used}
use Rattle.image.proofs.words.set_used.Goals as goal

pub returns : goal.returns
unfolding with_used
returns c = c.put.ensures
