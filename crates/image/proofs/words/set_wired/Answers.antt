use Rattle.image.specs.Memory.{with_wired}
use Rattle.image.proofs.words.set_wired.Goals as goal

pub returns : goal.returns
unfolding with_wired
returns c = c.put.ensures
