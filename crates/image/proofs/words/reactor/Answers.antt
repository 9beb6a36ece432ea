use Rattle.image.specs.Memory.{reactor}
use Rattle.image.proofs.words.reactor.Goals as goal

pub returns : goal.returns
unfolding reactor
returns c = c.word.ensures
