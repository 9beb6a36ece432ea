use Rattle.image.specs.Memory.{turns}
use Rattle.image.proofs.words.turns.Goals as goal

pub returns : goal.returns
unfolding turns
returns c = c.word.ensures
