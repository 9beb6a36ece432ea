use Rattle.image.specs.Memory.{used}
use Rattle.image.proofs.words.used.Goals as goal

pub returns : goal.returns
unfolding used
returns c = c.word.ensures
