use Rattle.image.specs.Memory.{wired}
use Rattle.image.proofs.words.wired.Goals as goal

pub returns : goal.returns
unfolding wired
returns c = c.word.ensures
