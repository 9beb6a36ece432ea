use Rattle.image.specs.Memory.{next}
use Rattle.image.proofs.words.next.Goals as goal

pub returns : goal.returns
unfolding next
returns c = c.word.ensures
