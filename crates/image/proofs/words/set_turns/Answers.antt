use Rattle.image.specs.Memory.{with_turns}
use Rattle.image.proofs.words.set_turns.Goals as goal

pub returns : goal.returns
unfolding with_turns
returns c = c.put.ensures
