use Rattle.image.specs.Memory.{content, mark, value_at}
use Rattle.machine.proofs.places.Slots.operand.Goals as goal

pub returns : goal.returns
unfolding value_at mark content
returns c = λ p e. rw (← c.index-i.ensures.is p _ e) c.pair.ensures
