use Rattle.remus.specs.Turn.{reading_at}
use Rattle.machine.proofs.command.reading_at.Goals as goal

pub returns : goal.returns
unfolding reading_at
returns c = c.pair.ensures
