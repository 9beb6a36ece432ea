use Rattle.remus.specs.Undo.{back, zero_from}
use Rattle.machine.proofs.accepted.Accepted.first_back.Goals as goal

pub returns : goal.returns
unfolding back zero_from
returns c = rw (← c.zero_from.ensures) c.set_wired.ensures
