use Rattle.remus.specs.Undo.{undo_of}
use Rattle.machine.proofs.accepted.Accepted.undo.Goals as goal

pub returns : goal.returns
unfolding undo_of
returns c = rw (← c.back.ensures) c.set_used.ensures
