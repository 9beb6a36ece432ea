use Rattle.machine.proofs.command.of_kind.Goals as goal

pub returns : goal.returns
returns c = rw (← c.mark_of.ensures)
