use Rattle.image.proofs.tiled.Tiled.step_slot.Given as goal

abbrev pub ghost-step_chain : goal.ghost-step_chain
ghost-step_chain g a = g.does
