use Rattle.image.specs.Passes.{visit}
use Rattle.image.proofs.tiled.Tiled.visit.Goals as goal

pub returns-in-Starts : goal.returns-in-Starts
unfolding visit
returns-in-Starts c = rw c.in-Starts.is c.mark_start.ensures

pub returns-in-Names : goal.returns-in-Names
unfolding visit
returns-in-Names c = rw c.in-Names.is c.name_children.ensures

pub returns-in-Depths : goal.returns-in-Depths
unfolding visit
returns-in-Depths c = rw c.in-Depths.is c.deepen_children.ensures
