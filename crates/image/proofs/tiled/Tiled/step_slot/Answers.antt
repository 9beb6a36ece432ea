use Rattle.image.specs.Passes.{named_by, over}
use Rattle.image.specs.Clauses.{made}
use Rattle.std.specs.Prelude.{refl}
use Rattle.image.proofs.tiled.Tiled.step_slot.Goals as goal

pub returns-in-Deployment : goal.returns-in-Deployment
unfolding made named_by over
returns-in-Deployment g c = rw (c.in-Deployment.is, ← c.content-c.ensures) (c.requires.1.1 _ _ _ c.step.ensures)

pub returns-in-Point : goal.returns-in-Point
unfolding made named_by
returns-in-Point g c = rw (c.in-Point.is, ← c.content-c.ensures) c.step_chain.ensures

pub returns-in-Cell : goal.returns-in-Cell
unfolding made named_by over
returns-in-Cell g c = rw c.in-Cell.is refl

pub returns-in-Nothing : goal.returns-in-Nothing
unfolding made named_by over
returns-in-Nothing g c = rw c.in-Nothing.is refl
