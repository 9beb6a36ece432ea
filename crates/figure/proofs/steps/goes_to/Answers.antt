use Rattle.std.specs.Prelude.{refl}
use Rattle.value.proofs.Tests.{same_eq}
use Rattle.image.specs.Clauses.{made}
use Rattle.figure.specs.Steps.{goes_to}
use Rattle.figure.proofs.steps.goes_to.Goals as goal

pub returns-in-Deployment : goal.returns-in-Deployment
unfolding goes_to made
returns-in-Deployment c = rw c.in-Deployment.is (same_eq refl refl)

pub returns-in-Point : goal.returns-in-Point
unfolding goes_to made
returns-in-Point c = rw c.in-Point.is (same_eq c.shape_of.ensures refl)

pub returns-in-Cell : goal.returns-in-Cell
unfolding goes_to made
returns-in-Cell c = rw c.in-Cell.is refl

pub returns-in-Nothing : goal.returns-in-Nothing
unfolding goes_to made
returns-in-Nothing c = rw c.in-Nothing.is refl
