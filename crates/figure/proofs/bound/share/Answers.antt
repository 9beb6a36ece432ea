use Rattle.std.proofs.Common.{arith}
use Rattle.image.specs.Clauses.{made}
use Rattle.figure.specs.Bound.{share}
use Rattle.figure.proofs.Capping.{capped_low}
use Rattle.figure.proofs.bound.share.Goals as goal

pub returns-in-Deployment : goal.returns-in-Deployment
unfolding share made
returns-in-Deployment c = λ p b t s. rw c.in-Deployment.is (t _ (omega arith))

pub returns-in-Point : goal.returns-in-Point
unfolding share made
returns-in-Point c = λ p b t s. rw c.in-Point.is (s _ (omega arith))

pub returns-in-Cell : goal.returns-in-Cell
unfolding share made
returns-in-Cell c = λ p b t s. rw c.in-Cell.is (capped_low (omega arith))

pub returns-in-Nothing : goal.returns-in-Nothing
unfolding share made
returns-in-Nothing c = λ p b t s. rw c.in-Nothing.is (capped_low (omega arith))
