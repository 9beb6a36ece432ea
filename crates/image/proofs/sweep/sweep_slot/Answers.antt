use Rattle.image.proofs.Sweeping.{pair_value, cell_swept, nought_swept}
use Rattle.image.specs.Clauses.{made}
use Rattle.std.proofs.Common.{sym, ◌∙◌}
use Rattle.image.proofs.sweep.sweep_slot.Goals as goal

pub returns-in-Deployment : goal.returns-in-Deployment
unfolding made
returns-in-Deployment c = λ l at e. rw c.in-Deployment.is (c.sweep_mono.ensures _ l at e)

pub returns-in-Point : goal.returns-in-Point
unfolding made
returns-in-Point c = λ l at e. rw c.in-Point.is (c.sweep_point.ensures l at e)

pub returns-in-Cell : goal.returns-in-Cell
unfolding made
returns-in-Cell c = λ l at e.
    rw c.in-Cell.is (cell_swept _ _ _ l _ _ _ (pair_value _ _ _ l _ _ at c.pair.ensures) (sym c.legal.ensures ∙ e))

pub returns-in-Nothing : goal.returns-in-Nothing
unfolding made
returns-in-Nothing c = λ l at e. rw c.in-Nothing.is (nought_swept _ _ _ l _)
