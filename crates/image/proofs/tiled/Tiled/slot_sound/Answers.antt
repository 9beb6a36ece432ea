use Rattle.image.specs.Clauses.{made}
use Rattle.image.specs.Passes.{slot_sound}
use Rattle.program.specs.Kind.{legal}
use Rattle.std.specs.Prelude.{refl}
use Rattle.std.proofs.Common.{◌∙◌, ap}
use Rattle.image.proofs.tiled.Tiled.slot_sound.Goals as goal

pub returns-in-Deployment : goal.returns-in-Deployment
unfolding made
returns-in-Deployment c = rw c.in-Deployment.is c.mono_sound.ensures

pub returns-in-Point : goal.returns-in-Point
unfolding made
returns-in-Point c = rw c.in-Point.is c.point_sound.ensures

pub returns-in-Cell : goal.returns-in-Cell
unfolding made slot_sound
returns-in-Cell c = rw c.in-Cell.is (c.legal.ensures ∙ ap (legal _ _) c.value_at.ensures)

pub returns-in-Nothing : goal.returns-in-Nothing
unfolding made slot_sound
returns-in-Nothing c = rw c.in-Nothing.is refl
