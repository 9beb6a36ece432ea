use Rattle.image.specs.Memory.{slot}
use Rattle.std.proofs.Common.{arith}
use Rattle.machine.proofs.places.after.Goals as goal

pub returns : goal.returns
unfolding slot
returns c = record { is = (λ p m l e. omega (arith, e)); at = omega arith; small = omega arith }
