use Rattle.std.specs.Prelude.{refl}
use Rattle.std.proofs.Common.{arith}
use Rattle.value.proofs.Tests.{yes, no, eq!, eq×}
use Rattle.rig.specs.Clauses.{placed_at}
use Rattle.rig.proofs.Numbers.{not_ten}
use Rattle.rig.proofs.pairs.with_place.Goals as goal

pub returns-in-Ok : goal.returns-in-Ok
unfolding placed_at
returns-in-Ok c = rw c.in-Ok.is (no _ (eq× (λ e. omega arith)) refl)

pub returns-in-ReadingsLength : goal.returns-in-ReadingsLength
unfolding placed_at
returns-in-ReadingsLength c = rw (c.in-Err.is, c.in-ReadingsLength.is) (yes _ (eq! refl) refl)

pub returns-in_default : goal.returns-in_default
unfolding placed_at
returns-in_default c = rw c.in-Err.is (no _ (eq× (not_ten c.in-Err.why c.in_default.not-ReadingsLength)) refl)
