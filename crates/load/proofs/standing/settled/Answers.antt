use Rattle.load.specs.Scan.{settled}
use Rattle.value.proofs.Tests.{same_eq, same_lt, same_or5}
use Rattle.std.specs.Prelude.{refl}
use Rattle.load.proofs.standing.settled.Goals as goal

pub returns : goal.returns
unfolding settled
returns c = same_or5 (same_lt refl refl) (same_eq refl refl) (same_eq refl refl) (same_eq refl refl) (same_eq refl refl)
