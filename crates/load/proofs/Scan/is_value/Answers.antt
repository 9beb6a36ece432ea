use Rattle.load.specs.Scan.{is_value}
use Rattle.value.proofs.Tests.{same_eq}
use Rattle.std.specs.Prelude.{refl}
use Rattle.load.proofs.Scan.is_value.Goals as goal

pub returns : goal.returns
unfolding is_value
returns c = same_eq c.standing_at.ensures refl
