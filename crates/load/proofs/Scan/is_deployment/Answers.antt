use Rattle.load.specs.Scan.{is_deployment}
use Rattle.value.proofs.Tests.{same_le}
use Rattle.std.specs.Prelude.{refl}
use Rattle.load.proofs.Scan.is_deployment.Goals as goal

pub returns : goal.returns
unfolding is_deployment
returns c = same_le refl c.standing_at.ensures
