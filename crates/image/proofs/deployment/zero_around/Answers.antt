use Rattle.value.proofs.Tests.{same_and}
use Rattle.image.proofs.deployment.zero_around.Goals as goal

pub returns : goal.returns
returns c = same_and c.zero_at.ensures c.zero_at-2.ensures
