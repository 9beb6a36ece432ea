use Rattle.value.proofs.Tests.{same_and3, same_lt}
use Rattle.std.specs.Prelude.{refl}
use Rattle.image.proofs.chain.linked.Goals as goal

pub returns : goal.returns
returns c = same_and3 (same_lt refl refl) (same_lt refl refl) c.is_start.ensures
