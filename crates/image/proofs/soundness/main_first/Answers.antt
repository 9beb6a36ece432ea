use Rattle.value.proofs.Tests.{same_and, same_eq, same_lt}
use Rattle.std.specs.Prelude.{refl}
use Rattle.image.proofs.soundness.main_first.Goals as goal

pub returns : goal.returns
returns c = same_and (same_lt refl refl) (same_eq c.reactor.ensures c.main_of.ensures)
