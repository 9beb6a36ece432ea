use Rattle.program.specs.Bytes.{byte}
use Rattle.value.proofs.Tests.{same_and, same_eq}
use Rattle.std.specs.Prelude.{refl}
use Rattle.image.proofs.chain.joins.Goals as goal

pub returns : goal.returns
unfolding byte
returns c = same_and (same_eq c.shape_of.ensures refl) (same_eq c.byte.ensures refl)
