use Rattle.value.proofs.Tests.{same_and, same_le}
use Rattle.std.specs.Prelude.{refl}
use Rattle.load.proofs.tables.between.Goals as goal

pub returns : goal.returns
returns c = same_and (same_le refl refl) (same_le refl refl)
