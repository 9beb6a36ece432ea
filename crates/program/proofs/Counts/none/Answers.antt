use Rattle.value.specs.Test.{◌=?◌}
use Rattle.std.specs.Prelude.{refl}
use Rattle.program.proofs.Counts.none.Goals as goal

pub returns : goal.returns
unfolding ◌=?◌
returns c = refl
