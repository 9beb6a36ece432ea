use Rattle.value.proofs.Tests.{same_le}
use Rattle.std.specs.Prelude.{refl}
use Rattle.machine.proofs.allocate.room.Goals as goal

pub returns : goal.returns
returns c = rw (← c.used.ensures) (same_le refl refl)
