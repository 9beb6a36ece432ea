use Rattle.machine.proofs.Stretch.{zero_none, zero_rest}
use Rattle.std.specs.Prelude.{refl}
use Rattle.machine.proofs.undo.zero_from.Goals as goal

pub returns-then-i-n : goal.returns-then-i-n
returns-then-i-n c = zero_rest _ _ _ _ refl c.if-i-n.true c.wipe.ensures

pub returns-else-i-n : goal.returns-else-i-n
returns-else-i-n c = zero_none _ _ c.if-i-n.false
