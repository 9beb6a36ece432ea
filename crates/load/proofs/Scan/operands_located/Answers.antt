use Rattle.load.specs.Scan.{located}
use Rattle.value.proofs.Tests.{same_and3, same_lt, same_or}
use Rattle.std.specs.Prelude.{refl}
use Rattle.load.proofs.Scan.operands_located.Goals as goal

pub returns : goal.returns
unfolding located
returns c = let operands = c.operands-n in
    same_and3 c.is_value.ensures
    (same_or (same_lt operands.ensures refl) c.is_value-2.ensures)
    (same_or (same_lt operands.ensures refl) c.is_value-3.ensures)
