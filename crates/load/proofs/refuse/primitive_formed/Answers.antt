use Rattle.load.specs.Scan.{formed}
use Rattle.value.proofs.Tests.{same_and4, same_eq, same_le, same_or}
use Rattle.std.specs.Prelude.{refl}
use Rattle.load.proofs.refuse.primitive_formed.Goals as goal

pub returns : goal.returns
unfolding formed
returns c = let operands = c.operands-n in
    same_and4 c.is_primitive.ensures (same_eq refl refl)
    (same_or (same_le refl operands.ensures) (same_eq refl refl))
    (same_or (same_le refl operands.ensures) (same_eq refl refl))
