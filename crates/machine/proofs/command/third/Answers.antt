use Rattle.value.proofs.Rows.{third_unread}
use Rattle.value.specs.Primitive as Op
use Rattle.std.proofs.Common.{ap}
use Rattle.machine.proofs.command.third.Goals as goal

pub returns-then-x-ne-CHOOSE : goal.returns-then-x-ne-CHOOSE
returns-then-x-ne-CHOOSE c = λ p a b e. third_unread _ a b _ _ c.if-x-ne-CHOOSE.true

pub returns : goal.returns
returns c = let args = c.args in
    λ p a b e. ap (Op.primitive args.x a b) (c.operand.ensures p e)
