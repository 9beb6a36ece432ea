use Rattle.std.proofs.Common.{arith}
use Rattle.machine.proofs.places.Slots.lay.Goals as goal

pub returns : goal.returns
returns c = λ r e f h. c.lay_rest.ensures r e f h (c.lay_first.ensures _ r (omega arith))
