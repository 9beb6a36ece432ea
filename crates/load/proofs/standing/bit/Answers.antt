use Rattle.load.proofs.Bits.{shifted}
use Rattle.load.proofs.standing.bit.Goals as goal

pub returns : goal.returns
returns c = shifted c.args.x _ c.min.ensures
