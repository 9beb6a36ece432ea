use Rattle.load.specs.Scan.{standing_at}
use Rattle.program.specs.Bytes.{byte}
use Rattle.load.proofs.Scan.standing_at.Goals as goal

pub returns : goal.returns
unfolding standing_at byte
returns c = c.byte.ensures
