use Rattle.load.specs.Scan.{kind_at}
use Rattle.program.specs.Bytes.{byte}
use Rattle.load.proofs.Scan.kind_at.Goals as goal

pub returns : goal.returns
unfolding kind_at byte
returns c = c.byte.ensures
