use Rattle.program.specs.Bytes.{byte}
use Rattle.load.proofs.Locations.seen.Goals as goal

pub returns : goal.returns
unfolding byte
returns c = record { standing = c.byte.ensures; kind = c.byte-2.ensures }
