use Rattle.image.specs.Passes.{table_byte}
use Rattle.program.specs.Bytes.{byte}
use Rattle.image.proofs.table.table_byte.Goals as goal

pub returns : goal.returns
unfolding table_byte byte
returns c = c.byte.ensures
