use Rattle.image.specs.Passes.{with_table_byte}
use Rattle.image.proofs.table.put_table_byte.Goals as goal

pub returns : goal.returns
unfolding with_table_byte
returns c = c.put.ensures
