use Rattle.image.specs.Passes.{is_start}
use Rattle.value.proofs.Tests.{same_eq}
use Rattle.image.proofs.table.is_start.Goals as goal

pub returns : goal.returns
unfolding is_start
returns c = same_eq c.table_byte.ensures c.start_byte.ensures
