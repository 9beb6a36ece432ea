use Rattle.value.specs.Primitive.{table, row_of, primitive}
use Rattle.value.proofs.table.Primitive.apply.Goals as goal

pub returns-in-Times : goal.returns-in-Times
unfolding primitive row_of table
returns-in-Times c = rw c.in-Times.is c.on_numbers-in-Times.ensures
