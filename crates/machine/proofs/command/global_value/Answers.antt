use Rattle.machine.proofs.Acting.{global_reading, global_time}
use Rattle.std.proofs.Common.{arith}
use Rattle.machine.proofs.command.global_value.Goals as goal

pub returns-then-x-lt1 : goal.returns-then-x-lt1
returns-then-x-lt1 c = global_time _ _ _ _ (omega arith) (omega arith)

pub returns : goal.returns
returns c = global_reading _ _ _ (omega arith) c.reading_at.ensures
