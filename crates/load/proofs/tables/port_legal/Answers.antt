use Rattle.load.specs.Tables.{port_legal}
use Rattle.value.proofs.Tests.{lt!, lt×, no, same_eq, same_lt, yes}
use Rattle.std.specs.Prelude.{refl}
use Rattle.std.proofs.Common.{arith}
use Rattle.load.proofs.tables.port_legal.Goals as goal

pub returns-then-j-count : goal.returns-then-j-count
unfolding port_legal
returns-then-j-count c = yes _ (lt! (omega arith)) (same_lt refl refl)

pub returns : goal.returns
unfolding port_legal
returns c = no _ (lt× (omega arith)) (same_eq refl refl)
