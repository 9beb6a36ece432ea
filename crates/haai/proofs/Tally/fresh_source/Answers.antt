use Rattle.std.proofs.Common.{ap}
use Rattle.std.specs.Prelude.{not}
use Rattle.value.proofs.Tests.{same_or}
use Rattle.haai.specs.Names.{fresh}
use Rattle.haai.proofs.Tally.fresh_source.Goals as goal

pub returns : goal.returns
unfolding fresh
returns c = ap not (same_or c.is_taken.ensures c.is_source.ensures)
